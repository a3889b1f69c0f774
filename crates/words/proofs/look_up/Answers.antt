-- `words::look_up` meets its contract: the marked rank is the number, or tells the kind. Assumes nothing.
use mathlib.Core.Path.{ap, ◌∙◌}
use Prim.Native.Nat.{◌<◌}
use native.Mathlib.Omega.{arith}
use Rattle.words.proofs.Ranks.{rank, rank_small}
use Rattle.words.proofs.Marked.{marked_number, marked_kind}
use Rattle.words.proofs.look_up.Goals as goal
use Rattle.std.specs.Prelude.{Err}

pub overflow_add-rank : goal.overflow_add-rank
overflow_add-rank c =
    let small : rank c.part_at-part.result.words c.part_at-part.result.before c.args.word < 2048 = rank_small c.args.word _ c.part_at-part.ensures.0 _ c.part_at-part.ensures.1 in
    record { fits = omega (arith, small) }

pub overflow_add-rank-2 : goal.overflow_add-rank-2
overflow_add-rank-2 c =
    let small : rank c.part_at-part.result.words c.part_at-part.result.before c.args.word < 2048 = rank_small c.args.word _ c.part_at-part.ensures.0 _ c.part_at-part.ensures.1 in
    record { fits = omega (arith, small) }

pub returns-then-rank-lt2048 : goal.returns-then-rank-lt2048
returns-then-rank-lt2048 c =
    marked_number c.args.word _ c.part_at-part.ensures.0 _ c.part_at-part.ensures.1 _ _ c.barred_at-barred.ensures.1
    c.barred_at-barred.ensures.0 c.if-rank-lt2048.true

pub returns : goal.returns
returns c =
    ap Err c.kind_marked-kind.ensures
    ∙ marked_kind c.args.word _ c.part_at-part.ensures.0 _ c.part_at-part.ensures.1 _ _ c.barred_at-barred.ensures.1
    c.barred_at-barred.ensures.0 (omega arith)
