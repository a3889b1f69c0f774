-- `words::kind_marked` meets its contract. Assumes nothing.
use borrow.Author.Tests.{lt-ltb, le-ltb}
use Rattle.words.specs.BarredOf64.{kind_marked}
use Rattle.words.proofs.kind_marked.Goals as goal

pub returns-then-rank-lt4096 : goal.returns-then-rank-lt4096
unfolding kind_marked
returns-then-rank-lt4096 c = rw (lt-ltb _ 4096 c.if-rank-lt4096.true)

pub returns-then-rank-lt6144 : goal.returns-then-rank-lt6144
unfolding kind_marked
returns-then-rank-lt6144 c = rw (le-ltb _ 4096 c.if-rank-lt4096.false, lt-ltb _ 6144 c.if-rank-lt6144.true)

pub returns : goal.returns
unfolding kind_marked
returns c = rw (le-ltb _ 4096 c.if-rank-lt4096.false, le-ltb _ 6144 c.if-rank-lt6144.false)
