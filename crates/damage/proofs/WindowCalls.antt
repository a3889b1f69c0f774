-- Both window calls are readers with the tests of `the_tests`: what is proved of such a reader holds of each. One burst is document 02, No. 8.
-- Assumes nothing.
use mathlib.Core.Path.{◌≡◌, refl, subst}
use Rattle.reader.specs.declared.Asked.{Asked}
use Rattle.reader.specs.declared.Asked.TheVariants.{Proper, WellFormed}
use Rattle.reader.specs.Reads.{read_table, read_as, read_by}
use Rattle.damage.specs.Bursts.{RefusesBursts, OneBurst, MissesBursts, LongerBurst}
use Rattle.damage.specs.Scattered.{RefusesScattered, ScatteredChanges, MissesScattered, MoreScattered}
use Rattle.damage.specs.Slips.{slip_limit, slip_reach, far_slip_limit, far_slip_reach, RefusesSlips, Slips, SettlesSlips, SlipsAnywhere, MissesSlips, MoreSlips}
use Rattle.damage.specs.Readers.{table_with, read_with, the_tests}
use Rattle.damage.proofs.Bursts.OneBurst.{refuses_bursts}
use Rattle.damage.proofs.Bursts.LongerBurst.{misses_bursts}
use Rattle.damage.proofs.Scattered.FewChanges.{refuses_scattered}
use Rattle.damage.proofs.Scattered.OneMore.{misses_scattered}
use Rattle.damage.proofs.Slips.FarEnough.{refuses_slips, refuses_far_slips}
use Rattle.damage.proofs.Slips.Anywhere.{settles_slips}
use Rattle.damage.proofs.Slips.OneMore.{misses_slips}

pub the_tests_lem : (asked : Asked) → read_with the_tests asked ≡ read_by asked
unfolding read_with table_with read_by read_as read_table
the_tests_lem asked = refl

pub one_burst : OneBurst
one_burst =
    record {
      by_read = subst RefusesBursts (the_tests_lem Proper) (refuses_bursts Proper);
      by_read_well_formed = subst RefusesBursts (the_tests_lem WellFormed) (refuses_bursts WellFormed);
    }

pub longer_burst : LongerBurst
longer_burst =
    record {
      by_read = subst MissesBursts (the_tests_lem Proper) (misses_bursts Proper);
      by_read_well_formed = subst MissesBursts (the_tests_lem WellFormed) (misses_bursts WellFormed);
    }

pub scattered_changes : ScatteredChanges
scattered_changes =
    record {
      by_read = subst RefusesScattered (the_tests_lem Proper) (refuses_scattered Proper);
      by_read_well_formed = subst RefusesScattered (the_tests_lem WellFormed) (refuses_scattered WellFormed);
    }

pub more_scattered : MoreScattered
more_scattered =
    record {
      by_read = subst MissesScattered (the_tests_lem Proper) (misses_scattered Proper);
      by_read_well_formed = subst MissesScattered (the_tests_lem WellFormed) (misses_scattered WellFormed);
    }

pub slips : Slips
slips =
    record {
      by_read = subst (RefusesSlips slip_limit slip_reach) (the_tests_lem Proper) (refuses_slips Proper);
      by_read_well_formed = subst (RefusesSlips slip_limit slip_reach) (the_tests_lem WellFormed) (refuses_slips WellFormed);
      far_by_read = subst (RefusesSlips far_slip_limit far_slip_reach) (the_tests_lem Proper) (refuses_far_slips Proper);
      far_by_read_well_formed = subst (RefusesSlips far_slip_limit far_slip_reach) (the_tests_lem WellFormed) (refuses_far_slips WellFormed);
    }

pub slips_anywhere : SlipsAnywhere
slips_anywhere =
    record {
      by_read = subst (SettlesSlips far_slip_limit) (the_tests_lem Proper) (settles_slips Proper);
      by_read_well_formed = subst (SettlesSlips far_slip_limit) (the_tests_lem WellFormed) (settles_slips WellFormed);
    }

pub more_slips : MoreSlips
more_slips =
    record {
      by_read = subst MissesSlips (the_tests_lem Proper) (misses_slips Proper);
      by_read_well_formed = subst MissesSlips (the_tests_lem WellFormed) (misses_slips WellFormed);
    }
