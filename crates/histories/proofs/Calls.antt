-- The rows of calls hold.
use Rattle.std.proofs.Common.{zero, suc, [], ◌∷◌, refl}
use mathlib.Core.Bool.{false≢true}
use Rattle.clause.specs.Groups.{least}
use Rattle.rules.specs.State.{vacant, holds, AllBounded}
use Rattle.histories.specs.Short.{free}
use Rattle.histories.specs.Calls.{Calls}

each_bounded : AllBounded (vacant ∷ holds 7 free ∷ [])
each_bounded zero = refl
each_bounded (suc zero) = refl
each_bounded (suc (suc i)) = refl

pub calls : Calls
unfolding least
calls =
    record {
      questions = refl;
      sizes = refl;
      flowing = refl;
      keyed = refl;
      empty_records = refl;
      closed_tasks = refl;
      empty_record = refl;
      closed_task = refl;
      record_put = refl;
      record_kept = refl;
      task_put = refl;
      task_kept = refl;
      opened = refl;
      took = refl;
      took_less = refl;
      stayed = refl;
      endorsed = refl;
      added = refl;
      less = refl;
      times = refl;
      floor = refl;
      below_ceiling = refl;
      ceiling = refl;
      ceiling_times = refl;
      last_manner = refl;
      no_manner = refl;
      largest = refl;
      too_large = refl;
      empty_bounded = refl;
      held_bounded = refl;
      all_bounded = each_bounded;
      not_all_bounded = λ b. false≢true (b 1);
      label_of_row = refl;
      label_of_none = refl;
      figure_of_row = refl;
      figure_of_none = refl;
      label_there = refl;
      figure_there = refl;
      granted_is = refl;
      refused_is_not = refl;
      after_it = refl;
      answer_to_it = refl;
      covered_together = refl;
      sight_not_covered = refl;
      hand_not_covered = refl;
    }
