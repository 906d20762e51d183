-- The rows of the docket's lines, of C and of the monitor hold.
use Rattle.std.proofs.Common.{◌≡◌, ℕ, ◌<◌, List, [], ◌∷◌, map, get_or, sym, refl, ap, ◌∙◌, true≢false, arith, lit<}
use Rattle.answer.specs.Told.{Told, granted, refused, question_of}
use Rattle.clause.specs.Groups.{least}
use Rattle.label.specs.Labels.{Marks}
use Rattle.rules.specs.State.{Place, bounded, vacant, holds, blank}
use Rattle.rules.specs.Step.{Ruled}
use Rattle.rules.specs.Runs.{is_granted}
use Rattle.monitor.specs.View.{place_of}
use Rattle.histories.specs.Filed.{Filings, ForC, InMonitor, Filed}
use Rattle.histories.proofs.Apart.{differ}

filings : Filings
filings =
    record {
      filings = refl;
      granted_verdict = refl;
      refused_verdict = refl;
      with_new_row = refl;
      without_new = refl;
      release_filed = refl;
      endorse_filed = refl;
      none_filed = refl;
      plain_in_row = λ e. refl;
      plain_in_none = refl;
      bytes_of_row = refl;
      bytes_of_none = refl;
      bytes_in_none = refl;
    }

for_c : ForC
unfolding least
for_c =
    record {
      clauses = refl;
      clauses_left = refl;
      even = refl;
      uneven = refl;
      formula = refl;
      formula_odd = refl;
      formula_nine = refl;
      implies = refl;
      implies_not = refl;
      first_odd = refl;
      first_large = refl;
      second_odd = refl;
      second_large = refl;
      first_long = refl;
      outcome_no = refl;
      outcome_yes = refl;
      outcome_first = refl;
      outcome_second = refl;
      by_groups_yes = λ g h m. (m.0, tt);
      by_groups_not_yes = λ i. (i 1 (lit< tt) (differ refl, tt)).0 refl;
      by_groups_no = λ i. (i 1 (lit< tt) (differ refl, tt)).0 refl;
      by_groups_not_no = λ n. n (λ g h m. (m.0, tt));
      by_groups_first = refl;
      by_groups_not_first = λ e. true≢false (ap is_granted e);
      by_groups_second = refl;
      by_groups_not_second = λ e. true≢false (ap is_granted e);
      read_entry = refl;
      read_over = refl;
      read_refused = refl;
      or_zero_row = refl;
      zero_else = refl;
      group_in_row = refl;
      no_group_in = refl;
      eight_places = refl;
      filled_granted = refl;
      filled_refused = refl;
      left_filled = refl;
      left_over = refl;
      left_refused = refl;
    }

-- a figure, told as an answer
abbrev tell : ℕ → Ruled
tell n = record { state = blank; answer = granted (n ∷ []) }

abbrev first_of : Told → ℕ
first_of (granted vs) = get_or vs 0 0
first_of (refused q vs) = 0

abbrev first_in : Ruled → ℕ
first_in r = first_of r.answer

-- on with the same
on_to : {a a' n n' : ℕ} {l l' r r' : Marks} (next : ℕ → Marks → ℕ → Marks → Ruled) → a ≡ a' → l ≡ l' → n ≡ n' → r ≡ r' → next a l n r ≡ next a' l' n' r'
on_to next a l n r i = next (a i) (l i) (n i) (r i)

in_monitor : InMonitor
in_monitor =
    record {
      empty = refl;
      holding = λ h n l i. holds (n i) (l i);
      viewed_records = λ t e. ap (map place_of) e;
      viewed_tasks = λ t e. ap (map place_of) e;
      manners = (refl, refl, refl);
      fetched = λ p a l n r next. on_to next (sym a) (sym l) (sym n) (sym r);
      fetched_other = λ p n f. differ {m = 500} {n = 7} refl (ap first_in (f (λ a l n r. tell n)) ∙ n);
      fetched_closed = λ next. refl;
      fetched_empty = λ next. refl;
      fetched_misnamed = λ f. differ {m = 6} {n = 5} refl (ap (λ (r : Ruled). question_of r.answer) (f (λ a l n r. tell n)));
      fetched_needless = λ f. true≢false (ap (λ (r : Ruled). is_granted r.answer) (f (λ a l n r. tell n)));
      sound = λ p. (lit< tt, lit< tt);
      no_task = λ p s. let z : 8 < 8 = s.0 in omega arith;
      no_record = λ p s. let z : 64 < 64 = s.1 in omega arith;
      no_figure = λ f e. let small = f.small in omega arith;
      no_record_figure = λ b t e. true≢false (sym ((b t).0 0) ∙ ap (λ (ps : List Place). bounded (get_or ps 0 vacant)) e);
      no_task_figure = λ b t e. true≢false (sym ((b t).1 0) ∙ ap (λ (ps : List Place). bounded (get_or ps 0 vacant)) e);
      sound_refused = tt;
    }

pub filed : Filed
filed = record { filings = filings; for_c = for_c; in_monitor = in_monitor }
