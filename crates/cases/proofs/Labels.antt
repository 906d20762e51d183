-- The rows of labels hold.
use Rattle.std.proofs.Common.{ℕ, ◌<◌, List, get_or, sym, refl, ap, ◌∙◌, true≢false, arith, lit<}
use mathlib.Core.Bool.{false≢true}
use Rattle.answer.specs.Told.{question_of}
use Rattle.label.specs.Labels.{Marks}
use Rattle.cases.specs.Labels.{Touching, Joining, Ordered, Labels}
use Rattle.cases.proofs.Apart.{differ}

touching : Touching
touching =
    record {
      covered = λ o e. absurd (false≢true e);
      not_covered = λ c. false≢true (c tt refl);
      by_second = λ o e. refl;
      by_first = λ o e. refl;
      by_neither = λ c. false≢true (c tt refl);
      either_second = λ o. refl;
      either_first = λ o. refl;
      either_none = λ o. refl;
      touches_less = λ t. false≢true (t tt);
      touches_more = λ t. true≢false (t tt);
      last_group = ((65535, lit< tt), refl);
      groups_only = λ o e. let h : o.0 < 65536 = o.1 in omega arith;
      sight_touches_row = λ h. refl;
      sight_spares = λ h. refl;
      hand_touches_row = λ h. refl;
      hand_spares = λ h. refl;
    }

-- labels are told apart by a clause of their sight, lists by their first clause, and refusals by the question
first_sight : Marks → ℕ
first_sight l = get_or l.sight 1 0

first_clause : List ℕ → ℕ
first_clause cs = get_or cs 0 0

joining : Joining
unfolding first_sight first_clause
joining =
    record {
      shown = refl;
      hidden = refl;
      does_not_see = refl;
      has_hand = refl;
      no_hand = refl;
      joined = refl;
      joins = refl;
      eight_sights = refl;
      nine_sights = refl;
      nine_hands = refl;
      refused_join = (refl, refl);
      needless_join = λ j. true≢false j.0;
      misnamed_join = λ j. differ {m = 2} {n = 10} refl (ap question_of j.1);
      made_join = λ l e. (refl, e);
      other_join = λ l e j. differ {m = 0} {n = 2} refl (ap first_sight (sym e ∙ j.1));
      large_join = λ l j. false≢true j.0;
      released = refl;
      endorsed = refl;
      both_sides = λ l p q i. record { sight = p i; hand = q i };
      side = (refl, refl);
      other_side = λ s. differ {m = 2} {n = 1} refl (ap first_clause s.1);
      large_side = λ s. false≢true s.0;
      refused_side = (refl, refl);
      needless_side = λ s. true≢false s.0;
      misnamed_side = λ s. differ {m = 2} {n = 10} refl (ap question_of s.1);
      own_size = λ s. false≢true s.0;
    }

ordered : Ordered
ordered =
    record {
      flow_shows = λ law a b f. ((law a b).0 f 65535 (lit< tt)).0;
      flow_hands_on = λ law a b f. ((law a b).0 f 65535 (lit< tt)).1;
      flow_by_groups = λ law a b. (law a b).1;
      to_itself = λ law. law.reflexive;
      on_and_on = λ law. law.transitive;
      left_joins = λ law. law.left;
      right_joins = λ law. law.right;
      join_is_least = λ law. law.least;
    }

pub labels : Labels
labels = record { touching = touching; joining = joining; ordered = ordered }
