-- The order of labels, group by group.
use Rattle.std.proofs.Common.{◌||◌, Decides, inl, inr}
use Rattle.std.proofs.lemmas.Bool.Decides.{Decides-and, Decides-like}
use Rattle.clause.specs.Groups.{within}
use Rattle.formula.proofs.Forming.{means_both, means_either}
use Rattle.label.specs.Marks.{Covered, CoveredByTwo, sight_touches, hand_touches}
use Rattle.label.specs.Labels.{Marks, unseeing, handed, flows, covered, join}
use Rattle.label.specs.Order.{FlowsByGroups, FlowsOrder, JoinLeast}
use Rattle.label.specs.Tests.{covered_within, sight_uncovered, hand_uncovered}

-- a label flows to another where each mark is covered
pub flows_decides : (a b : Marks) → Decides (flows a b) (Covered sight_touches a.sight b.sight × Covered hand_touches a.hand b.hand)
flows_decides a b =
    Decides-and (within (unseeing a) (unseeing b)) (within (handed a) (handed b)) (covered_within (unseeing a) (unseeing b)) (covered_within (handed a) (handed b))

pub covered_decides : (l a b : Marks) → Decides (covered l a b) (CoveredByTwo sight_touches l.sight a.sight b.sight × CoveredByTwo hand_touches l.hand a.hand b.hand)
covered_decides l a b =
    Decides-and (within (unseeing l) (λ g. unseeing a g || unseeing b g)) (within (handed l) (λ g. handed a g || handed b g))
    (covered_within (unseeing l) (λ g. unseeing a g || unseeing b g)) (covered_within (handed l) (λ g. handed a g || handed b g))

pub flows_by_groups : FlowsByGroups
flows_by_groups a b =
    Decides-like (flows a b)
    (λ h g l. ((sight_uncovered a.sight b.sight).0 h.0 g l, (hand_uncovered a.hand b.hand).0 h.1 g l))
    (λ h. ((sight_uncovered a.sight b.sight).1 (λ g l. (h g l).0), (hand_uncovered a.hand b.hand).1 (λ g l. (h g l).1)))
    (flows_decides a b)

pub flows_order : FlowsOrder
flows_order =
    record {
      reflexive = λ a. (flows_by_groups a a).1 (λ g l. (λ m. m, λ m. m));
      transitive = λ a b c p q.
          let x = (flows_by_groups a b).0 p in
          let y = (flows_by_groups b c).0 q in
          (flows_by_groups a c).1 (λ g l. (λ m. (x g l).0 ((y g l).0 m), λ m. (y g l).1 ((x g l).1 m)));
    }

pub join_least : JoinLeast
join_least =
    record {
      left = λ a b.
          (flows_by_groups a (join a b)).1
          (λ g l. (λ m. ((means_both a.sight b.sight g l).0 m).0, λ m. (means_either a.hand b.hand g l).1 (inl m)));
      right = λ a b.
          (flows_by_groups b (join a b)).1
          (λ g l. (λ m. ((means_both a.sight b.sight g l).0 m).1, λ m. (means_either a.hand b.hand g l).1 (inr m)));
      least = λ a b c p q.
          let x = (flows_by_groups a c).0 p in
          let y = (flows_by_groups b c).0 q in
          (flows_by_groups (join a b) c).1
          (λ g l. (
            λ m. (means_both a.sight b.sight g l).1 ((x g l).0 m, (y g l).0 m),
            λ m. elim ((means_either a.hand b.hand g l).0 m) [ inl n ↦ (x g l).1 n | inr n ↦ (y g l).1 n ],
          ));
    }
