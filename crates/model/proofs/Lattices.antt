-- The lattice of labels.
use Rattle.std.proofs.Common.{inl, inr}
use Rattle.formula.proofs.Forming.{means_both, means_either}
use Rattle.label.proofs.Order.{flows_by_groups, flows_order, join_least}
use Rattle.model.specs.Lattice.{meet, ProductOrder, Antisymmetric, MeetGreatest, Lattice}

product_order : ProductOrder
product_order a b = (
  λ e. (λ g l m. ((flows_by_groups a b).0 e g l).0 m, λ g l m. ((flows_by_groups a b).0 e g l).1 m),
  λ h. (flows_by_groups a b).1 (λ g l. (h.0 g l, h.1 g l)),
)

antisymmetric : Antisymmetric
antisymmetric a b e f =
    let x = (flows_by_groups a b).0 e in
    let y = (flows_by_groups b a).0 f in
    ((λ g l. (y g l).0, λ g l. (x g l).0), (λ g l. (x g l).1, λ g l. (y g l).1))

meet_greatest : MeetGreatest
meet_greatest =
    record {
      left = λ a b.
          (flows_by_groups (meet a b) a).1 (λ g l. (λ m. (means_either a.sight b.sight g l).1 (inl m), λ m. ((means_both a.hand b.hand g l).0 m).0));
      right = λ a b.
          (flows_by_groups (meet a b) b).1 (λ g l. (λ m. (means_either a.sight b.sight g l).1 (inr m), λ m. ((means_both a.hand b.hand g l).0 m).1));
      greatest = λ a b c p q.
          let x = (flows_by_groups c a).0 p in
          let y = (flows_by_groups c b).0 q in
          (flows_by_groups c (meet a b)).1
          (λ g l. (
            λ m. elim ((means_either a.sight b.sight g l).0 m) [ inl n ↦ (x g l).0 n | inr n ↦ (y g l).0 n ],
            λ m. (means_both a.hand b.hand g l).1 ((x g l).1 m, (y g l).1 m),
          ));
    }

pub lattice : Lattice
lattice = record { product = product_order; order = flows_order; same = antisymmetric; joins = join_least; meets = meet_greatest }
