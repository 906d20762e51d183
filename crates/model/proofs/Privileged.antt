-- Keys and privileges.
use Rattle.std.proofs.Common.{◌≡◌, ℕ, true, ◌↔◌, List, Ok, Err, sym, refl, ap, ◌∙◌}
use Rattle.formula.proofs.Forming.{means_both, means_either}
use Rattle.label.specs.declared.kind.Kind.{Kind}
use Rattle.label.specs.declared.kind.Kind.TheVariants.{Release, Endorse}
use Rattle.label.specs.Labels.{Marks, flows, join, relabelled}
use Rattle.label.proofs.Order.{flows_by_groups, flows_order, join_least}
use Rattle.key.specs.Requests.{Asked}
use Rattle.key.specs.Meanings.{Verdict, Meaning, grant, passing, robust_says, bounded_says}
use Rattle.key.specs.Laws.{PlainGrants, Flows, CoveredByBoth}
use Rattle.key.proofs.Granting.{key_laws, passing_grants}
use Rattle.model.specs.Privileges.{FlowsWith, new_label, PlainIsFlow, BoundedByJoins, Wrap, robustly, boundedly, wrap, Stacking, RobustTwice}

plain_flow : (p : List ℕ) (k : Kind) (r : Asked) → PlainGrants p k r ↔ FlowsWith p r.held (relabelled k r.held r.new)
plain_flow p Release r = (λ h g l m. (h g l m, λ x. x), λ h g l m. (h g l m).0)
plain_flow p Endorse r = (λ h g l m. (λ x. x, h g l m), λ h g l m. (h g l m).1)

pub plain_is_flow : PlainIsFlow
plain_is_flow p r =
    let law = (key_laws.plain p r).grants in
    let flow = plain_flow p r.kind r in
    (λ e. flow.0 (law.0 e), λ h. law.1 (flow.1 h))

-- both flow to high exactly when their join does
high_of_join : (a b high : Marks) → (Flows a high × Flows b high) ↔ (flows (join a b) high ≡ true)
high_of_join a b high = (
  λ h. join_least.least a b high ((flows_by_groups a high).1 h.0) ((flows_by_groups b high).1 h.1),
  λ e. (
    (flows_by_groups a high).0 (flows_order.transitive a (join a b) high (join_least.left a b) e),
    (flows_by_groups b high).0 (flows_order.transitive b (join a b) high (join_least.right a b) e),
  ),
)

-- a label is covered by two exactly when it flows to their join
low_of_join : (low a b : Marks) → CoveredByBoth low a b ↔ (flows low (join a b) ≡ true)
low_of_join low a b = (
  λ h. (flows_by_groups low (join a b)).1
      (λ g l. (
        λ m. let w = (means_both a.sight b.sight g l).0 m in (h g l).0 w.0 w.1,
        λ m. (means_either a.hand b.hand g l).1 ((h g l).1 m),
      )),
  λ e g l. let f = (flows_by_groups low (join a b)).0 e g l in (
    λ x y. f.0 ((means_both a.sight b.sight g l).1 (x, y)),
    λ x. (means_either a.hand b.hand g l).0 (f.1 x),
  ),
)

pub bounded_by_joins : BoundedByJoins
bounded_by_joins m b below r =
    let law = (key_laws.bounded m b below r).grants in
    let high = high_of_join r.held r.task b.high in
    let low = low_of_join b.low (new_label r) r.task in (
      λ e. let w = law.0 e in (w.0, w.1, high.0 w.2, low.0 w.3),
      λ w. law.1 (w.0, w.1, high.1 w.2, low.1 w.3),
    )

says : Wrap → Meaning
says (robustly m) = robust_says m
says (boundedly m b) = bounded_says m b

wrap_is : (w : Wrap) (below : Meaning) (r : Asked) → wrap w below r ≡ passing (below r) (says w r)
unfolding says
wrap_is (robustly m) below r = refl
wrap_is (boundedly m b) below r = refl

passes : (a b : Verdict) → a ≡ grant → b ≡ grant → passing a b ≡ grant
passes a b e f = ap (λ x. passing x b) e ∙ f

pub stacking : Stacking
stacking v w below r = (
  λ e.
      let outer = passing_grants (wrap w below r) (says v r) (sym (wrap_is v (wrap w below) r) ∙ e) in
      let inner = passing_grants (below r) (says w r) (sym (wrap_is w below r) ∙ outer.0) in
      (wrap_is v below r ∙ passes (below r) (says v r) inner.0 outer.1, outer.0),
  λ h.
      let outer = passing_grants (below r) (says v r) (sym (wrap_is v below r) ∙ h.0) in
      wrap_is v (wrap w below) r ∙ passes (wrap w below r) (says v r) h.1 outer.1,
)

said_twice : (a b : Verdict) → passing (passing a b) b ≡ passing a b
said_twice (Ok _) (Ok _) = refl
said_twice (Ok _) (Err d) = refl
said_twice (Err d) b = refl

pub robust_twice : RobustTwice
robust_twice m below r = said_twice (below r) (robust_says m r)
