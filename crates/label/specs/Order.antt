-- The order of labels.
use Rattle.std.specs.Prelude.{◌≡◌, ℕ, ◌<◌, true, ◌↔◌}
use Rattle.clause.specs.Meaning.{Meets}
use Rattle.label.specs.Labels.{Marks, flows, join}

-- a label flows to another exactly when every group that sees the second sees the first, and every
-- group with a hand in the first has a hand in the second
abbrev pub FlowsByGroups : Type 0
FlowsByGroups =
    (a b : Marks) →
    (flows a b ≡ true) ↔ ((g : ℕ) → g < 65536 → (Meets b.sight g → Meets a.sight g) × (Meets a.hand g → Meets b.hand g))

-- a label flows to itself, and on to where that flows
pub record FlowsOrder : Type 0 where
  pub reflexive : (a : Marks) → flows a a ≡ true
  pub transitive : (a b c : Marks) → flows a b ≡ true → flows b c ≡ true → flows a c ≡ true

-- both parts flow to the joined label, and it flows to every label that both flow to
pub record JoinLeast : Type 0 where
  pub left : (a b : Marks) → flows a (join a b) ≡ true
  pub right : (a b : Marks) → flows b (join a b) ≡ true
  pub least : (a b c : Marks) → flows a c ≡ true → flows b c ≡ true → flows (join a b) c ≡ true
