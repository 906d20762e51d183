-- The lattice of labels.
use Rattle.std.specs.Prelude.{◌≡◌, true, ◌↔◌}
use Rattle.clause.specs.Meaning.{Implies, Alike}
use Rattle.formula.specs.Forms.{both, either}
use Rattle.label.specs.Labels.{Marks, flows}
use Rattle.label.specs.Order.{FlowsOrder, JoinLeast}

-- the meet of two labels: the "or" of the sights, the "and" of the hands
abbrev pub meet : Marks → Marks → Marks
meet a b = record { sight = either a.sight b.sight; hand = both a.hand b.hand }

-- the order is the product of two: sights by reverse implication, hands by implication
abbrev pub ProductOrder : Type 0
ProductOrder = (a b : Marks) → (flows a b ≡ true) ↔ (Implies b.sight a.sight × Implies a.hand b.hand)

-- labels that flow to each other mean the same
abbrev pub Antisymmetric : Type 0
Antisymmetric = (a b : Marks) → flows a b ≡ true → flows b a ≡ true → Alike a.sight b.sight × Alike a.hand b.hand

-- the meet flows to both parts, and every label that flows to both flows to it
pub record MeetGreatest : Type 0 where
  pub left : (a b : Marks) → flows (meet a b) a ≡ true
  pub right : (a b : Marks) → flows (meet a b) b ≡ true
  pub greatest : (a b c : Marks) → flows c a ≡ true → flows c b ≡ true → flows c (meet a b) ≡ true

pub record Lattice : Type 0 where
  pub product : ProductOrder
  pub order : FlowsOrder
  pub same : Antisymmetric
  pub joins : JoinLeast
  pub meets : MeetGreatest
