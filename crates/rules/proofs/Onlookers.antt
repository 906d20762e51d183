-- The onlookers of the two marks, and what a larger group sees.
use Rattle.std.proofs.Common.{◌≡◌, ℕ, ◌<◌, true, List, refl, arith}
use lib.Bits.{and_le_r}
use Rattle.clause.specs.Groups.{met}
use Rattle.clause.specs.Parts.{Part}
use Rattle.clause.proofs.Covering.{grows}
use Rattle.clause.proofs.Tests.{met_decides}
use Rattle.formula.specs.Forms.{both, either}
use Rattle.label.specs.Marks.{sight_touches, hand_touches}
use Rattle.label.proofs.Order.{flows_by_groups}
use Rattle.label.specs.Tests.{sight_uncovered, hand_uncovered}
use Rattle.rules.specs.Tracking.{Carried}

pub sight_carried : Carried both sight_touches (λ l. l.sight)
sight_carried =
    record {
      joins = λ a b. refl;
      flow = λ a b e. (sight_uncovered a.sight b.sight).1 (λ g l. ((flows_by_groups a b).0 e g l).0);
    }

pub hand_carried : Carried either hand_touches (λ l. l.hand)
hand_carried =
    record {
      joins = λ a b. refl;
      flow = λ a b e. (hand_uncovered a.hand b.hand).1 (λ g l. ((flows_by_groups a b).0 e g l).1);
    }

-- a group meets what a part of it meets
pub met_grows : (cs : List ℕ) (h g : ℕ) → g < 65536 → Part h g → met cs h ≡ true → met cs g ≡ true
met_grows cs h g l p e =
    let b : h < 65536 = omega (arith, and_le_r h g, p) in
    (met_decides cs g).1 (grows cs h g b p ((met_decides cs h).0 e))
