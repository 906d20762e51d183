-- The lowest group that steers a release, found hand by hand.
use Rattle.std.proofs.Common.{◌≡◌, ℕ, Bool, not, ◌&&◌, ◌||◌, List, arith}
use Rattle.clause.specs.Groups.{met, lowest, earlier}
use Rattle.lowest.proofs.Choosing.{earlier_is}

either_hand : (n o h k : Bool) → ((n && not o) && (h || k)) ≡ (((n && k) && not o) || ((n && h) && not o))
either_hand n o h k = grind arith

-- with the task's hand, or with the record's
pub by_hands : (o n h k : List ℕ)
    → earlier (lowest (λ g. (met n g && met k g) && not (met o g))) (lowest (λ g. (met n g && met h g) && not (met o g))) ≡ lowest (λ g. (met n g && not (met o g)) && (met h g || met k g))
by_hands o n h k =
    earlier_is (λ g. (met n g && met k g) && not (met o g)) (λ g. (met n g && met h g) && not (met o g))
    (λ g. (met n g && not (met o g)) && (met h g || met k g))
    (λ g. either_hand (met n g) (met o g) (met h g) (met k g))
