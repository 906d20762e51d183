-- A refusal is told as one.
use Rattle.std.proofs.Common.{◌≡◌, ℕ, Bool, true, false, List, sym, refl, ap, ◌∙◌, true≢false}
use Rattle.answer.specs.declared.Denial.TheVariants.{NotCovered, OutsideMode, AboveHigh, BelowLow, Steered}
use Rattle.answer.specs.declared.Refusal.{Refusal}
use Rattle.answer.specs.declared.Refusal.TheVariants.{LongList, LargeFormula, NoSuchNumber, LargeFigure, TaskState, RecordState, NoSuchManner, NotItsHand, NoFlow, LargeLabel, NotSeen, Denied, NoRoom, NotCarried, Missing, Unlawful, NoForm}
use Rattle.answer.specs.declared.Answer.TheVariants.{Refused}
use Rattle.answer.specs.Told.{Told, granted, refused, told}

abbrev pub is_granted : Told → Bool
is_granted (granted vs) = true
is_granted (refused q vs) = false

pub refuses : (q : Refusal) → is_granted (told (Refused q)) ≡ false
refuses LongList = refl
refuses LargeFormula = refl
refuses NoSuchNumber = refl
refuses LargeFigure = refl
refuses TaskState = refl
refuses RecordState = refl
refuses NoSuchManner = refl
refuses NotItsHand = refl
refuses NoFlow = refl
refuses LargeLabel = refl
refuses NotSeen = refl
refuses (Denied NotCovered) = refl
refuses (Denied OutsideMode) = refl
refuses (Denied AboveHigh) = refl
refuses (Denied BelowLow) = refl
refuses (Denied (Steered g)) = refl
refuses NoRoom = refl
refuses NotCarried = refl
refuses Missing = refl
refuses Unlawful = refl
refuses NoForm = refl

pub never_granted : (q : Refusal) (vs : List ℕ) → told (Refused q) ≡ granted vs → ⊥
never_granted q vs e = true≢false (sym (ap is_granted e) ∙ refuses q)
