-- What each answer says: the number of a question, and the values that come with it.
use Rattle.std.specs.Prelude.{ℕ, List, [], ◌∷◌, Some, None, Ok, Err, Option, Result}
use Rattle.answer.specs.declared.Denial.TheVariants.{NotCovered, OutsideMode, AboveHigh, BelowLow, Steered}
use Rattle.answer.specs.declared.Refusal.{Refusal}
use Rattle.answer.specs.declared.Refusal.TheVariants.{LongList, LargeFormula, NoSuchNumber, LargeFigure, TaskState, RecordState, NoSuchManner, NotItsHand, NoFlow, LargeLabel, NotSeen, Denied, NoRoom, NotCarried, Missing, Unlawful, NoForm}
use Rattle.answer.specs.declared.Answer.{Answer}
use Rattle.answer.specs.declared.Answer.TheVariants.{Done, Figure, Refused}

-- granted, with the values that the call brings; or refused, by the question that had the answer no,
-- with the values that the refusal brings
pub data Told : Type 0 where
  granted : List ℕ → Told
  refused : ℕ → List ℕ → Told

-- the one table of answers: show brings a figure, question 16 a group
abbrev pub told : Answer → Told
told Done = granted []
told (Figure n) = granted (n ∷ [])
told (Refused LongList) = refused 1 []
told (Refused LargeFormula) = refused 2 []
told (Refused NoSuchNumber) = refused 3 []
told (Refused LargeFigure) = refused 4 []
told (Refused TaskState) = refused 5 []
told (Refused RecordState) = refused 6 []
told (Refused NoSuchManner) = refused 7 []
told (Refused NotItsHand) = refused 8 []
told (Refused NoFlow) = refused 9 []
told (Refused LargeLabel) = refused 10 []
told (Refused NotSeen) = refused 11 []
told (Refused (Denied NotCovered)) = refused 12 []
told (Refused (Denied OutsideMode)) = refused 13 []
told (Refused (Denied AboveHigh)) = refused 14 []
told (Refused (Denied BelowLow)) = refused 15 []
told (Refused (Denied (Steered g))) = refused 16 (g ∷ [])
told (Refused NoRoom) = refused 17 []
told (Refused NotCarried) = refused 18 []
told (Refused Missing) = refused 19 []
told (Refused Unlawful) = refused 20 []
told (Refused NoForm) = refused 21 []

-- what a function that answers a Result says: the values of its own, or the refusal
abbrev pub says : {A : Type 0} → (A → List ℕ) → Result A Refusal → Told
says values (Ok x) = granted (values x)
says values (Err q) = told (Refused q)

abbrev pub nothing : Unit {0} → List ℕ
nothing _ = []

abbrev pub figure : ℕ → List ℕ
figure n = n ∷ []

abbrev pub question_of : Told → ℕ
question_of (granted vs) = 0
question_of (refused q vs) = q

abbrev pub first : List ℕ → Option ℕ
first [] = None
first (v ∷ vs) = Some v

abbrev pub group_of : Told → Option ℕ
group_of (granted vs) = None
group_of (refused q vs) = first vs
