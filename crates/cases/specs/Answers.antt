-- What each answer says, and what is printed of it.
use Rattle.std.specs.Prelude.{◌≡◌, ℕ, List, [], ◌∷◌, map, Some, None, Ok, Err, codes}
use Rattle.answer.specs.declared.Denial.TheVariants.{NotCovered, OutsideMode, AboveHigh, BelowLow, Steered}
use Rattle.answer.specs.declared.Refusal.TheVariants.{LongList, LargeFormula, NoSuchNumber, LargeFigure, TaskState, RecordState, NoSuchManner, NotItsHand, NoFlow, LargeLabel, NotSeen, Denied, NoRoom, NotCarried, Missing, Unlawful, NoForm}
use Rattle.answer.specs.declared.Answer.{Answer}
use Rattle.answer.specs.declared.Answer.TheVariants.{Done, Figure, Refused}
use Rattle.answer.specs.Told.{granted, refused, told, says, nothing, figure, question_of, group_of}
use Rattle.answer.specs.Text.{text, numbered}

-- an answer, and its text
abbrev pub texts : List (Answer × List ℕ)
texts =
    (Done, codes "ok")
    ∷ (Figure 0, codes "ok 0")
    ∷ (Figure 87500, codes "ok 87500")
    ∷ (Refused LongList, codes "1")
    ∷ (Refused LargeFormula, codes "2")
    ∷ (Refused NoSuchNumber, codes "3")
    ∷ (Refused LargeFigure, codes "4")
    ∷ (Refused TaskState, codes "5")
    ∷ (Refused RecordState, codes "6")
    ∷ (Refused NoSuchManner, codes "7")
    ∷ (Refused NotItsHand, codes "8")
    ∷ (Refused NoFlow, codes "9")
    ∷ (Refused LargeLabel, codes "10")
    ∷ (Refused NotSeen, codes "11")
    ∷ (Refused (Denied NotCovered), codes "12")
    ∷ (Refused (Denied OutsideMode), codes "13")
    ∷ (Refused (Denied AboveHigh), codes "14")
    ∷ (Refused (Denied BelowLow), codes "15")
    ∷ (Refused (Denied (Steered 1)), codes "16 0001")
    ∷ (Refused (Denied (Steered 4660)), codes "16 1234")
    ∷ (Refused (Denied (Steered 39599)), codes "16 9aaf")
    ∷ (Refused NoRoom, codes "17")
    ∷ (Refused NotCarried, codes "18")
    ∷ (Refused Missing, codes "19")
    ∷ (Refused Unlawful, codes "20")
    ∷ (Refused NoForm, codes "21")
    ∷ []

pub record Answers : Type 0 where
  pub texts : map (λ row. text (told row.0)) texts ≡ map (λ row. row.1) texts
  -- behind the number of its line
  pub numbered_figure : numbered 0 (granted (9 ∷ [])) ≡ codes "0 ok 9"
  pub numbered : numbered 1024 (refused 16 (5 ∷ [])) ≡ codes "1024 16 0005"
  -- a result says its own values, or the refusal
  pub says_nothing : says nothing (Ok tt) ≡ granted []
  pub says_figure : says figure (Ok 7) ≡ granted (7 ∷ [])
  pub says_refused : says figure (Err NoFlow) ≡ refused 9 []
  pub says_group : says nothing (Err (Denied (Steered 5))) ≡ refused 16 (5 ∷ [])
  -- the question of a refusal, and 0 at a grant
  pub question : question_of (refused 16 (5 ∷ [])) ≡ 16
  pub no_question : question_of (granted (7 ∷ [])) ≡ 0
  -- the group of a refusal, and none where it brings none
  pub group : group_of (refused 16 (5 ∷ 6 ∷ [])) ≡ Some 5
  pub no_group : group_of (refused 9 []) ≡ None
  pub figure_is_no_group : group_of (granted (7 ∷ [])) ≡ None
