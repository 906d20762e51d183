-- Two lists of clauses in bytes, compared.
use Rattle.std.specs.Prelude.{◌≡◌, ℕ, ◌+◌, ◌*◌, ◌%◌, Bool, cond, List, [], ◌∷◌, length, ◌==◌}
use Rattle.answer.specs.Told.{Told, granted, refused}
use Rattle.clause.specs.Meaning.{Implies}
use Rattle.clause.specs.Groups.{met, within}
use Rattle.formula.specs.Forms.{reduces}
use Rattle.docket.specs.Reading.{number_of}
use Rattle.exports.specs.declared.compare.Outcome.{Outcome}
use Rattle.exports.specs.declared.compare.Outcome.TheVariants.{No, Yes, First, Second}

-- the clauses, two bytes each, high byte first
abbrev pub clauses_from : List ℕ → List ℕ
clauses_from [] = []
clauses_from (b ∷ []) = []
clauses_from (b ∷ c ∷ bs) = (b * 256 + c) ∷ clauses_from bs

-- each clause has both its bytes
abbrev pub evenly : List ℕ → Bool
evenly bytes = length bytes % 2 == 0

-- questions 19, 1 and 2, and the clauses in kept form
abbrev pub formula_from : List ℕ → Told
formula_from bytes = cond (evenly bytes) (reduces (clauses_from bytes)) (refused 19 [])

-- the first list implies the second, or does not; or a list is refused by a question
pub data Compared : Type 0 where
  no : Compared
  yes : Compared
  first : ℕ → Compared
  second : ℕ → Compared

abbrev pub on_formula : (ℕ → Compared) → Told → (List ℕ → Compared) → Compared
on_formula refuse (granted clauses) next = next clauses
on_formula refuse (refused q vs) next = refuse q

-- the questions are put to the first list, then to the second
abbrev pub compared : List ℕ → List ℕ → Compared
compared a b =
    on_formula first (formula_from a) (λ f. on_formula second (formula_from b) (λ g. cond (within (met f) (met g)) yes no))

-- the number that tells each outcome
abbrev pub code_of : Compared → ℕ
code_of no = 0
code_of yes = 1
code_of (first q) = 100 + q
code_of (second q) = 200 + q

abbrev pub outcome_of : Outcome → Compared
outcome_of No = no
outcome_of Yes = yes
outcome_of (First q) = first (number_of q)
outcome_of (Second q) = second (number_of q)

-- what each outcome says of the lists as they came: of the groups that meet them, or of the question
abbrev pub ByGroups : List ℕ → List ℕ → Compared → Type 0
ByGroups a b no = Implies (clauses_from a) (clauses_from b) → ⊥
ByGroups a b yes = Implies (clauses_from a) (clauses_from b)
ByGroups a b (first q) = formula_from a ≡ refused q []
ByGroups a b (second q) = formula_from b ≡ refused q []
