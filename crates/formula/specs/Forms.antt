-- Reducing, "and" and "or", on lists of clauses.
use Rattle.std.specs.Prelude.{◌≡◌, ℕ, ◌≤◌, Bool, cond, List, [], ◌++◌, length, Ok, Err, Result, nat_le}
use Rattle.answer.specs.declared.Refusal.{Refusal}
use Rattle.answer.specs.declared.Answer.TheVariants.{Refused}
use Rattle.answer.specs.Told.{Told, granted, refused, told, question_of}
use Rattle.clause.specs.Meaning.{Means}
use Rattle.clause.specs.Reduced.{reduced}
use Rattle.clause.specs.Unions.{unions}
use Rattle.formula.specs.declared.kept.Formula.{Formula}
use Rattle.formula.specs.Of.{clauses_of}

-- a formula has at most 8 clauses
abbrev pub fits : List ℕ → Bool
fits clauses = nat_le (length clauses) 8

abbrev pub fitting : List ℕ → Told
fitting clauses = cond (fits clauses) (granted clauses) (refused 2 [])

-- a list to be reduced has at most 64 clauses
abbrev pub reduces : List ℕ → Told
reduces list = cond (nat_le (length list) 64) (fitting (reduced list)) (refused 1 [])

-- the "and" of two formulas has the clauses of both, reduced
abbrev pub both : List ℕ → List ℕ → List ℕ
both a b = reduced (a ++ b)

-- the "or" has the union of each clause of the one with each of the other, reduced
abbrev pub either : List ℕ → List ℕ → List ℕ
either a b = reduced (unions a b)

-- a formula that exactly the groups meet of which P holds; or, at question 2, there is none:
-- no list of at most 8 clauses means P
abbrev pub Formed : (ℕ → Type 0) → Result Formula Refusal → Type 0
Formed P (Ok f) = Means (clauses_of f) P
Formed P (Err q) = question_of (told (Refused q)) ≡ 2 → (ys : List ℕ) → length ys ≤ 8 → Means ys P → ⊥
