-- Formulas as a line writes them.
use Rattle.std.specs.Prelude.{ℕ, Bool, false, cond, List, [], ◌∷◌, Some, None, Option, ◌==◌}
use Rattle.words.specs.declared.clauses.ClausesWord.{ClausesWord}
use Rattle.words.specs.declared.clauses.FormulaWord.{FormulaWord}
use Rattle.words.specs.declared.clauses.FormulaWord.TheVariants.{True, Clauses}
use Rattle.words.specs.Parted.{parted}
use Rattle.words.specs.Clauses.{hex_all, or_none}

abbrev pub is_truth : List ℕ → Bool
is_truth [] = false
is_truth (a ∷ []) = a == 84
is_truth (a ∷ b ∷ r) = false

-- the clauses that a word writes, if it is a formula: T (byte 84), or clauses joined by full stops (byte 46)
abbrev pub formula_of : List ℕ → Option (List ℕ)
formula_of w = cond (is_truth w) (Some []) (hex_all (parted 46 w))

-- the clauses that stand in a part of a line
abbrev pub clauses_in : ClausesWord → List ℕ
clauses_in w = or_none (hex_all (parted 46 w.part.now))

-- the clauses that a formula word writes
abbrev pub written : FormulaWord → List ℕ
written True = []
written (Clauses w) = clauses_in w

abbrev pub written_in : Option FormulaWord → Option (List ℕ)
written_in None = None
written_in (Some w) = Some (written w)
