-- Which lists of clauses are in kept form.
use Rattle.std.specs.Prelude.{◌≡◌, ℕ, ◌≤◌, Bool, true, cond, not, ◌&&◌, ◌↔◌, List, [], ◌∷◌, length, Some, None, Option, nat_lt}
use Rattle.clause.specs.Reduced.{wider, reduced}
use Rattle.formula.specs.declared.kept.Formula.{Formula}
use Rattle.formula.specs.Kept.{Sixteen}
use Rattle.formula.specs.Of.{clauses_of}
use Rattle.formula.specs.Forms.{fits}

-- the second rises above the first and does not contain it. (The first cannot contain the second,
-- which is the larger number.)
abbrev pub apart : ℕ → ℕ → Bool
apart c d = nat_lt c d && not (wider d c)

abbrev pub apart_all : ℕ → List ℕ → Bool
apart_all c [] = true
apart_all c (d ∷ ds) = apart c d && apart_all c ds

-- rising, none repeated, and none containing another
abbrev pub ordered : List ℕ → Bool
ordered [] = true
ordered (c ∷ cs) = apart_all c cs && ordered cs

-- at most 8 clauses, in order
abbrev pub kept : List ℕ → Bool
kept clauses = fits clauses && ordered clauses

-- the formula with these clauses, if there is one
abbrev pub keeping : List ℕ → Option (List ℕ)
keeping clauses = cond (kept clauses) (Some clauses) None

abbrev pub clauses_in : Option Formula → Option (List ℕ)
clauses_in (Some f) = Some (clauses_of f)
clauses_in None = None

-- a list is in kept form exactly when it has at most 8 clauses and reducing leaves it as it is
abbrev pub KeptIsReduced : Type 0
KeptIsReduced = (clauses : List ℕ) → Sixteen clauses → (kept clauses ≡ true) ↔ ((length clauses ≤ 8) × (reduced clauses ≡ clauses))
