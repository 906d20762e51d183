-- A formula as its list of clauses.
use Rattle.std.specs.Prelude.{ℕ, List, take}
use Rattle.formula.specs.declared.kept.Formula.{Formula}

-- the clauses in use
abbrev pub clauses_of : Formula → List ℕ
clauses_of f = take f.count f.clauses
