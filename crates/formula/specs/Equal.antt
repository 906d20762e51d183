-- What equality of kept forms means.
use Rattle.std.specs.Prelude.{◌≡◌, Bool, Decides}
use Rattle.std.specs.Bool.{nat_eq}
use Rattle.std.specs.Cmp.Lexicographic.{pointwise}
use Rattle.clause.specs.Meaning.{Alike}
use Rattle.formula.specs.declared.kept.Formula.{Formula}
use Rattle.formula.specs.Of.{clauses_of}

-- the test that `==` answers, and `!=` the opposite of, is true exactly where the clauses are the same, and exactly
-- where the same groups meet both
abbrev pub EqualityIsMeaning : (Formula → Formula → Bool) → Type 0
EqualityIsMeaning eq =
    (a b : Formula) → (eq a b ≡ pointwise nat_eq (clauses_of a) (clauses_of b))
    × Decides (eq a b) (clauses_of a ≡ clauses_of b)
    × Decides (eq a b) (Alike (clauses_of a) (clauses_of b))
