-- Formulas are equal where their clauses are the same, and so where they mean the same.
use Rattle.std.proofs.Common.{◌≡◌, Decides, Bool, subst, refl}
use Rattle.std.specs.Bool.{nat_eq}
use Rattle.std.specs.Cmp.Lexicographic.{pointwise}
use Rattle.std.proofs.lemmas.Bool.Decides.{Decides-like, Decides-eqb}
use Rattle.std.proofs.lemmas.Slice.Eq.{slice_eq-Decides}
use Rattle.clause.specs.Meaning.{Alike}
use Rattle.clause.proofs.Canonical.{canonical}
use Rattle.formula.specs.declared.kept.Formula.{Formula}
use Rattle.formula.specs.Of.{clauses_of}
use Rattle.formula.specs.Equal.{EqualityIsMeaning}
use Rattle.formula.proofs.Choosing.{form}

module _ (a b : Formula) (r : Bool) (is : r ≡ pointwise nat_eq (clauses_of a) (clauses_of b)) where
  pub clauses_decide : Decides r (clauses_of a ≡ clauses_of b)
  clauses_decide = slice_eq-Decides Decides-eqb (clauses_of a) (clauses_of b) r is

  pub meaning_decides : Decides r (Alike (clauses_of a) (clauses_of b))
  meaning_decides =
      Decides-like r (λ e. subst (Alike (clauses_of a)) e (λ g h m. m, λ g h m. m)) (canonical (clauses_of a) (clauses_of b) (form a) (form b))
      clauses_decide

pub equality_is_meaning : EqualityIsMeaning (λ a b. pointwise nat_eq (clauses_of a) (clauses_of b))
equality_is_meaning a b = (refl, clauses_decide a b _ refl, meaning_decides a b _ refl)
