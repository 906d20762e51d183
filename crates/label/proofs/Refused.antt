-- What a refusal to form a formula shows.
use Rattle.std.proofs.Common.{◌≡◌, ℕ, false, List, Ok, Err, Result, true≢false}
use Rattle.std.specs.Prelude.{is_ok}
use Rattle.answer.specs.declared.Refusal.{Refusal}
use Rattle.answer.specs.Told.{says}
use Rattle.clause.specs.Meaning.{Means}
use Rattle.formula.specs.declared.kept.Formula.{Formula}
use Rattle.formula.specs.Of.{clauses_of}
use Rattle.formula.specs.Forms.{fitting, Formed}
use Rattle.formula.proofs.Forming.{eight, formed_refused}

-- no formula means what was to be formed
pub refused_means : (r : Result Formula Refusal) (P : ℕ → Type 0) (l : List ℕ) → says clauses_of r ≡ fitting l → Formed P r → is_ok r ≡ false → (f : Formula) → Means (clauses_of f) P → ⊥
refused_means (Ok x) P l e m never f h = absurd (true≢false never)
refused_means (Err q) P l e m never f h = m (formed_refused q l e).1 (clauses_of f) (eight f) h
