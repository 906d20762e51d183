-- Formulas from bytes compared.
use Rattle.std.proofs.Common.{◌≡◌, ℕ, Bool, true, false, cond, leb, List, [], length, Decides, sym, ap, ◌∙◌, subst, inl, inr, true≢false}
use Rattle.std.proofs.lemmas.Bool.{cases_cond}
use Rattle.answer.specs.Told.{Told, granted, refused}
use Rattle.clause.specs.Meaning.{Meets, Implies, Alike}
use Rattle.clause.specs.Groups.{met, within}
use Rattle.clause.specs.Reduced.{reduced}
use Rattle.clause.proofs.Reduced.{alike_reduced}
use Rattle.clause.proofs.Tests.{met_decides, within_is}
use Rattle.formula.specs.Forms.{fits, fitting, reduces}
use Rattle.exports.specs.Comparing.{clauses_from, evenly, formula_from, no, yes, first, second, on_formula, compared}

-- a formula that was granted is the reduced list
is_reduced : (a f : List ℕ) → granted f ≡ formula_from a → f ≡ reduced (clauses_from a)
is_reduced a f e =
    let l : List ℕ = clauses_from a in
    elim (cases_cond (evenly a) (reduces l) (refused 19 []) (granted f) e) [
      | inl p ↦ elim (cases_cond (leb (length l) 64) (fitting (reduced l)) (refused 1 []) (granted f) p) [
        | inl q ↦ elim (cases_cond (fits (reduced l)) (granted (reduced l)) (refused 2 []) (granted f) q) [
          | inl r ↦ cc
          | inr r ↦ absurd cc
        ]
        | inr q ↦ absurd cc
      ]
      | inr p ↦ absurd cc
    ]

alike : (a f : List ℕ) → granted f ≡ formula_from a → Alike (clauses_from a) f
alike a f e = subst (Alike (clauses_from a)) (sym (is_reduced a f e)) (alike_reduced (clauses_from a))

module _ (a b f g : List ℕ) (ha : granted f ≡ formula_from a) (hb : granted g ≡ formula_from b) (r : Bool) (d : Decides r (Implies f g)) where
  pub told : cond r yes no ≡ compared a b
  told =
      ap (λ (x : Bool). cond x yes no) (within_is r (met f) (met g) (Meets f) (Meets g) (met_decides f) (met_decides g) d)
      ∙ (ap (λ (t : Told). on_formula second t (λ g. cond (within (met f) (met g)) yes no)) hb
      ∙ ap (λ (t : Told). on_formula first t (λ f. on_formula second (formula_from b) (λ g. cond (within (met f) (met g)) yes no))) ha)

  pub implied : r ≡ true → Implies (clauses_from a) (clauses_from b)
  implied e n l m = (alike b g hb).1 n l (d.0 e n l ((alike a f ha).0 n l m))

  pub unimplied : r ≡ false → Implies (clauses_from a) (clauses_from b) → ⊥
  unimplied e h = true≢false (sym (d.1 (λ n l m. (alike b g hb).0 n l (h n l ((alike a f ha).1 n l m)))) ∙ e)
