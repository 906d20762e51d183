-- A kept formula is the reduced list that means the same.
use Rattle.std.proofs.Common.{◌≡◌, ℕ, ◌<◌, ◌≤◌, true, false, ◌⊎◌, List, [], ◌++◌, length, get_or, sym, ap, ◌∙◌, subst, inl, inr, arith, length-take}
use Rattle.std.proofs.lemmas.Bool.{cases_Bool, leb-true, le-leb, cond-true, cond-false}
use Rattle.answer.specs.declared.Refusal.{Refusal}
use Rattle.answer.specs.declared.Answer.TheVariants.{Refused}
use Rattle.answer.specs.Told.{granted, refused, told, question_of}
use Rattle.answer.proofs.Telling.{never_granted}
use Rattle.clause.specs.Meaning.{Meets, Means}
use Rattle.clause.specs.Parts.{Over, Least}
use Rattle.clause.specs.Unions.{unions}
use Rattle.clause.specs.Reduced.{reduced}
use Rattle.clause.proofs.Joining.{means_append, means_unions, means_through}
use Rattle.clause.proofs.Canonical.{KeptForm, canonical}
use Rattle.clause.proofs.Reduced.{alike_reduced, form_reduced}
use Rattle.formula.specs.declared.kept.Formula.{Formula}
use Rattle.formula.specs.Kept.{Sixteen}
use Rattle.formula.specs.Of.{clauses_of}
use Rattle.formula.specs.Forms.{fits, fitting, both, either}
use Rattle.formula.proofs.Choosing.{ChosenOf, form_chosen, chosen_all, crowded}

-- a formula has at most eight clauses
pub eight : (f : Formula) → length (clauses_of f) ≤ 8
eight f = let s = f.small in omega (arith, length-take f.count f.clauses)

-- what the reduced list of a list that means P means
pub means_reduced : (xs : List ℕ) (P : ℕ → Type 0) → Means xs P → Means (reduced xs) P
means_reduced xs P m = means_through xs (reduced xs) P m (λ g l. ((alike_reduced xs).1 g l, (alike_reduced xs).0 g l))

pub means_both : (a b : List ℕ) → Means (both a b) (λ g. Meets a g × Meets b g)
means_both a b = means_reduced (a ++ b) _ (means_append a b)

pub means_either : (a b : List ℕ) → Means (either a b) (λ g. Meets a g ⊎ Meets b g)
means_either a b = means_reduced (unions a b) _ (means_unions a b)

means_itself : (xs : List ℕ) → Means xs (Meets xs)
means_itself xs g l = (λ m. m, λ m. m)

-- at most eight clauses in kept form that mean the same as a list are the reduced list
formed_fits : (ys xs : List ℕ) → KeptForm ys → length ys ≤ 8 → Sixteen xs → Means ys (Meets xs) → granted ys ≡ fitting (reduced xs)
formed_fits ys xs form short s means =
    let m = means_reduced xs (Meets xs) (means_itself xs) in
    let is : ys ≡ reduced xs = canonical ys (reduced xs) form (form_reduced xs s) (λ g h k. (m g h).1 ((means g h).0 k), λ g h k. (means g h).1 ((m g h).0 k)) in
    let h : fits (reduced xs) ≡ true = le-leb (length (reduced xs)) 8 (subst (λ (l : List ℕ). length l ≤ 8) is short) in
    ap (λ (l : List ℕ). granted l) is ∙ sym (cond-true (fits (reduced xs)) (granted (reduced xs)) (refused 2 []) h)

-- at most eight chosen clauses are the list's once no clause of it is left
pub formed_all : (list xs : List ℕ) → Sixteen list → ChosenOf list xs → length xs ≤ 8 → ((k : ℕ) → k < length list → Over xs (get_or list k 0))
    → (granted xs ≡ fitting (reduced list)) × Means xs (Meets list)
formed_all list xs s ch short over =
    let same = chosen_all list xs ch over in
    let means : Means xs (Meets list) = λ g h. (same.1 g h, same.0 g h) in
    (formed_fits xs list (form_chosen list xs s ch) short s means, means)

-- eight that are chosen and one more: no eight clauses mean what the list means
pub means_crowded : (list xs : List ℕ) (c : ℕ) → Sixteen list → ChosenOf list xs → Least list (length list) xs c → length xs ≡ 8 → (ys : List ℕ) → length ys ≤ 8 → Means ys (Meets list) → ⊥
means_crowded list xs c s ch found eight ys short m = crowded list xs c s ch found eight ys short (λ g h. (m g h).1, λ g h. (m g h).0)

pub formed_large : (xs : List ℕ) → ((ys : List ℕ) → length ys ≤ 8 → Means ys (Meets xs) → ⊥) → refused 2 [] ≡ fitting (reduced xs)
formed_large xs none =
    let h : fits (reduced xs) ≡ false =
    elim (cases_Bool (fits (reduced xs))) [
      | inl e ↦ absurd (none (reduced xs) (leb-true (length (reduced xs)) 8 e) (means_reduced xs (Meets xs) (means_itself xs)))
      | inr e ↦ e
    ] in
    sym (cond-false (fits (reduced xs)) (granted (reduced xs)) (refused 2 []) h)

-- where forming a list is refused, the list does not fit
pub formed_refused : (q : Refusal) (l : List ℕ) → told (Refused q) ≡ fitting l → (fits l ≡ false) × (question_of (told (Refused q)) ≡ 2)
formed_refused q l e =
    elim (cases_Bool (fits l)) [
      | inl h ↦ absurd (never_granted q l (e ∙ cond-true (fits l) (granted l) (refused 2 []) h))
      | inr h ↦ (h, ap question_of (e ∙ cond-false (fits l) (granted l) (refused 2 []) h))
    ]
