-- Clauses chosen one by one, as a formula holds them.
use Rattle.std.proofs.Common.{◌≡◌, ℕ, ◌+◌, ◌<◌, ◌≤◌, List, [], ◌∷◌, ◌++◌, length, get_or, take, set, sym, ap, ◌∙◌, refl, subst, inl, inr, arith, length-take, length-append, Fits}
use Rattle.std.proofs.lemmas.Bool.{cases_lt}
use Rattle.std.proofs.lemmas.List.{get_or-set_other, get_or-take, get_or_past, get_or_append_left, get_or-append-add}
use Rattle.clause.specs.Meaning.{Alike}
use Rattle.clause.specs.Parts.{Over, Least}
use Rattle.clause.proofs.Reducing.{Chosen, chosen_more, none_shorter, chosen_alike}
use Rattle.clause.proofs.Canonical.{KeptForm}
use Rattle.std.specs.Int.{w16}
use Rattle.formula.specs.declared.kept.Formula.{Formula}
use Rattle.formula.specs.Kept.{Unused, Rising, Apart, Sixteen}
use Rattle.formula.specs.Of.{clauses_of}

-- a formula's clauses are in kept form
pub form : (f : Formula) → KeptForm (clauses_of f)
form f =
    record {
      sixteen = λ k.
          elim (cases_lt k (length (clauses_of f))) [
            | inl h ↦ omega (arith, at k h, f.fits k)
            | inr h ↦ omega (arith, get_or_past (clauses_of f) k 0 h)
          ];
      rises = λ i j l h. omega (arith, at i (omega arith), at j h, f.rising i j l (used j h));
      antichain = λ i j l h. let p = at i (omega arith) in let q = at j h in simp (p, q) (f.apart i j l (used j h));
    }
  where
    used : (k : ℕ) → k < length (clauses_of f) → k < f.count
    used k h = omega (arith, length-take f.count f.clauses)

    at : (k : ℕ) → k < length (clauses_of f) → get_or (clauses_of f) k 0 ≡ get_or f.clauses k 0
    at k h = get_or-take f.count f.clauses k 0 (used k h)

-- each clause is one that was chosen of the list
abbrev pub ChosenOf : List ℕ → List ℕ → Type 0
ChosenOf list xs = Chosen list (λ i. get_or xs i 0) (length xs)

module _ (list xs : List ℕ) (c : ℕ) (fits : Sixteen list) (ch : ChosenOf list xs) (found : Least list (length list) xs c) where
  abbrev ys : List ℕ
  ys = xs ++ c ∷ []

  before : (i : ℕ) → i < length xs → get_or ys i 0 ≡ get_or xs i 0
  before i h = get_or_append_left xs (c ∷ []) 0 i h

  last : get_or ys (length xs) 0 ≡ c
  last = let z : length xs ≡ length xs + 0 = omega arith in ap (λ i. get_or ys i 0) z ∙ get_or-append-add xs (c ∷ []) 0 0

  -- one more
  pub chosen_next : ChosenOf list ys
  chosen_next =
      subst (Chosen list (λ i. get_or ys i 0)) (sym (length-append xs (c ∷ [])))
      (chosen_more list (λ i. get_or xs i 0) (λ i. get_or ys i 0) (length xs) c before last ch found.place found.inside found.is
      (λ i h p. found.beside (i, h, p)) (λ k l f. found.least k l (λ o. f o.0 o.1 o.2)))

  pub crowded : length xs ≡ 8 → (zs : List ℕ) → length zs ≤ 8 → Alike list zs → ⊥
  crowded e zs short = none_shorter list zs fits (λ i. get_or ys i 0) (length ys) chosen_next (omega (arith, length-append xs (c ∷ [])))

-- they mean the same once no clause is left
pub chosen_all : (list xs : List ℕ) → ChosenOf list xs → ((k : ℕ) → k < length list → Over xs (get_or list k 0)) → Alike list xs
chosen_all list xs ch over = chosen_alike list xs (λ i. get_or xs i 0) (length xs) refl (λ i h. refl) ch over

-- what the check knows of a list of clauses
pub fits_sixteen : (xs : List ℕ) → ((i : ℕ) → Fits w16 (get_or xs i 0)) → Sixteen xs
fits_sixteen xs h i = let fits = h i in omega arith

-- chosen clauses are in kept form
pub form_chosen : (list xs : List ℕ) → Sixteen list → ChosenOf list xs → KeptForm xs
form_chosen list xs fits ch =
    record {
      sixteen = λ k.
          elim (cases_lt k (length xs)) [
            | inl h ↦ let w = ch.from k h in omega (arith, fits w.0, w.2)
            | inr h ↦ omega (arith, get_or_past xs k 0 h)
          ];
      rises = ch.rising;
      antichain = ch.apart;
    }

-- the chosen clauses as the first places of an array
module _ (list clauses : List ℕ) (n : ℕ) (inside : n ≤ length clauses) (unused : Unused clauses n) (fits : Sixteen list) (ch : ChosenOf list (take n clauses)) where
  place : (k : ℕ) → k < n → (k < length (take n clauses)) × (get_or (take n clauses) k 0 ≡ get_or clauses k 0)
  place k h = (omega (arith, length-take n clauses), get_or-take n clauses k 0 h)

  pub array_rising : Rising clauses n
  array_rising i j l h = let p = place i (omega arith) in let q = place j h in omega (arith, p.1, q.1, ch.rising i j l q.0)

  pub array_apart : Apart clauses n
  array_apart i j l h = let p = place i (omega arith) in let q = place j h in simp (p.1, q.1) at (ch.apart i j l q.0)

  pub array_sixteen : Sixteen clauses
  array_sixteen k =
      elim (cases_lt k n) [
        | inl h ↦ omega (arith, (place k h).1, (form_chosen list (take n clauses) fits ch).sixteen k)
        | inr h ↦ omega (arith, unused k h)
      ]

pub still_unused : (clauses : List ℕ) (n c : ℕ) → Unused clauses n → Unused (set clauses n c) (n + 1)
still_unused clauses n c h i l = get_or-set_other clauses n i c 0 (omega arith) ∙ h i (omega arith)
