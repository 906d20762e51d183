-- Lists of clauses in kept form.
use Rattle.std.proofs.Common.{◌≡◌, ℕ, suc, ◌<◌, ◌⊎◌, true, false, not, eqb, ltb, leb, List, [], ◌∷◌, length, get_or, take, Some, None, sym, refl, ◌∙◌, subst, inl, inr, arith, length-take}
use lib.Bits.{bit_and}
use Rattle.std.specs.List.{AllByRecursion}
use Rattle.std.proofs.ByRecursion.{All-from_get_or}
use Rattle.std.proofs.lemmas.Bool.{and_parts, and_from, lt-ltb, ltb-true, le-leb, leb-true, ne_eqb, not-true, not_from_false, and_left, cases_Bool, cond-true, cond-false}
use Rattle.std.proofs.lemmas.List.{get_or-take, get_or_default}
use Rattle.std.proofs.lemmas.Option.{none-some}
use Rattle.clause.specs.Reduced.{wider, reduced}
use Rattle.clause.proofs.Canonical.{Rises, Antichain, KeptForm, canonical}
use Rattle.clause.proofs.Reduced.{Pairs, pairs_get_d, less, alike_reduced, form_reduced}
use Rattle.formula.specs.declared.kept.Formula.{Formula}
use Rattle.formula.specs.Kept.{Beside, Behind, Sixteen}
use Rattle.formula.specs.Of.{clauses_of}
use Rattle.formula.specs.Keeping.{apart, apart_all, ordered, kept, keeping, KeptIsReduced}
use Rattle.formula.proofs.Choosing.{form}
use Rattle.formula.proofs.Forming.{eight}

beside : (c d : ℕ) → apart c d ≡ true → Beside c d
beside c d e =
    let h = and_parts (ltb c d) (not (wider d c)) e in
    let l = ltb-true c d h.0 in
    (l, less c d l (not-true (wider d c) h.1))

apart_yes : (c d : ℕ) → Beside c d → apart c d ≡ true
apart_yes c d h =
    and_from (ltb c d) (not (wider d c)) (lt-ltb c d h.0)
    (not_from_false (wider d c) (and_left (eqb (bit_and c d) c) (not (eqb c d)) (ne_eqb (bit_and c d) c (λ e. omega (arith, h.1, e)))))

beside_all : (c : ℕ) (ds : List ℕ) → apart_all c ds ≡ true → AllByRecursion (Beside c) ds
beside_all c [] e = tt
beside_all c (d ∷ ds) e =
    let h = and_parts (apart c d) (apart_all c ds) e in (beside c d h.0, beside_all c ds h.1)

apart_all_lem : (c : ℕ) (ds : List ℕ) → AllByRecursion (Beside c) ds → apart_all c ds ≡ true
apart_all_lem c [] a = refl
apart_all_lem c (d ∷ ds) a = and_from (apart c d) (apart_all c ds) (apart_yes c d a.0) (apart_all_lem c ds a.1)

pub pairs_ordered : (xs : List ℕ) → ordered xs ≡ true → Pairs Beside xs
pairs_ordered [] e = tt
pairs_ordered (x ∷ xs) e =
    let h = and_parts (apart_all x xs) (ordered xs) e in (beside_all x xs h.0, pairs_ordered xs h.1)

ordered_by : (xs : List ℕ) → ((i j : ℕ) → i < j → j < length xs → Beside (get_or xs i 0) (get_or xs j 0)) → ordered xs ≡ true
ordered_by [] h = refl
ordered_by (x ∷ xs) h =
    and_from (apart_all x xs) (ordered xs)
    (apart_all_lem x xs (All-from_get_or (Beside x) xs 0 (λ j l. h 0 (suc j) (omega arith) (omega arith))))
    (ordered_by xs (λ i j l m. h (suc i) (suc j) (omega arith) (omega arith)))

module _ (xs : List ℕ) (e : ordered xs ≡ true) where
  pub ordered_rises : Rises xs
  ordered_rises i j l h = (pairs_get_d Beside xs (pairs_ordered xs e) i j l h).0

  pub ordered_antichain : Antichain xs
  ordered_antichain i j l h = (pairs_get_d Beside xs (pairs_ordered xs e) i j l h).1

-- clauses in kept form pass the tests
ordered_form : (xs : List ℕ) → KeptForm xs → ordered xs ≡ true
ordered_form xs k = ordered_by xs (λ i j l h. (k.rises i j l h, k.antichain i j l h))

-- so a formula's clauses do
pub kept_clauses : (f : Formula) → kept (clauses_of f) ≡ true
kept_clauses f =
    let xs : List ℕ = clauses_of f in
    and_from (leb (length xs) 8) (ordered xs) (le-leb (length xs) 8 (eight f)) (ordered_form xs (form f))

-- each of a formula's clauses is a set of sixteen parties
pub sixteen_clauses : (f : Formula) → AllByRecursion (λ c. c < 65536) (clauses_of f)
sixteen_clauses f = All-from_get_or (λ c. c < 65536) (clauses_of f) 0 (λ i h. (form f).sixteen i)

form_ordered : (xs : List ℕ) → Sixteen xs → ordered xs ≡ true → KeptForm xs
form_ordered xs s e = record { sixteen = s; rises = ordered_rises xs e; antichain = ordered_antichain xs e }

pub kept_is_reduced : KeptIsReduced
kept_is_reduced xs s = (
  λ e.
      let h = and_parts (leb (length xs) 8) (ordered xs) e in
      let same = alike_reduced xs in
      (leb-true (length xs) 8 h.0, canonical (reduced xs) xs (form_reduced xs s) (form_ordered xs s h.1) (same.1, same.0)),
  λ h. and_from (leb (length xs) 8) (ordered xs) (le-leb (length xs) 8 h.0) (subst (λ (y : List ℕ). ordered y ≡ true) h.1 (ordered_form (reduced xs) (form_reduced xs s))),
)

-- what it tells of a list that it was kept as a formula, or not
pub keeping_some : (xs list : List ℕ) → Some xs ≡ keeping list → (kept list ≡ true) × (xs ≡ list)
keeping_some xs list e =
    elim (cases_Bool (kept list)) [
      | inl h ↦ let p : Some xs ≡ Some list = e ∙ cond-true (kept list) (Some list) None h in (h, cc)
      | inr h ↦ let p : Some xs ≡ None = e ∙ cond-false (kept list) (Some list) None h in absurd (none-some xs (sym p))
    ]

pub keeping_none : (list : List ℕ) → None ≡ keeping list → kept list ≡ false
keeping_none list e =
    elim (cases_Bool (kept list)) [
      | inl h ↦ let p : None ≡ Some list = e ∙ cond-true (kept list) (Some list) None h in absurd (none-some list p)
      | inr h ↦ h
    ]

-- a clause of a list in kept form may stand behind those before it
pub behind_first : (xs : List ℕ) (i : ℕ) → i < length xs → ordered xs ≡ true → Behind (take i xs) (get_or xs i 0)
behind_first xs i h e j d l =
    let k : j < i = omega (arith, length-take i xs) in
    subst (λ (b : ℕ). Beside b (get_or xs i 0)) (sym (get_or_default (take i xs) j d 0 l ∙ get_or-take i xs j 0 k)) (ordered_rises xs e j i k h, ordered_antichain xs e j i k h)

pub keeping_yes : (xs : List ℕ) → kept xs ≡ true → Some xs ≡ keeping xs
keeping_yes xs e = sym (cond-true (kept xs) (Some xs) None e)

-- a list is not kept from its clause i on where eight stand before that, or it may not stand behind them
pub keeping_no : (xs : List ℕ) (i : ℕ) → i < length xs → (length (take i xs) ≡ 8) ⊎ (Behind (take i xs) (get_or xs i 0) → ⊥) → None ≡ keeping xs
keeping_no xs i h why =
    elim (cases_Bool (kept xs)) [
      | inr e ↦ sym (cond-false (kept xs) (Some xs) None e)
      | inl e ↦
          let k = and_parts (leb (length xs) 8) (ordered xs) e in
          elim why [
            | inl full ↦ absurd (omega (arith, length-take i xs, leb-true (length xs) 8 k.0))
            | inr behind ↦ absurd (behind (behind_first xs i h k.1))
          ]
    ]
