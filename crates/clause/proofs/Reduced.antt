-- A reduced list is rising, none of it contains another, and it means the same. Assumes nothing.
use Rattle.std.proofs.Common.{◌≡◌, ℕ, zero, suc, ◌<◌, Bool, true, false, cond, not, eqb, ltb, ◌⊎◌, List, [], ◌∷◌, length, get_or, filter, sym, refl, ap, ◌∙◌, subst, inl, inr, true≢false, arith}
use lib.Bits.{bit_and, and_le_l, and_le_r}
use Rattle.std.specs.List.{AllByRecursion}
use Rattle.std.proofs.ByRecursion.{All-weaker, all_kept_by, kept_by_passes, All-get_or, All-from_get_or}
use Rattle.std.proofs.lemmas.Bool.{eqb-true, eqb-false, ltb-true, ltb-false, and_parts, and_cases, or_cases, or_parts, cases_Bool, cases_lt, both_ways, not-true, not-false}
use Rattle.std.proofs.lemmas.List.{get_or_past}
use Rattle.clause.specs.Meaning.{Shares, Alike}
use Rattle.clause.proofs.Bitsets.{wider as widens}
use Rattle.clause.proofs.Canonical.{Rises, Antichain, KeptForm}
use Rattle.clause.specs.Reduced.{wider, some, minimal, placed, arranged, reduced}

-- each stands so to all after it
abbrev pub Pairs : (ℕ → ℕ → Type 0) → List ℕ → Type 0
Pairs R [] = Unit {0}
Pairs R (x ∷ xs) = AllByRecursion (R x) xs × Pairs R xs

pub pairs_get_d : (R : ℕ → ℕ → Type 0) (xs : List ℕ) → Pairs R xs → (i j : ℕ) → i < j → j < length xs → R (get_or xs i 0) (get_or xs j 0)
pairs_get_d R [] p i j l h = absurd (omega arith)
pairs_get_d R (x ∷ xs) p i zero l h = absurd (omega arith)
pairs_get_d R (x ∷ xs) p zero (suc j) l h = All-get_or (R x) xs j 0 (omega arith) p.0
pairs_get_d R (x ∷ xs) p (suc i) (suc j) l h = pairs_get_d R xs p.1 i j (omega arith) (omega arith)

-- one clause put in its place
by_cond : {X : Type 0} (P : X → Type 0) (b : Bool) (x y : X) → (b ≡ true → P x) → (b ≡ false → P y) → P (cond b x y)
by_cond P true x y f g = f refl
by_cond P false x y f g = g refl

all_placed : (P : ℕ → Type 0) (c : ℕ) (ks : List ℕ) → P c → AllByRecursion P ks → AllByRecursion P (placed c ks)
all_placed P c [] p a = (p, tt)
all_placed P c (k ∷ ks) p a =
    by_cond (AllByRecursion P) (ltb c k) _ _ (λ _. (p, a)) (λ _. by_cond (AllByRecursion P) (eqb c k) _ _ (λ _. a) (λ _. (a.0, all_placed P c ks p a.1)))

pairs_placed : (c : ℕ) (ks : List ℕ) → Pairs ◌<◌ ks → Pairs ◌<◌ (placed c ks)
pairs_placed c [] p = (tt, tt)
pairs_placed c (k ∷ ks) p =
    by_cond (Pairs ◌<◌) (ltb c k) _ _
    (λ e. let l = ltb-true c k e in ((l, All-weaker (λ x. k < x) (λ x. c < x) (λ x h. omega arith) ks p.0), p))
    (λ e. by_cond (Pairs ◌<◌) (eqb c k) _ _ (λ _. p)
    (λ f. let n = eqb-false c k f in let g = ltb-false c k e in (all_placed (λ x. k < x) c ks (omega arith) p.0, pairs_placed c ks p.1)))

pub all_arranged : (P : ℕ → Type 0) (cs : List ℕ) → AllByRecursion P cs → AllByRecursion P (arranged cs)
all_arranged P [] a = tt
all_arranged P (c ∷ cs) a = all_placed P c (arranged cs) a.0 (all_arranged P cs a.1)

pairs_arranged : (cs : List ℕ) → Pairs ◌<◌ (arranged cs)
pairs_arranged [] = tt
pairs_arranged (c ∷ cs) = pairs_placed c (arranged cs) (pairs_arranged cs)

-- what holds of all clauses holds of all that are left
pub all_reduced : (P : ℕ → Type 0) (xs : List ℕ) → AllByRecursion P xs → AllByRecursion P (reduced xs)
all_reduced P xs a = all_arranged P (filter (minimal xs) xs) (all_kept_by (minimal xs) P xs a)

pub rises_reduced : (xs : List ℕ) → Rises (reduced xs)
rises_reduced xs = pairs_get_d ◌<◌ (reduced xs) (pairs_arranged (filter (minimal xs) xs))

pub minimal_reduced : (xs : List ℕ) → AllByRecursion (λ c. minimal xs c ≡ true) (reduced xs)
minimal_reduced xs = all_arranged (λ c. minimal xs c ≡ true) (filter (minimal xs) xs) (kept_by_passes (minimal xs) xs)

-- a clause is in a list
abbrev pub In : ℕ → List ℕ → Type 0
In c [] = ⊥
In c (x ∷ xs) = (c ≡ x) ⊎ In c xs

all_in : (P : ℕ → Type 0) (xs : List ℕ) (c : ℕ) → AllByRecursion P xs → In c xs → P c
all_in P [] c a i = absurd i
all_in P (x ∷ xs) c a (inl e) = subst P (sym e) a.0
all_in P (x ∷ xs) c a (inr i) = all_in P xs c a.1 i

in_all : (P : ℕ → Type 0) (xs : List ℕ) → ((c : ℕ) → In c xs → P c) → AllByRecursion P xs
in_all P [] h = tt
in_all P (x ∷ xs) h = (h x (inl refl), in_all P xs (λ c i. h c (inr i)))

some_no : (p : ℕ → Bool) (xs : List ℕ) → some p xs ≡ false → AllByRecursion (λ x. p x ≡ false) xs
some_no p [] e = tt
some_no p (x ∷ xs) e = let h = or_parts (p x) (some p xs) e in (h.0, some_no p xs h.1)

some_yes : (p : ℕ → Bool) (xs : List ℕ) → some p xs ≡ true → (d : ℕ) × In d xs × (p d ≡ true)
some_yes p [] e = absurd (true≢false (sym e))
some_yes p (x ∷ xs) e =
    elim (or_cases (p x) (some p xs) e) [
      | inl h ↦ (x, inl refl, h)
      | inr h ↦ let w = some_yes p xs h in (w.0, inr w.1, w.2)
    ]

in_kept : (p : ℕ → Bool) (xs : List ℕ) (c : ℕ) → p c ≡ true → In c xs → In c (filter p xs)
in_kept p [] c e i = i
in_kept p (x ∷ xs) c e (inl q) = by_cond (In c) (p x) _ _ (λ _. inl q) (λ f. absurd (both_ways (p x) f (ap p (sym q) ∙ e)))
in_kept p (x ∷ xs) c e (inr i) = by_cond (In c) (p x) _ _ (λ _. inr (in_kept p xs c e i)) (λ _. in_kept p xs c e i)

in_placed : (c d : ℕ) (ks : List ℕ) → (c ≡ d) ⊎ In c ks → In c (placed d ks)
in_placed c d [] (inl e) = inl e
in_placed c d [] (inr i) = absurd i
in_placed c d (k ∷ ks) s =
    by_cond (In c) (ltb d k) _ _ (λ _. s)
    (λ _. by_cond (In c) (eqb d k) _ _
    (λ e. elim s [ inl q ↦ inl (q ∙ eqb-true d k e) | inr i ↦ i ])
    (λ _. elim s [ inl q ↦ inr (in_placed c d ks (inl q)) | inr i ↦ elim i [ inl q ↦ inl q | inr j ↦ inr (in_placed c d ks (inr j)) ] ]))

in_arranged : (c : ℕ) (cs : List ℕ) → In c cs → In c (arranged cs)
in_arranged c [] i = i
in_arranged c (d ∷ cs) (inl e) = in_placed c d (arranged cs) (inl e)
in_arranged c (d ∷ cs) (inr i) = in_placed c d (arranged cs) (inr (in_arranged c cs i))

-- what holds of all that are left, and of each clause around one of which it holds, holds of all
module _ (P : ℕ → Type 0) (up : (c d : ℕ) → bit_and d c ≡ d → P d → P c) (xs : List ℕ) (a : AllByRecursion P (reduced xs)) where
  below : (n c : ℕ) → c < n → In c xs → P c
  below zero c l i = absurd (omega arith)
  below (suc n) c l i =
      elim (cases_Bool (minimal xs c)) [
        | inl e ↦ all_in P (reduced xs) c a (in_arranged c (filter (minimal xs) xs) (in_kept (minimal xs) xs c e i))
        | inr e ↦
            let w = some_yes (wider c) xs (not-false (some (wider c) xs) e) in
            let d : ℕ = w.0 in
            let h = and_parts (eqb (bit_and d c) d) (not (eqb d c)) w.2 in
            let p : bit_and d c ≡ d = eqb-true (bit_and d c) d h.0 in
            let q = eqb-false d c (not-true (eqb d c) h.1) in
            up c d p (below n d (omega (arith, and_le_r d c, p, q)) w.1)
      ]

  pub all_unreduced : AllByRecursion P xs
  all_unreduced = in_all P xs (λ c i. below (suc c) c (omega arith) i)

pub shares_up : (g c d : ℕ) → bit_and d c ≡ d → Shares d g → Shares c g
shares_up g c d p s e = s (widens d c g p e)

pub alike_reduced : (xs : List ℕ) → Alike xs (reduced xs)
alike_reduced xs = (
  λ g l m. all_reduced (λ c. Shares c g) xs m,
  λ g l m. all_unreduced (λ c. Shares c g) (shares_up g) xs m,
)

-- of two that are left, the second does not contain the first
apart_by : (xs : List ℕ) (y : ℕ) → minimal xs y ≡ true → AllByRecursion (λ x. wider y x ≡ false) xs
apart_by xs y e = some_no (wider y) xs (not-true (some (wider y) xs) e)

pub less : (x y : ℕ) → x < y → wider y x ≡ false → bit_and x y < x
less x y l e =
    elim (and_cases (eqb (bit_and x y) x) (not (eqb x y)) e) [
      | inl f ↦ let n = eqb-false (bit_and x y) x f in omega (arith, and_le_l x y)
      | inr f ↦ let q = eqb-true x y (not-false (eqb x y) f) in absurd (omega arith)
    ]

pub antichain_reduced : (xs : List ℕ) → Antichain (reduced xs)
antichain_reduced xs i j l h =
    let x : ℕ = get_or (reduced xs) i 0 in
    let y : ℕ = get_or (reduced xs) j 0 in
    let my = All-get_or (λ c. minimal xs c ≡ true) (reduced xs) j 0 h (minimal_reduced xs) in
    less x y (rises_reduced xs i j l h)
    (All-get_or (λ x. wider y x ≡ false) (reduced xs) i 0 (omega arith) (all_reduced (λ x. wider y x ≡ false) xs (apart_by xs y my)))

-- so it is in kept form
pub form_reduced : (xs : List ℕ) → ((k : ℕ) → get_or xs k 0 < 65536) → KeptForm (reduced xs)
form_reduced xs s =
    record {
      sixteen = λ k.
          elim (cases_lt k (length (reduced xs))) [
            | inl h ↦ All-get_or (λ c. c < 65536) (reduced xs) k 0 h (all_reduced (λ c. c < 65536) xs (All-from_get_or (λ c. c < 65536) xs 0 (λ i _. s i)))
            | inr h ↦ omega (arith, get_or_past (reduced xs) k 0 h)
          ];
      rises = rises_reduced xs;
      antichain = antichain_reduced xs;
    }
