use Rattle.std.proofs.Common.{◌≡◌, ℕ, zero, suc, ◌-◌, ◌<◌, ◌≤◌, List, length, get_or, refl, ap, ◌∙◌, inl, inr, arith}
use lib.Bits.{bit_and, and_self, and_le_r}
use Rattle.std.proofs.lemmas.Bool.{cases_order}
use Rattle.std.proofs.lemmas.List.{get_or_default, same_lists}
use Rattle.clause.specs.Meaning.{Alike}
use Rattle.clause.proofs.Reducing.{Chosen, has_minimal}

abbrev pub Rises : List ℕ → Type 0
Rises xs = (i j : ℕ) → i < j → j < length xs → get_or xs i 0 < get_or xs j 0

abbrev pub Antichain : List ℕ → Type 0
Antichain xs = (i j : ℕ) → i < j → j < length xs → bit_and (get_or xs i 0) (get_or xs j 0) < get_or xs i 0

-- a rising antichain is its own choice
pub chosen_itself : (xs : List ℕ) → Rises xs → Antichain xs → Chosen xs (λ i. get_or xs i 0) (length xs)
chosen_itself xs r a =
    record {
      rising = r;
      apart = a;
      from = λ i h. (i, h, refl);
      minimal = λ i h k l p.
          elim (cases_order k i) [
            | inl e ↦ ap (λ z. get_or xs z 0) e
            | inr s ↦ elim s [
              | inl b ↦ omega (arith, a k i b h, p)
              | inr b ↦ omega (arith, r i k b l, p, and_le_r (get_or xs k 0) (get_or xs i 0))
            ]
          ];
      above = λ k l none. absurd (none k l (and_self (get_or xs k 0)));
    }

module _ (xs ys : List ℕ) (rx : Rises xs) (ry : Rises ys) (held : (i : ℕ) → i < length xs → (j : ℕ) × (j < length ys) × (get_or ys j 0 ≡ get_or xs i 0)) where
  climbs : (i : ℕ) (h : i < length xs) → i ≤ (held i h).0
  climbs zero h = omega arith
  climbs (suc i) h =
      let h' : i < length xs = omega arith in
      let a = held i h' in
      let b = held (suc i) h in
      let below = climbs i h' in
      elim (cases_order a.0 b.0) [
        | inl e ↦ omega (arith, ap (λ z. get_or ys z 0) e, a.2, b.2, rx i (suc i) (omega arith) h)
        | inr s ↦ elim s [
          | inl l ↦ omega arith
          | inr l ↦ omega (arith, ry b.0 a.0 l a.1, a.2, b.2, rx i (suc i) (omega arith) h)
        ]
      ]

  no_longer : length xs ≤ length ys
  no_longer =
      elim (cases_order (length xs) 0) [
        | inl e ↦ omega arith
        | inr s ↦ elim s [
          | inl l ↦ omega arith
          | inr l ↦ let h : length xs - 1 < length xs = omega arith in omega (arith, climbs (length xs - 1) h, (held (length xs - 1) h).1)
        ]
      ]

  no_less : (i : ℕ) → i < length xs → get_or ys i 0 ≤ get_or xs i 0
  no_less i h =
      let a = held i h in
      elim (cases_order i a.0) [
        | inl e ↦ omega (arith, ap (λ z. get_or ys z 0) e, a.2)
        | inr s ↦ elim s [
          | inl l ↦ omega (arith, ry i a.0 l a.1, a.2)
          | inr l ↦ omega (arith, climbs i h)
        ]
      ]

-- clauses in kept form: sets of sixteen parties, rising, none containing another
pub record KeptForm (xs : List ℕ) : Type 0 where
  pub sixteen : (k : ℕ) → get_or xs k 0 < 65536
  pub rises : Rises xs
  pub antichain : Antichain xs

-- kept forms that mean the same have the same clauses
pub canonical : (xs ys : List ℕ) → KeptForm xs → KeptForm ys → Alike xs ys → xs ≡ ys
canonical xs ys fx fy same =
    let a : (i : ℕ) → i < length xs → (j : ℕ) × (j < length ys) × (get_or ys j 0 ≡ get_or xs i 0) =
    has_minimal xs ys fx.sixteen fy.sixteen (λ i. get_or xs i 0) (length xs) (chosen_itself xs fx.rises fx.antichain) same in
    let b : (i : ℕ) → i < length ys → (j : ℕ) × (j < length xs) × (get_or xs j 0 ≡ get_or ys i 0) =
    has_minimal ys xs fy.sixteen fx.sixteen (λ i. get_or ys i 0) (length ys) (chosen_itself ys fy.rises fy.antichain) (same.1, same.0) in
    let l : length xs ≡ length ys = omega (arith, no_longer xs ys fx.rises fy.rises a, no_longer ys xs fy.rises fx.rises b) in
    same_lists xs ys l
    (λ k d h. get_or_default xs k d 0 h
    ∙ omega (arith, no_less xs ys fx.rises fy.rises a k h, no_less ys xs fy.rises fx.rises b k (omega (arith, l)))
    ∙ get_or_default ys k 0 d (omega (arith, l)))
