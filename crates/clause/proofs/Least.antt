-- What `least` finds. Assumes nothing.
use Rattle.std.proofs.Common.{◌≡◌, ℕ, zero, suc, ◌<◌, Bool, true, false, ◌⊎◌, Some, None, Option, refl, subst, inl, inr, le_of_suc-le-suc, not-suc-le-zero, eq-or-lt_of_le, arith}
use Rattle.std.proofs.lemmas.Option.{none-some}
use Rattle.clause.specs.Groups.{least, next_least}

last_or_below : (g n : ℕ) → g < suc n → (g ≡ n) ⊎ (g < n)
last_or_below g n h = eq-or-lt_of_le (le_of_suc-le-suc h)

-- the number at which p holds first is the one that is found, however far the search goes
pub least_at : (p : ℕ → Bool) (n g : ℕ) → g < n → least p g ≡ None → p g ≡ true → least p n ≡ Some g
unfolding least
least_at p zero g h e t = absurd (not-suc-le-zero h)
least_at p (suc n) g h e t =
    elim (last_or_below g n h) [
      | inl same ↦ rw (← same) (rw (e, t) refl)
      | inr below ↦ rw (least_at p n g below e t) refl
    ]

none_below : (b : Bool) (n : ℕ) (o : Option ℕ) → next_least b n o ≡ None → (o ≡ None) × (b ≡ false)
none_below true n None e = search
none_below false n None e = (refl, refl)
none_below b n (Some g) e = search

-- where nothing is found, p holds nowhere below
pub least_none : (p : ℕ → Bool) (n : ℕ) → least p n ≡ None → (k : ℕ) → k < n → p k ≡ false
unfolding least
least_none p zero e k h = absurd (not-suc-le-zero h)
least_none p (suc n) e k h =
    let w = none_below (p n) n (least p n) e in
    elim (last_or_below k n h) [
      | inl same ↦ rw same w.1
      | inr below ↦ least_none p n w.0 k below
    ]

-- where p holds nowhere below, nothing is found
pub none_least : (p : ℕ → Bool) (n : ℕ) → ((k : ℕ) → k < n → p k ≡ false) → least p n ≡ None
unfolding least
none_least p zero h = refl
none_least p (suc n) h =
    let a : n < suc n = omega arith in
    let e : p n ≡ false = h n a in
    let i : least p n ≡ None = none_least p n (λ k b. h k (omega arith)) in
    rw (i, e) refl

-- what is found: p holds there, and nowhere below
pub record Found (p : ℕ → Bool) (n g : ℕ) : Type 0 where
  pub below : g < n
  pub holds : p g ≡ true
  pub first : (k : ℕ) → k < g → p k ≡ false

found_next : (p : ℕ → Bool) (n g : ℕ) (b : Bool) (o : Option ℕ) → p n ≡ b → least p n ≡ o → ((x : ℕ) → o ≡ Some x → Found p n x) → next_least b n o ≡ Some g → Found p (suc n) g
found_next p n g b (Some x) e l ih s =
    let same : x ≡ g = cc in
    let f = ih x refl in
    record { below = omega (arith, f.below, same); holds = subst (λ (k : ℕ). p k ≡ true) same f.holds; first = λ k h. f.first k (omega (arith, h, same)) }
found_next p n g true None e l ih s =
    let same : n ≡ g = cc in
    record { below = omega (arith, same); holds = subst (λ (k : ℕ). p k ≡ true) same e; first = λ k h. least_none p n l k (omega (arith, h, same)) }
found_next p n g false None e l ih s = absurd (none-some g s)

pub least_found : (p : ℕ → Bool) (n g : ℕ) → least p n ≡ Some g → Found p n g
unfolding least
least_found p zero g e = absurd (none-some g e)
least_found p (suc n) g e = found_next p n g (p n) (least p n) refl refl (λ x q. least_found p n x q) e
