-- Numbers that differ, and tests up to a bound.
use Rattle.std.proofs.Common.{◌≡◌, ℕ, zero, suc, ◌<◌, Bool, true, false, ◌&&◌, eqb, refl, subst, arith, eqb-true}
use borrow.Author.Tests.{eqb-false}
use Rattle.std.proofs.lemmas.Bool.{and_parts}

-- two numbers that a test tells apart are not the same
pub differ : {m n : ℕ} → eqb m n ≡ false → m ≡ n → ⊥
differ {m} {n} t = eqb-false m n t

abbrev pub every : (ℕ → Bool) → ℕ → Bool
every p zero = true
every p (suc n) = p n && every p n

-- what holds of each number below a bound
pub each : (p : ℕ → Bool) (n : ℕ) → every p n ≡ true → (k : ℕ) → k < n → p k ≡ true
each p zero e k h = absurd (omega arith)
each p (suc n) e k h = go (eqb n k) refl (each p n parts.1 k)
  where
    parts : (p n ≡ true) × (every p n ≡ true)
    parts = and_parts (p n) (every p n) e

    go : (b : Bool) → eqb n k ≡ b → (k < n → p k ≡ true) → p k ≡ true
    go true t below = subst (λ (x : ℕ). p x ≡ true) (eqb-true n k t) parts.0
    go false t below = let d : n ≡ k → ⊥ = eqb-false n k t in below (omega arith)
