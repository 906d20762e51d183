-- Numbers that differ.
use Rattle.std.proofs.Common.{◌≡◌, ℕ, false, eqb}
use borrow.Author.Tests.{eqb-false}

-- two numbers that a test tells apart are not the same
pub differ : {m n : ℕ} → eqb m n ≡ false → m ≡ n → ⊥
differ {m} {n} t = eqb-false m n t
