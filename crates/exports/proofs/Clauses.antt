-- Clauses in bytes, one after another.
use Rattle.std.proofs.Common.{◌≡◌, ℕ, suc, map, ◌/◌, List, [], ◌∷◌, length, refl, arith}
use Rattle.std.specs.Int.{w16, from_be_bytes}
use Rattle.std.specs.Simd.{first_chunks}
use Rattle.exports.specs.Comparing.{clauses_from}

pub length_clauses : (bytes : List ℕ) → length (clauses_from bytes) ≡ length bytes / 2
length_clauses [] = refl
length_clauses (b ∷ []) = refl
length_clauses (b ∷ c ∷ bs) = omega (arith, length_clauses bs)

-- the clauses are the pairs of bytes, read high byte first
pub in_pairs : (bytes : List ℕ) → map (from_be_bytes w16) (first_chunks 2 (length bytes / 2) bytes) ≡ clauses_from bytes
in_pairs [] = refl
in_pairs (b ∷ []) = refl
in_pairs (b ∷ c ∷ bs) =
    let more : length (b ∷ c ∷ bs) / 2 ≡ suc (length bs / 2) = omega arith in
    rw (more, in_pairs bs)
