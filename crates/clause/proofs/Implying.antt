use Rattle.std.proofs.Common.{◌≡◌, ℕ, ◌+◌, ◌-◌, ◌<◌, List, length, get_or, arith}
use lib.Bits.{bit_and}
use Rattle.std.proofs.ByRecursion.{All-get_or, All-from_get_or}
use Rattle.clause.specs.Meaning.{Shares, Meets, Implies}
use Rattle.clause.proofs.Bitsets.{apart, split, wider}

-- each clause of `ys` contains a clause of `xs`
pub implied : (xs ys : List ℕ) → ((j : ℕ) → j < length ys → (k : ℕ) × (k < length xs) × (bit_and (get_or xs k 0) (get_or ys j 0) ≡ get_or xs k 0)) → Implies xs ys
implied xs ys h g l m =
    All-from_get_or (λ c. Shares c g) ys 0
    (λ j lt e. let w = h j lt in
    All-get_or (λ c. Shares c g) xs w.0 0 w.1 m (wider (get_or xs w.0 0) (get_or ys j 0) g w.2 e))

-- a clause of `ys` that contains no clause of `xs`: its complement meets `xs` and not `ys`
pub refuted : (xs ys : List ℕ) (j : ℕ) → j < length ys → get_or ys j 0 < 65536 → ((k : ℕ) → k < length xs → (get_or xs k 0 < 65536) × (bit_and (get_or xs k 0) (get_or ys j 0) ≡ get_or xs k 0 → ⊥)) → Implies xs ys → ⊥
refuted xs ys j lt fits h imp =
    let d : ℕ = get_or ys j 0 in
    let g : ℕ = 65535 - d in
    let s : d + g + 1 ≡ 65536 = omega arith in
    let m : Meets xs g =
    All-from_get_or (λ c. Shares c g) xs 0
    (λ k l e. let n = h k l in n.1 (omega (arith, split 16 (get_or xs k 0) d g s n.0))) in
    All-get_or (λ c. Shares c g) ys j 0 lt (imp g (omega arith) m) (apart 16 d g s)
