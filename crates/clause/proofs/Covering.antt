use Rattle.std.proofs.Common.{◌≡◌, ℕ, ◌-◌, ◌<◌, ◌⊎◌, List, [], ◌∷◌, length, get_or, ap, ◌∙◌, inl, inr, arith}
use lib.Bits.{bit_and, bit_or, and_comm, or_comm}
use Rattle.std.proofs.ByRecursion.{All-get_or, All-from_get_or, All-weaker}
use Rattle.std.proofs.lemmas.Bool.{cases_eq}
use Rattle.clause.specs.Meaning.{Shares, Meets, BothImply, ImpliesEither}
use Rattle.clause.proofs.Bitsets.{apart, split, wider, missed_or, or_holds}

-- a larger group meets what a smaller one meets
pub grows : (cs : List ℕ) (g g' : ℕ) → g < 65536 → bit_and g g' ≡ g → Meets cs g → Meets cs g'
grows cs g g' l s =
    All-weaker (λ c. Shares c g) (λ c. Shares c g') (λ c m e. m (and_comm c g ∙ wider g g' c s (and_comm g' c ∙ e))) cs

-- a group that misses a clause lies in its complement
pub beside : (d g : ℕ) → d < 65536 → g < 65536 → bit_and d g ≡ 0 → bit_and g (65535 - d) ≡ g
beside d g dl gl e = omega (arith, split 16 g d (65535 - d) (omega arith) gl, and_comm g d)

-- a group meets a formula or misses one of its clauses
pub found : (cs : List ℕ) (g : ℕ) → Meets cs g ⊎ ((k : ℕ) × (k < length cs) × (bit_and (get_or cs k 0) g ≡ 0))
found [] g = inl tt
found (c ∷ cs) g =
    elim (cases_eq (bit_and c g) 0) [
      | inl e ↦ inr (0, omega arith, e)
      | inr n ↦ elim (found cs g) [ inl m ↦ inl (n, m) | inr w ↦ inr (ℕ.suc w.0, omega arith, w.2) ]
    ]

pub both_imply : (a b goal : List ℕ) → ((k : ℕ) → k < length goal → (get_or goal k 0 < 65536) × (Meets a (65535 - get_or goal k 0) → Meets b (65535 - get_or goal k 0) → ⊥)) → BothImply a b goal
both_imply a b goal h g gl ma mb =
    All-from_get_or (λ c. Shares c g) goal 0
    (λ k lt e. let w = h k lt in let s = beside (get_or goal k 0) g w.0 gl e in
    w.1 (grows a g (65535 - get_or goal k 0) gl s ma) (grows b g (65535 - get_or goal k 0) gl s mb))

pub not_both : (a b goal : List ℕ) (k : ℕ) → k < length goal → get_or goal k 0 < 65536 → Meets a (65535 - get_or goal k 0) → Meets b (65535 - get_or goal k 0) → BothImply a b goal → ⊥
not_both a b goal k lt dl ma mb imp =
    let d : ℕ = get_or goal k 0 in
    All-get_or (λ c. Shares c (65535 - d)) goal k 0 lt (imp (65535 - d) (omega arith) ma mb) (apart 16 d (65535 - d) (omega arith))

pub implies_either : (first a b : List ℕ) → ((j : ℕ) → j < length a → (k : ℕ) → k < length b → (bit_or (get_or a j 0) (get_or b k 0) < 65536) × (Meets first (65535 - bit_or (get_or a j 0) (get_or b k 0)) → ⊥)) → ImpliesEither first a b
implies_either first a b h g gl m =
    elim (found a g) [
      | inl ma ↦ inl ma
      | inr x ↦ elim (found b g) [
        | inl mb ↦ inr mb
        | inr y ↦
            let w = h x.0 x.1 y.0 y.1 in
            let d : ℕ = bit_or (get_or a x.0 0) (get_or b y.0 0) in
            let e : bit_and d g ≡ 0 = missed_or (get_or a x.0 0) (get_or b y.0 0) g x.2 y.2 in
            absurd (w.1 (grows first g (65535 - d) gl (beside d g w.0 gl e) m))
      ]
    ]

pub not_either : (first a b : List ℕ) (j k : ℕ) → j < length a → k < length b → bit_or (get_or a j 0) (get_or b k 0) < 65536 → Meets first (65535 - bit_or (get_or a j 0) (get_or b k 0)) → ImpliesEither first a b → ⊥
not_either first a b j k jl kl dl m imp =
    let x : ℕ = get_or a j 0 in
    let y : ℕ = get_or b k 0 in
    let d : ℕ = bit_or x y in
    let e : bit_and d (65535 - d) ≡ 0 = apart 16 d (65535 - d) (omega arith) in
    elim (imp (65535 - d) (omega arith) m) [
      | inl ma ↦ All-get_or (λ c. Shares c (65535 - d)) a j 0 jl ma (wider x d (65535 - d) (or_holds x y) e)
      | inr mb ↦ All-get_or (λ c. Shares c (65535 - d)) b k 0 kl mb (wider y d (65535 - d) (ap (bit_and y) (or_comm x y) ∙ or_holds y x) e)
    ]
