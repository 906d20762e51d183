-- Leaving out one party after another, from the highest down.
use Rattle.std.proofs.Common.{◌≡◌, ℕ, ◌+◌, ◌-◌, ◌*◌, ◌/◌, ◌%◌, ◌^◌, ◌<◌, ◌≤◌, sym, ap, ◌∙◌, subst, inl, inr, add-mul, zero-mul, arith}
use lib.Bits.{bit_and, and_comm, and_self, and_le_l}
use Rattle.std.proofs.lemmas.Nat.{and_assoc, shr_high, shr-shr, shr_split, pow_pos, pow_below, mod_below}
use Rattle.std.proofs.lemmas.Nat.Bits.{and_pow}
use Rattle.std.proofs.lemmas.Bool.{cases_eq}
use Rattle.clause.specs.Parts.{Part}
use Rattle.clause.proofs.Bitsets.{split, part_trans}
use Rattle.clause.proofs.Covering.{beside}

-- the group without the party
abbrev pub without : ℕ → ℕ → ℕ
without g party = bit_and g (65535 - 2 ^ party)

-- what lies in two groups lies in what they share
pub part_both : (g a b : ℕ) → Part g a → Part g b → Part g (bit_and a b)
part_both g a b p q = sym (and_assoc b g a) ∙ ap (λ x. bit_and x b) p ∙ q

pub part_meet : (g h : ℕ) → Part (bit_and g h) g
part_meet g h = and_assoc g g h ∙ ap (bit_and g) (and_comm h g) ∙ sym (and_assoc h g g) ∙ ap (λ x. bit_and x h) (and_self g)

half : (n k : ℕ) → n / 2 ^ (k + 1) ≡ n / 2 ^ k / 2
half n k = sym (shr-shr n k 1)

pub in_range : (k : ℕ) → k < 16 → 2 ^ k < 65536
in_range k h = pow_below k 16 h

-- a group without a party has the rest of its bits
pub without_is : (g k : ℕ) → g < 65536 → k < 16 → without g k + (g / 2 ^ k % 2) * 2 ^ k ≡ g
without_is g k h l = omega (arith, and_pow g k, split 16 g (2 ^ k) (65535 - 2 ^ k) (omega (arith, in_range k l)) h)

without_high : (g k : ℕ) → g < 65536 → k < 16 → without g k / 2 ^ k ≡ g / 2 ^ k / 2 * 2
without_high g k h l =
    let q : ℕ = g / 2 ^ k in
    let r : ℕ = g % 2 ^ k in
    let e : q ≡ q / 2 * 2 + q % 2 = omega arith in
    let d : q * 2 ^ k ≡ q / 2 * 2 * 2 ^ k + q % 2 * 2 ^ k = ap (λ x. x * 2 ^ k) e ∙ add-mul (q / 2 * 2) (q % 2) (2 ^ k) in
    let w : without g k ≡ q / 2 * 2 * 2 ^ k + r = omega (arith, d, shr_split g k, without_is g k h l) in
    ap (λ x. x / 2 ^ k) w ∙ shr_high (q / 2 * 2) k r (mod_below g (2 ^ k) (pow_pos k))

-- a group that lacks the party lies in what is left
pub without_holds : (g group k : ℕ) → g < 65536 → k < 16 → Part g group → g / 2 ^ k % 2 ≡ 0 → Part g (without group k)
without_holds g group k h l p e =
    let b : bit_and (2 ^ k) g ≡ 0 = and_comm (2 ^ k) g ∙ and_pow g k ∙ ap (λ x. x * 2 ^ k) e ∙ zero-mul (2 ^ k) in
    part_both g group (65535 - 2 ^ k) p (beside (2 ^ k) g (in_range k l) h b)

module _ (allowed : ℕ) (P : ℕ → Type 0) where
  -- the bits from k up are those of the lowest group inside `allowed` that P holds of, those below are all of `allowed`'s
  pub record Narrowed (k group : ℕ) : Type 0 where
    pub small : group < 65536
    pub inside : Part group allowed
    pub holds : P group
    pub least : (g : ℕ) → g < 65536 → Part g allowed → P g → group / 2 ^ k ≤ g / 2 ^ k
    pub within : (g : ℕ) → g < 65536 → Part g allowed → g / 2 ^ k ≡ group / 2 ^ k → Part g group

  module _ (grows : (g other : ℕ) → g < 65536 → Part g other → P g → P other) (group k : ℕ) (l : k < 16) (n : Narrowed (k + 1) group) where
    same-high : (g : ℕ) → g / 2 ^ k / 2 ≡ group / 2 ^ k / 2 → g / 2 ^ (k + 1) ≡ group / 2 ^ (k + 1)
    same-high g e = half g k ∙ e ∙ sym (half group k)

    leave : P (without group k) → Narrowed k (without group k)
    leave p =
        let high = without_high group k n.small l in
        record {
          small = omega (arith, and_le_l group (65535 - 2 ^ k), n.small);
          inside = part_trans (without group k) group allowed (part_meet group (65535 - 2 ^ k)) n.inside;
          holds = p;
          least = λ g h i m. omega (arith, n.least g h i m, half g k, half group k, high);
          within = λ g h i e. without_holds g group k h l (n.within g h i (same-high g (omega (arith, e, high)))) (omega (arith, e, high));
        }

    stay : (P (without group k) → ⊥) → Narrowed k group
    stay none =
        record {
          small = n.small;
          inside = n.inside;
          holds = n.holds;
          least = λ g h i m.
              elim (cases_eq (g / 2 ^ k / 2) (group / 2 ^ k / 2)) [
                | inl e ↦ elim (cases_eq (g / 2 ^ k % 2) 0) [
                  | inl z ↦ absurd (none (grows g (without group k) h (without_holds g group k h l (n.within g h i (same-high g e)) z) m))
                  | inr z ↦ omega (arith, e, z)
                ]
                | inr e ↦ omega (arith, e, n.least g h i m, half g k, half group k)
              ];
          within = λ g h i e. n.within g h i (same-high g (ap (λ x. x / 2) e));
        }

  -- the party below k: left out where P holds of the rest
  module _ (grows : (g other : ℕ) → g < 65536 → Part g other → P g → P other) (group k rest : ℕ) (some : 0 < k) (most : k ≤ 16) (n : Narrowed k group) (is : rest ≡ without group (k - 1)) where
    before : Narrowed (k - 1 + 1) group
    before = subst (λ j. Narrowed j group) (omega arith) n

    pub left_out : P rest → Narrowed (k - 1) rest
    left_out p = subst (Narrowed (k - 1)) (sym is) (leave grows group (k - 1) (omega arith) before (subst P is p))

    pub kept_in : (P rest → ⊥) → Narrowed (k - 1) group
    kept_in none = stay grows group (k - 1) (omega arith) before (λ p. none (subst P (sym is) p))
