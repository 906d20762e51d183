-- A clause and a group share a party, by its number.
use Rattle.std.proofs.Common.{◌≡◌, ℕ, ◌*◌, ◌^◌, ◌<◌, ◌↔◌, ap, ◌∙◌, inl, inr, zero-mul, arith}
use lib.Bits.{bit_and, and_comm, and_le_r}
use Rattle.std.specs.Int.{w16, bit_at}
use Rattle.std.proofs.lemmas.Nat.Bits.{bit_at-lt, bit_at-zero, bit_at_and, bit_at-trailing_zeros, and_pow}
use Rattle.std.proofs.lemmas.Bool.{cases_eq}
use Rattle.std.proofs.lemmas.Nat.{pow_pos}
use Rattle.clause.specs.Meaning.{Shares}
use Rattle.clause.specs.Parties.{Member, Sharing}

-- what is in both is what the two share
both : (k c g : ℕ) → Member k (bit_and c g) → Member k c × Member k g
both k c g m = (omega (arith, bit_at_and c g k, bit_at-lt c k, bit_at-lt g k), omega (arith, bit_at_and c g k, bit_at-lt c k, bit_at-lt g k))

pub sharing : Sharing
sharing c g h = (
  λ s.
      let least = bit_at-trailing_zeros w16 (bit_and c g) (omega arith) (omega (arith, and_le_r c g)) in
      let m = both _ c g least.1 in (_, least.0, m.0, m.1),
  λ m e. omega (arith, bit_at_and c g m.0, m.2, m.3, ap (λ n. bit_at n m.0) e, bit_at-zero m.0),
)

-- a group meets the clause of one party exactly when the party is a member
pub one_party : (k group : ℕ) → k < 16 → group < 65536 → Shares (2 ^ k) group ↔ Member k group
one_party k group l h =
    let e : bit_and (2 ^ k) group ≡ bit_at group k * 2 ^ k = and_comm (2 ^ k) group ∙ and_pow group k in (
      λ s.
          elim (cases_eq (bit_at group k) 1) [
            | inl m ↦ m
            | inr n ↦
                let z : bit_at group k ≡ 0 = omega (arith, bit_at-lt group k, n) in
                absurd (s (e ∙ ap (λ b. b * 2 ^ k) z ∙ zero-mul (2 ^ k)))
          ],
      λ m z. omega (arith, e, ap (λ b. b * 2 ^ k) m, pow_pos k, z),
    )
