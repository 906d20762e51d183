-- Bits that are held in one number.
use Rattle.std.proofs.Common.{◌≡◌, ℕ, ◌+◌, ◌-◌, ◌*◌, ◌/◌, ◌%◌, ◌^◌, ◌<◌, ◌≤◌, List, [], ◌∷◌, ◌++◌, length, get_or, take, drop, sym, ap, ◌∙◌, subst, mul-le-mul_right, add-mul, arith, pow-add, length-append}
use lib.Bits.{bit_or}
use Rattle.std.proofs.lemmas.Nat.{shl_whole, or_shifted, shr_split, shr_below, one_shl, mod_below, pow_pos}
use Rattle.std.proofs.lemmas.List.{take_all, append_assoc}
use Rattle.docket.specs.Bits.{bits, unpack}
use Rattle.docket.proofs.Rows.{bits_join, length_bits, length_unpack, unpack_append}

-- the bits of a number taken in behind those held
module _ (held count value width : ℕ) (low : held < 2 ^ count) (room : count + width ≤ 32) (small : value < 2 ^ width) where
  both : bit_or ((held * 2 ^ width) % 4294967296) value ≡ held * 2 ^ width + value
  both =
      ap (λ (x : ℕ). bit_or x value) (shl_whole held count width 32 low room) ∙ or_shifted held width value small

  pub joined : bits (count + width) (bit_or ((held * 2 ^ width) % 4294967296) value) ≡ bits count held ++ bits width value
  joined = ap (bits (count + width)) both ∙ bits_join count width held value small

  pub joined_low : bit_or ((held * 2 ^ width) % 4294967296) value < 2 ^ (count + width)
  joined_low =
      let q : (held + 1) * 2 ^ width ≤ 2 ^ count * 2 ^ width = mul-le-mul_right {m = held + 1} {n = 2 ^ count} (2 ^ width) (omega arith) in
      omega (arith, both, pow-add 2 count width, q, add-mul held 1 (2 ^ width))

-- the first w bits of count taken out, and those that stay
module _ (held count w m : ℕ) (low : held < 2 ^ count) (size : count ≡ w + m) (few : m < 32) where
  one : (1 * 2 ^ m) % 4294967296 ≡ 2 ^ m
  one = one_shl m 32 few

  pub cut_small : held / 2 ^ m < 2 ^ w
  cut_small = shr_below held w m (subst (λ (k : ℕ). held < 2 ^ k) size low)

  pub cut_low : held % ((1 * 2 ^ m) % 4294967296) < 2 ^ m
  cut_low = subst (λ (k : ℕ). held % k < 2 ^ m) (sym one) (mod_below held (2 ^ m) (pow_pos m))

  pub cut : bits count held ≡ bits w (held / 2 ^ m) ++ bits m (held % ((1 * 2 ^ m) % 4294967296))
  cut =
      ap (λ (k : ℕ). bits k held) size
      ∙ (ap (bits (w + m)) (sym (shr_split held m))
      ∙ (bits_join w m (held / 2 ^ m) (held % 2 ^ m) (mod_below held (2 ^ m) (pow_pos m))
      ∙ ap (λ (k : ℕ). bits w (held / 2 ^ m) ++ bits m (held % k)) (sym one)))

-- the bits of the first byte
pub unpack_first : (bs : List ℕ) → 1 ≤ length bs → bits 8 (get_or bs 0 0) ++ unpack (take (length bs - 1) (drop 1 bs)) ≡ unpack bs
unpack_first [] h = absurd (omega arith)
unpack_first (b ∷ bs) h = ap (λ (x : List ℕ). bits 8 b ++ unpack x) (take_all (length (b ∷ bs) - 1) bs (omega arith))

pub length_left : (count held : ℕ) (bs : List ℕ) → length (bits count held ++ unpack bs) ≡ count + 8 * length bs
length_left count held bs =
    length-append (bits count held) (unpack bs) ∙ ap (λ (k : ℕ). k + length (unpack bs)) (length_bits count held) ∙ ap (λ (k : ℕ). count + k) (length_unpack bs)

-- bytes with bits behind them
pub length_put : (bs : List ℕ) (count held : ℕ) → length (unpack bs ++ bits count held) ≡ 8 * length bs + count
length_put bs count held =
    length-append (unpack bs) (bits count held) ∙ ap (λ (k : ℕ). length (unpack bs) + k) (length_bits count held) ∙ ap (λ (k : ℕ). k + count) (length_unpack bs)

-- one more byte
pub unpack_push : (bs row : List ℕ) (b : ℕ) → unpack (bs ++ b ∷ []) ++ row ≡ unpack bs ++ (bits 8 b ++ row)
unpack_push bs row b =
    ap (λ (x : List ℕ). x ++ row) (unpack_append bs (b ∷ [])) ∙ append_assoc (unpack bs) (unpack (b ∷ [])) row
