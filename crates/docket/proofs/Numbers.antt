-- Numbers and their bits.
use Rattle.std.proofs.Common.{◌≡◌, ℕ, zero, suc, ◌+◌, ◌*◌, ◌/◌, ◌%◌, ◌^◌, ◌<◌, ◌≤◌, List, [], ◌∷◌, ◌++◌, length, take, sym, ap, ◌∙◌, subst, add-zero, mul-le-mul_right, mod-eq_of_lt, mul_assoc, zero-add, arith, pow-add}
use Rattle.std.specs.List.{AllByRecursion}
use Rattle.std.proofs.ByRecursion.{All-take, All-append}
use Rattle.std.proofs.lemmas.Nat.{mod-pow-add}
use Rattle.std.proofs.lemmas.List.{append_assoc, append-nil, length-take-le}
use Rattle.docket.specs.Bits.{bits, unpack, number, number_from}
use Rattle.docket.proofs.Rows.{bits_join, length_bits}

bits_mod : (w x y : ℕ) → bits w x ≡ bits w y → x % 2 ^ w ≡ y % 2 ^ w
bits_mod zero x y p = omega arith
bits_mod (suc w) x y p =
    let h : x / 2 ^ w % 2 ≡ y / 2 ^ w % 2 = cc in
    let t : bits w x ≡ bits w y = cc in
    let m : x % 2 ^ w ≡ y % 2 ^ w = bits_mod w x y t in
    let e : suc w ≡ 1 + w = omega arith in
    let a : x % 2 ^ (1 + w) ≡ (x / 2 ^ w % 2) * 2 ^ w + x % 2 ^ w = mod-pow-add x 1 w in
    let b : y % 2 ^ (1 + w) ≡ (y / 2 ^ w % 2) * 2 ^ w + y % 2 ^ w = mod-pow-add y 1 w in
    let c : x % 2 ^ (1 + w) ≡ y % 2 ^ (1 + w) = cc in
    ap (λ (k : ℕ). x % 2 ^ k) e ∙ (c ∙ ap (λ (k : ℕ). y % 2 ^ k) (sym e))

bits_inj : (w x y : ℕ) → x < 2 ^ w → y < 2 ^ w → bits w x ≡ bits w y → x ≡ y
bits_inj w x y a b p = sym (mod-eq_of_lt a) ∙ (bits_mod w x y p ∙ mod-eq_of_lt b)

-- each is 0 or 1
abbrev pub Bits : List ℕ → Type 0
Bits = AllByRecursion (λ b. b < 2)

pub Bits-append : (xs ys : List ℕ) → Bits xs → Bits ys → Bits (xs ++ ys)
Bits-append = All-append (λ b. b < 2)

pub bits_bits : (w n : ℕ) → Bits (bits w n)
bits_bits zero n = tt
bits_bits (suc w) n = (omega arith, bits_bits w n)

-- one more bit at the end
bits_push : (w n b : ℕ) → b < 2 → bits (suc w) (2 * n + b) ≡ bits w n ++ (b ∷ [])
bits_push w n b h =
    let e : suc w ≡ w + 1 = omega arith in
    let m : 2 * n + b ≡ n * 2 ^ 1 + b = omega arith in
    let one : bits 1 b ≡ b ∷ [] = let z : b / 2 ^ zero % 2 ≡ b = omega arith in cc in
    ap (λ (k : ℕ). bits k (2 * n + b)) e ∙ ap (bits (w + 1)) m ∙ bits_join w 1 n b h ∙ ap (λ (r : List ℕ). bits w n ++ r) one

-- a number, then more bits
bits_from : (k n : ℕ) (bs : List ℕ) → Bits bs → bits (k + length bs) (number_from n bs) ≡ bits k n ++ bs
bits_from k n [] h = ap (λ (m : ℕ). bits m n) (add-zero k) ∙ sym (append-nil (bits k n))
bits_from k n (b ∷ bs) h =
    let e : k + length (b ∷ bs) ≡ suc k + length bs = omega arith in
    ap (λ (m : ℕ). bits m (number_from (2 * n + b) bs)) e
    ∙ (bits_from (suc k) (2 * n + b) bs h.1
    ∙ (ap (λ (r : List ℕ). r ++ bs) (bits_push k n b h.0) ∙ append_assoc (bits k n) (b ∷ []) bs))

from_small : (n : ℕ) (bs : List ℕ) → Bits bs → number_from n bs < (n + 1) * 2 ^ length bs
from_small n [] h = omega arith
from_small n (b ∷ bs) h =
    let r = from_small (2 * n + b) bs h.1 in
    let p = pow-add 2 1 (length bs) in
    let e : suc (length bs) ≡ 1 + length bs = omega arith in
    let q : (n + 1) * 2 ^ suc (length bs) ≡ (2 * n + 2) * 2 ^ length bs =
    ap (λ (k : ℕ). (n + 1) * 2 ^ k) e
    ∙ (ap (λ (k : ℕ). (n + 1) * k) p ∙ (sym (mul_assoc (n + 1) 2 (2 ^ length bs)) ∙ ap (λ (k : ℕ). k * 2 ^ length bs) (omega arith))) in
    omega (arith, r, q, mul-le-mul_right {m = 2 * n + b + 1} {n = 2 * n + 2} (2 ^ length bs) (omega (arith, h.0)))

bits_number : (bs : List ℕ) → Bits bs → bits (length bs) (number bs) ≡ bs
bits_number bs h = ap (λ (m : ℕ). bits m (number bs)) (sym (zero-add (length bs))) ∙ bits_from 0 0 bs h

number_small : (bs : List ℕ) → Bits bs → number bs < 2 ^ length bs
number_small bs h = omega (arith, from_small 0 bs h)

pub number_bits : (w v : ℕ) → v < 2 ^ w → number (bits w v) ≡ v
number_bits w v h =
    let b = bits_bits w v in
    let l = length_bits w v in
    bits_inj w (number (bits w v)) v
    (subst (λ (k : ℕ). number (bits w v) < 2 ^ k) l (number_small (bits w v) b)) h
    (subst (λ (k : ℕ). bits k (number (bits w v)) ≡ bits w v) l (bits_number (bits w v) b))

-- the number that the first w bits write
module _ (w : ℕ) (U : List ℕ) (b : Bits U) (enough : w ≤ length U) where
  taken : Bits (take w U)
  taken = All-take (λ b. b < 2) w U b

  size : length (take w U) ≡ w
  size = length-take-le w U enough

  pub bits_taken : bits w (number (take w U)) ≡ take w U
  bits_taken = subst (λ (k : ℕ). bits k (number (take w U)) ≡ take w U) size (bits_number (take w U) taken)

  pub taken_small : number (take w U) < 2 ^ w
  taken_small = subst (λ (k : ℕ). number (take w U) < 2 ^ k) size (number_small (take w U) taken)

pub Bits-unpack : (bs : List ℕ) → Bits (unpack bs)
Bits-unpack [] = tt
Bits-unpack (b ∷ bs) = Bits-append (bits 8 b) (unpack bs) (bits_bits 8 b) (Bits-unpack bs)
