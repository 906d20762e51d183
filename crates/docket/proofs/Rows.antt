-- Rows of bits.
use Rattle.std.proofs.Common.{◌≡◌, ℕ, zero, suc, ◌+◌, ◌*◌, ◌/◌, ◌%◌, ◌^◌, ◌<◌, List, [], ◌∷◌, ◌++◌, length, sym, refl, ap, ◌∙◌, add-zero, zero-add, arith}
use Rattle.std.proofs.lemmas.Nat.{shr-shr, mod-pow-add, field_of, shr_high, mod_low}
use Rattle.std.proofs.lemmas.List.{append_assoc}
use Rattle.docket.specs.Bits.{bits, unpack}

pub length_unpack : (bs : List ℕ) → length (unpack bs) ≡ 8 * length bs
length_unpack [] = refl
length_unpack (b ∷ bs) = omega (arith, length_unpack bs)

pub length_bits : (w n : ℕ) → length (bits w n) ≡ w
length_bits zero n = refl
length_bits (suc w) n = ap suc (length_bits w n)

pub unpack_append : (xs ys : List ℕ) → unpack (xs ++ ys) ≡ unpack xs ++ unpack ys
unpack_append [] ys = refl
unpack_append (x ∷ xs) ys = ap (λ (r : List ℕ). bits 8 x ++ r) (unpack_append xs ys) ∙ sym (append_assoc (bits 8 x) (unpack xs) (unpack ys))

-- higher bits do not matter
bits_low : (w n : ℕ) → bits w (n % 2 ^ w) ≡ bits w n
bits_low w n = go w 0 n (add-zero w)
  where
    go : (v k m : ℕ) → v + k ≡ w → bits v (m % 2 ^ w) ≡ bits v m
    go zero k m e = refl
    go (suc v) k m e =
        let s : w ≡ suc k + v = omega arith in
        let top : m % 2 ^ w / 2 ^ v % 2 ≡ m / 2 ^ v % 2 =
        ap (λ (j : ℕ). m % 2 ^ j / 2 ^ v % 2) s ∙ ap (λ (x : ℕ). x % 2) (field_of m (suc k) v) ∙ even (m / 2 ^ v) k in
        let rest = go v (suc k) m (omega arith) in
        cc
      where
        even : (x j : ℕ) → x % 2 ^ suc j % 2 ≡ x % 2
        even x j =
            let p : 2 ^ suc j ≡ 2 ^ (j + 1) = ap (λ (i : ℕ). 2 ^ i) (omega arith) in
            let q : x % 2 ^ (j + 1) ≡ (x / 2 ^ 1 % 2 ^ j) * 2 ^ 1 + x % 2 ^ 1 = mod-pow-add x j 1 in
            ap (λ (i : ℕ). x % i % 2) p ∙ ap (λ (i : ℕ). i % 2) q ∙ omega arith

-- one number behind another
pub bits_join : (a b x y : ℕ) → y < 2 ^ b → bits (a + b) (x * 2 ^ b + y) ≡ bits a x ++ bits b y
bits_join zero b x y h =
    ap (λ (k : ℕ). bits k (x * 2 ^ b + y)) (zero-add b) ∙ sym (bits_low b (x * 2 ^ b + y)) ∙ ap (bits b) (mod_low x b y h)
bits_join (suc a) b x y h =
    let e : suc a + b ≡ suc (a + b) = omega arith in
    let high : (x * 2 ^ b + y) / 2 ^ b ≡ x = shr_high x b y h in
    let top : (x * 2 ^ b + y) / 2 ^ (a + b) ≡ x / 2 ^ a =
    ap (λ (k : ℕ). (x * 2 ^ b + y) / 2 ^ k) (omega arith) ∙ sym (shr-shr (x * 2 ^ b + y) b a) ∙ ap (λ (z : ℕ). z / 2 ^ a) high in
    let rest = bits_join a b x y h in
    ap (λ (k : ℕ). bits k (x * 2 ^ b + y)) e ∙ cc
