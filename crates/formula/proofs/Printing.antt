-- Four hexadecimal digits, as a format writes them.
use Rattle.std.proofs.Common.{◌≡◌, ℕ, Some, ◌/◌, ◌%◌, ◌-◌, ◌^◌, ◌<◌, ◌≤◌, true, false, eqb, [], ◌∷◌, refl, ap, inl, inr, arith}
use Rattle.std.proofs.lemmas.Bool.{cases_lt, eq-eqb, ne_eqb}
use Rattle.std.proofs.lemmas.Fmt.{hex_one_digit, hex_two_digits}
use Rattle.std.specs.Fmt.{digits, digits_output, styled_digits_output, padded_integral, format_spec, char_count}
use Rattle.answer.specs.Text.{hex_digit, hex_text}

three_digits : (n : ℕ) → 256 ≤ n → n < 4096 → digits 16 false n ≡ hex_digit (n / 256) ∷ hex_digit (n / 16) ∷ hex_digit n ∷ []
unfolding digits
three_digits n large small =
    let more : eqb (n / 16) 0 ≡ false = ne_eqb (n / 16) 0 (λ e. omega arith) in
    let again : eqb (n / 16 / 16) 0 ≡ false = ne_eqb (n / 16 / 16) 0 (λ e. omega arith) in
    let last : eqb (n / 16 / 16 / 16) 0 ≡ true = eq-eqb (n / 16 / 16 / 16) 0 (omega arith) in
    let high : n / 16 / 16 % 16 ≡ n / 256 % 16 = omega arith in
    rw (more, again, last, high) refl

four_digits : (n : ℕ) → 4096 ≤ n → n < 65536 → digits 16 false n ≡ hex_text n
unfolding digits
four_digits n large small =
    let more : eqb (n / 16) 0 ≡ false = ne_eqb (n / 16) 0 (λ e. omega arith) in
    let again : eqb (n / 16 / 16) 0 ≡ false = ne_eqb (n / 16 / 16) 0 (λ e. omega arith) in
    let third : eqb (n / 16 / 16 / 16) 0 ≡ false = ne_eqb (n / 16 / 16 / 16) 0 (λ e. omega arith) in
    let last : eqb (n / 16 / 16 / 16 / 16) 0 ≡ true = eq-eqb (n / 16 / 16 / 16 / 16) 0 (omega arith) in
    let middle : n / 16 / 16 % 16 ≡ n / 256 % 16 = omega arith in
    let high : n / 16 / 16 / 16 % 16 ≡ n / 4096 % 16 = omega arith in
    rw (more, again, third, last, middle, high) refl

-- what `{:04x}` writes of a clause
pub hex_four : (n : ℕ) → n < 65536 → padded_integral (format_spec 32 0 4 4 (2 ^ 64 - 1)) false [] (digits 16 false n) ≡ hex_text n
unfolding padded_integral char_count
hex_four n small =
    let high : n < 4096 → n / 4096 ≡ 0 = λ l. omega arith in
    let third : n < 256 → n / 256 ≡ 0 = λ l. omega arith in
    let second : n < 16 → n / 16 ≡ 0 = λ l. omega arith in
    let low : n < 16 → n % 16 ≡ n = λ l. omega arith in
    elim (cases_lt n 16) [
      | inl l ↦ rw (hex_one_digit false n l, high (omega arith), third (omega arith), second l, low l) refl
      | inr m ↦ elim (cases_lt n 256) [
        | inl l ↦ let q : n / 16 % 16 ≡ n / 16 = omega arith in rw (hex_two_digits false n m l, high (omega arith), third l, q) refl
        | inr m ↦ elim (cases_lt n 4096) [
          | inl l ↦ rw (three_digits n m l, high l) refl
          | inr m ↦ rw (four_digits n m small) refl
        ]
      ]
    ]

-- the same of the hole that holds it
pub hex_hole : (d : _) (s : _) (n : ℕ) → n < 65536 → digits_output d ≡ Some (digits 16 false n) → s ≡ format_spec 32 0 4 4 (2 ^ 64 - 1) → styled_digits_output d s ≡ Some (hex_text n)
hex_hole d s n small e l = rw (l, e) (ap (λ t. Some t) (hex_four n small))
