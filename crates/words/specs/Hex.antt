-- Hexadecimal numbers, by their bytes.
use Rattle.std.specs.Prelude.{ℕ, ◌+◌, ◌-◌, ◌*◌, cond, List, [], ◌∷◌, Some, None, Option, nat_le}

-- the value of a lowercase hexadecimal digit, by its byte
abbrev pub hex_digit : ℕ → Option ℕ
hex_digit b =
    cond (nat_le 48 b)
    (cond (nat_le b 57) (Some (b - 48)) (cond (nat_le 97 b) (cond (nat_le b 102) (Some (b - 87)) None) None))
    None

abbrev pub shifted : Option ℕ → Option ℕ → Option ℕ
shifted None d = None
shifted (Some h) None = None
shifted (Some h) (Some d) = Some (16 * h + d)

-- four digits, high one first, and nothing else
abbrev pub hex_four : List ℕ → Option ℕ
hex_four [] = None
hex_four (a ∷ []) = None
hex_four (a ∷ b ∷ []) = None
hex_four (a ∷ b ∷ c ∷ []) = None
hex_four (a ∷ b ∷ c ∷ d ∷ []) =
    shifted (shifted (shifted (hex_digit a) (hex_digit b)) (hex_digit c)) (hex_digit d)
hex_four (a ∷ b ∷ c ∷ d ∷ e ∷ r) = None
