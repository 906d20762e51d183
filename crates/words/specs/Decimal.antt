-- Decimal numbers, by their bytes.
use Rattle.std.specs.Prelude.{ℕ, ◌+◌, ◌-◌, ◌*◌, cond, List, [], ◌∷◌, length, Some, None, Option, nat_le}

abbrev pub digit_of : ℕ → Option ℕ
digit_of b = cond (nat_le 48 b) (cond (nat_le b 57) (Some (b - 48)) None) None

-- one more digit
abbrev pub tens : Option ℕ → Option ℕ → Option ℕ
tens None d = None
tens (Some n) None = None
tens (Some n) (Some d) = Some (10 * n + d)

abbrev pub decimal_after : Option ℕ → List ℕ → Option ℕ
decimal_after n [] = n
decimal_after n (b ∷ bs) = decimal_after (tens n (digit_of b)) bs

-- 1 to 10 digits
abbrev pub decimal : List ℕ → Option ℕ
decimal bs = cond (nat_le 1 (length bs)) (cond (nat_le (length bs) 10) (decimal_after (Some 0) bs) None) None
