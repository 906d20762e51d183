-- Rows of bits, most significant bit first.
use Rattle.std.specs.Prelude.{ℕ, zero, suc, ◌+◌, ◌*◌, ◌/◌, ◌%◌, ◌^◌, List, [], ◌∷◌, ◌++◌, take, drop}

-- the lowest w bits of n
abbrev pub bits : ℕ → ℕ → List ℕ
bits zero n = []
bits (suc w) n = (n / 2 ^ w % 2) ∷ bits w n

-- the bits of a row of bytes
abbrev pub unpack : List ℕ → List ℕ
unpack [] = []
unpack (b ∷ bs) = bits 8 b ++ unpack bs

abbrev pub number_from : ℕ → List ℕ → ℕ
number_from n [] = n
number_from n (b ∷ bs) = number_from (2 * n + b) bs

-- the number that a row of bits writes
abbrev pub number : List ℕ → ℕ
number bs = number_from 0 bs

-- the first n bytes that a row of bits fills
abbrev pub packed : ℕ → List ℕ → List ℕ
packed zero U = []
packed (suc n) U = number (take 8 U) ∷ packed n (drop 8 U)
