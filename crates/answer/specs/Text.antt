-- What the program prints of an answer, byte by byte.
use Rattle.std.specs.Prelude.{ℕ, ◌+◌, ◌/◌, ◌%◌, cond, List, [], ◌∷◌, ◌++◌, codes, decimal, nat_lt}
use Rattle.answer.specs.Told.{Told, granted, refused}

-- the byte of the last hexadecimal digit of n
abbrev pub hex_digit : ℕ → ℕ
hex_digit n = cond (nat_lt (n % 16) 10) (48 + n % 16) (87 + n % 16)

-- four digits, high one first
abbrev pub hex_text : ℕ → List ℕ
hex_text n = hex_digit (n / 4096) ∷ hex_digit (n / 256) ∷ hex_digit (n / 16) ∷ hex_digit n ∷ []

-- ok, or ok and the figure; the question's number, or that and the group
abbrev pub text : Told → List ℕ
text (granted []) = codes "ok"
text (granted (n ∷ ns)) = codes "ok " ++ decimal n
text (refused q []) = decimal q
text (refused q (g ∷ gs)) = decimal q ++ (codes " " ++ hex_text g)

-- an answer behind the number of its line
abbrev pub numbered : ℕ → Told → List ℕ
numbered n x = decimal n ++ (codes " " ++ text x)
