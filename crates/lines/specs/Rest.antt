-- The rest of a line, by its words.
use Rattle.std.specs.Prelude.{ℕ, List, Option}
use Rattle.std.specs.Borrow.{Bor}
use Rattle.words.specs.Parted.{parts_of}

-- the words that are left of a line, parted by single spaces (byte 32)
abbrev pub left_of : Option (Bor (List ℕ)) → List (List ℕ)
left_of rest = parts_of 32 rest
