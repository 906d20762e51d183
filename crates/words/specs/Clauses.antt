-- Clauses as a line writes them, by the bytes of each.
use Rattle.std.specs.Prelude.{ℕ, List, [], ◌∷◌, Some, None, Option}
use Rattle.words.specs.Hex.{hex_four}

abbrev pub cons_some : Option ℕ → Option (List ℕ) → Option (List ℕ)
cons_some None cs = None
cons_some (Some c) None = None
cons_some (Some c) (Some cs) = Some (c ∷ cs)

-- each part is a clause of four hexadecimal digits
abbrev pub hex_all : List (List ℕ) → Option (List ℕ)
hex_all [] = Some []
hex_all (p ∷ ps) = cons_some (hex_four p) (hex_all ps)

abbrev pub or_none : Option (List ℕ) → List ℕ
or_none None = []
or_none (Some cs) = cs
