-- What is printed of a formula, byte by byte.
use Rattle.std.specs.Prelude.{ℕ, List, [], ◌∷◌, ◌++◌, codes}
use Rattle.std.specs.List.{flat_map}
use Rattle.answer.specs.Text.{hex_text}

-- a clause behind another
abbrev pub next_text : ℕ → List ℕ
next_text c = codes "." ++ hex_text c

-- the clauses, four hexadecimal digits each, with full stops between them; of no clauses a T
abbrev pub formula_text : List ℕ → List ℕ
formula_text [] = codes "T"
formula_text (c ∷ cs) = hex_text c ++ flat_map next_text cs
