-- Short names for the rows.
use Rattle.std.specs.Prelude.{ℕ, List, [], ◌∷◌}
use Rattle.label.specs.Labels.{Marks}
use Rattle.key.specs.Meanings.{Meaning, grant}

-- a label by its sight and its hand
abbrev pub label : List ℕ → List ℕ → Marks
label s h = record { sight = s; hand = h }

abbrev pub one : List ℕ
one = 1 ∷ []

abbrev pub two : List ℕ
two = 2 ∷ []

abbrev pub three : List ℕ
three = 3 ∷ []

abbrev pub one_two : List ℕ
one_two = 1 ∷ 2 ∷ []

-- seen by all, moved by all
abbrev pub free : Marks
free = label [] []

-- a key that grants everything
abbrev pub always : Meaning
always r = grant
