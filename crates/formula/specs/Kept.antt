-- The kept form of a formula with `count` clauses.
use Rattle.std.specs.Prelude.{◌≡◌, ℕ, ◌<◌, ◌≤◌, List, bit_and, slice_index}
use Rattle.std.specs.List.{All}

-- places that are not in use hold 0
abbrev pub Unused : List ℕ → ℕ → Type 0
Unused clauses count = (i : ℕ) → count ≤ i → slice_index clauses i ≡ 0

-- the clauses rise by number, so none is repeated
abbrev pub Rising : List ℕ → ℕ → Type 0
Rising clauses count = (i j : ℕ) → i < j → j < count → slice_index clauses i < slice_index clauses j

-- none contains another: of two, the first has a party that the second lacks. (The second has one
-- that the first lacks because it is the larger number.)
abbrev pub Apart : List ℕ → ℕ → Type 0
Apart clauses count = (i j : ℕ) → i < j → j < count → bit_and (slice_index clauses i) (slice_index clauses j) < slice_index clauses i

-- each place holds a set of sixteen parties
abbrev pub Sixteen : List ℕ → Type 0
Sixteen clauses = (i : ℕ) → slice_index clauses i < 65536

-- the second clause rises above the first and does not contain it
abbrev pub Beside : ℕ → ℕ → Type 0
Beside c d = (c < d) × (bit_and c d < c)

-- a clause that may stand behind these
abbrev pub Behind : List ℕ → ℕ → Type 0
Behind clauses c = All (λ b. Beside b c) clauses
