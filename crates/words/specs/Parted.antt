-- Rows of bytes, parted at a separator.
use Rattle.std.specs.Prelude.{◌≡◌, ℕ, ◌<◌, cond, List, [], ◌∷◌, ◌++◌, length, Some, None, Option, ◌==◌, ◌≢◌, slice_index}
use Rattle.std.specs.Borrow.{Bor}

abbrev pub before : ℕ → List (List ℕ) → List (List ℕ)
before b [] = (b ∷ []) ∷ []
before b (w ∷ ws) = (b ∷ w) ∷ ws

-- the parts of a row of bytes, parted by each single separator
abbrev pub parted : ℕ → List ℕ → List (List ℕ)
parted sep [] = [] ∷ []
parted sep (b ∷ bs) = cond (b == sep) ([] ∷ parted sep bs) (before b (parted sep bs))

-- the parts of what is left of a row, if anything is
abbrev pub parts_of : ℕ → Option (Bor (List ℕ)) → List (List ℕ)
parts_of sep None = []
parts_of sep (Some r) = parted sep r.now

-- parts joined by single separators
abbrev pub joined : ℕ → List (List ℕ) → List ℕ
joined sep [] = []
joined sep (w ∷ []) = w
joined sep (w ∷ v ∷ ws) = w ++ (sep ∷ joined sep (v ∷ ws))

-- no separator stands among the bytes
abbrev pub Without : ℕ → List ℕ → Type 0
Without sep bs = (k : ℕ) → k < length bs → slice_index bs k ≢ sep

-- the first part of a row, and what follows its separator where there is one
abbrev pub Cut : ℕ → List ℕ → List ℕ → Option (Bor (List ℕ)) → Type 0
Cut sep line word None = (word ≡ line) × Without sep word
Cut sep line word (Some rest) = (line ≡ word ++ (sep ∷ rest.now)) × Without sep word

abbrev pub AllWithout : ℕ → List (List ℕ) → Type 0
AllWithout sep [] = Unit {0}
AllWithout sep (w ∷ ws) = (Without sep w) × AllWithout sep ws

-- parting undoes joining, and joining undoes parting
abbrev pub PartsJoin : Type 0
PartsJoin = (sep : ℕ) (bs : List ℕ) → (joined sep (parted sep bs) ≡ bs) × AllWithout sep (parted sep bs)
