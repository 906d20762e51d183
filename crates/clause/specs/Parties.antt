-- Parties by their numbers.
use Rattle.std.specs.Prelude.{◌≡◌, ℕ, ◌/◌, ◌%◌, ◌^◌, ◌<◌, ◌↔◌}
use Rattle.clause.specs.Meaning.{Shares}

-- party k is a member of the group n, or named by the clause n: the bit worth 2 ^ k is set
abbrev pub Member : ℕ → ℕ → Type 0
Member k n = n / 2 ^ k % 2 ≡ 1

-- some party, by its number 0 to 15, is in both
abbrev pub InBoth : ℕ → ℕ → Type 0
InBoth clause group = (k : ℕ) × (k < 16) × Member k clause × Member k group

-- a group meets a clause exactly when the two share a party
abbrev pub Sharing : Type 0
Sharing = (clause group : ℕ) → group < 65536 → Shares clause group ↔ InBoth clause group
