-- The first of the groups of which something holds.
use Rattle.std.specs.Prelude.{ℕ, ◌<◌, List, Some, None, Option}
use Rattle.clause.specs.Meaning.{Meets}
use Rattle.clause.specs.Parts.{Part}

-- the lowest group that P holds of
pub record Lowest (P : ℕ → Type 0) (g : ℕ) : Type 0 where
  pub parties : g < 65536
  pub holds : P g
  pub least : (k : ℕ) → k < g → P k → ⊥

-- the lowest group that P holds of, or none where it holds of none
abbrev pub First : (ℕ → Type 0) → Option ℕ → Type 0
First P None = (g : ℕ) → g < 65536 → P g → ⊥
First P (Some g) = Lowest P g

-- a group inside `allowed` that meets each of `needs` and of `more`
pub record Fitting (allowed : ℕ) (needs more : List ℕ) (g : ℕ) : Type 0 where
  pub inside : Part g allowed
  pub meets : Meets needs g × Meets more g

-- a group that meets each of `needs` and of `more` and misses one of `missed`
pub record Missing (missed needs more : List ℕ) (g : ℕ) : Type 0 where
  pub meets : Meets needs g × Meets more g
  pub misses : Meets missed g → ⊥
