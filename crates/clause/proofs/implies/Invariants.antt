use Rattle.std.proofs.Common.{ℕ, ◌<◌, get_or}
use Rattle.clause.specs.Parts.{Part, Over}
use Rattle.clause.proofs.implies.Given as goal

abbrev pub invariant-loop-narrow : goal.invariant-loop-narrow
invariant-loop-narrow l = (k : ℕ) → k < l.narrow-index → Part (get_or l.first k 0) (get_or l.second l.wide-index 0) → ⊥

abbrev pub invariant-sought : goal.invariant-sought
invariant-sought l = (j : ℕ) → j < l.wide-index → Over l.first (get_or l.second j 0)
