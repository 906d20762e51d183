use Rattle.std.proofs.Common.{ℕ, ◌<◌, get_or}
use Rattle.clause.specs.Parts.{Part}
use Rattle.clause.proofs.reduce.contains_one.Given as goal

abbrev pub invariant-loop-part : goal.invariant-loop-part
invariant-loop-part l = (k : ℕ) → k < l.part-index → Part (get_or l.parts k 0) l.clause → ⊥
