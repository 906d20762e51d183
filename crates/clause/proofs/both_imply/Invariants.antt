use Rattle.std.proofs.Common.{ℕ, ◌-◌, ◌<◌, get_or}
use Rattle.clause.specs.Meaning.{Meets}
use Rattle.clause.proofs.both_imply.Given as goal

abbrev pub invariant-loop-clause : goal.invariant-loop-clause
invariant-loop-clause l = (k : ℕ) → k < l.clause-index → (get_or l.goal k 0 < 65536) × (Meets l.a (65535 - get_or l.goal k 0) → Meets l.b (65535 - get_or l.goal k 0) → ⊥)
