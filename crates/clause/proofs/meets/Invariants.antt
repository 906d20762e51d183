use Rattle.std.proofs.Common.{ℕ, ◌<◌, get_or}
use Rattle.clause.specs.Meaning.{Shares}
use Rattle.clause.proofs.meets.Given as goal

abbrev pub invariant-loop-clause : goal.invariant-loop-clause
invariant-loop-clause l = (k : ℕ) → k < l.clause-index → Shares (get_or l.clauses k 0) l.group
