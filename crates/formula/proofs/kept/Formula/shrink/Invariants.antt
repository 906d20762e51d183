use Rattle.std.proofs.Common.{◌≡◌, ◌-◌, ◌≤◌, length, take}
use Rattle.formula.specs.Kept.{Unused}
use Rattle.formula.proofs.Choosing.{ChosenOf}
use Rattle.formula.proofs.kept.Formula.shrink.Given as goal

abbrev pub invariant-loop-clause : goal.invariant-loop-clause
invariant-loop-clause l = (length l.clauses ≡ 8) × (l.count ≤ 8) × Unused l.clauses l.count × ChosenOf l.list (take l.count l.clauses)

abbrev pub decreases-loop-clause : goal.decreases-loop-clause
decreases-loop-clause l = 8 - l.count
