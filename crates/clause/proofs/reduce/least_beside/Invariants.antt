use Rattle.clause.specs.Parts.{Found}
use Rattle.clause.proofs.reduce.least_beside.Given as goal

abbrev pub invariant-loop-clause : goal.invariant-loop-clause
invariant-loop-clause l = Found l.list l.clause-index l.chosen l.least
