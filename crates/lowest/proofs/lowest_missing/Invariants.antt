use Rattle.lowest.specs.First.{First}
use Rattle.lowest.proofs.Choosing.{MissingIn}
use Rattle.lowest.proofs.lowest_missing.Given as goal

abbrev pub invariant-loop-clause : goal.invariant-loop-clause
invariant-loop-clause l = First (MissingIn l.missed l.needs l.more l.clause-index) l.best
