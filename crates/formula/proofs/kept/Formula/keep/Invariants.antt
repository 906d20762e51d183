use Rattle.std.proofs.Common.{◌≡◌, take}
use Rattle.formula.specs.Of.{clauses_of}
use Rattle.formula.proofs.kept.Formula.keep.Given as goal

abbrev pub invariant-loop-clause : goal.invariant-loop-clause
invariant-loop-clause l = clauses_of l.formula ≡ take l.clause-index l.list
