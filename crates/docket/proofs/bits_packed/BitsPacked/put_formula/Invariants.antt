use Rattle.std.proofs.Common.{◌≡◌, ◌++◌, take}
use Rattle.docket.specs.Entries.{words}
use Rattle.docket.proofs.bits_packed.BitsPacked.put_formula.Given as goal

abbrev pub invariant-loop-clause : goal.invariant-loop-clause
invariant-loop-clause l = l.self ≡ l.initial.self ++ words (take l.clause-index l.clauses)
