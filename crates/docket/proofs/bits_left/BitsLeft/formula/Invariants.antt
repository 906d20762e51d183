use Rattle.std.proofs.Common.{◌≡◌, ◌++◌, length}
use Rattle.docket.specs.Entries.{words}
use Rattle.docket.specs.Laws.{Sets}
use Rattle.docket.proofs.bits_left.BitsLeft.formula.Given as goal

abbrev pub invariant-loop : goal.invariant-loop
invariant-loop l = record {
  many : length l.clauses.items ≡ l.counter;
  small : Sets l.clauses.items;
  taken : l.initial.self ≡ words l.clauses.items ++ l.self;
}
