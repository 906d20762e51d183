use Rattle.clause.specs.Meaning.{Meets}
use Rattle.lowest.proofs.Narrowing.{Narrowed}
use Rattle.lowest.proofs.lowest_within.Given as goal

abbrev pub invariant-loop-party : goal.invariant-loop-party
invariant-loop-party l = Narrowed l.allowed (λ g. Meets l.needs g × Meets l.more g) l.party l.group
