use Rattle.std.proofs.Common.{refl}
use Rattle.clause.specs.Groups.{least}
use Rattle.cases.specs.Everyone.{Everyone}

pub everyone : Everyone
unfolding least
everyone = record { last_group = refl; no_later_group = refl }
