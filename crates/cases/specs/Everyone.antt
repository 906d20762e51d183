-- All 65,536 groups count, and no later number.
use Rattle.std.specs.Prelude.{◌≡◌, Some, None, nat_eq}
use Rattle.clause.specs.Groups.{lowest}

pub record Everyone : Type 0 where
  pub last_group : lowest (λ g. nat_eq g 65535) ≡ Some 65535
  pub no_later_group : lowest (λ g. nat_eq g 65536) ≡ None
