use Rattle.model.proofs.Attacking.{attackers_are_groups, checks_exact, weakened as weakens, weakened_exists}
use Rattle.model.proofs.robust_against_all_attackers.Goals as goal

pub returns : goal.returns
returns c = record { groups = attackers_are_groups; checks = checks_exact; weakened = weakens; exists = weakened_exists }
