use Rattle.model.proofs.Privileged.{plain_is_flow, bounded_by_joins, stacking as stacks, robust_twice}
use Rattle.model.proofs.keys_are_privileges.Goals as goal

pub returns : goal.returns
returns c = record { plain = plain_is_flow; bounded = bounded_by_joins; stacking = stacks; twice = robust_twice }
