use Rattle.key.proofs.Granting.{key_laws, over_robust_law}
use Rattle.key.proofs.laws.key_laws.Goals as goal

pub returns : goal.returns
returns c = record { keys = key_laws; over = over_robust_law }
