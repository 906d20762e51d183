use Rattle.rules.proofs.Steps.{step_laws}
use Rattle.rules.proofs.step_laws.Goals as goal

pub returns : goal.returns
returns c = step_laws
