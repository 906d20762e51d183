use Rattle.histories.proofs.Table.{worked}
use Rattle.histories.proofs.histories_stand.Goals as goal

pub returns : goal.returns
returns c = worked
