use Rattle.cases.proofs.Rows.{worked}
use Rattle.cases.proofs.Further.{further}
use Rattle.cases.proofs.cases_stand.Goals as goal

pub returns : goal.returns
returns c = record { worked = worked; further = further }
