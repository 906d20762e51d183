use Rattle.clause.proofs.Tests.{both_imply_is}
use Rattle.key.proofs.plain.together_imply.Goals as goal

pub returns : goal.returns
returns c = both_imply_is _ _ _ _ c.both_imply.ensures
