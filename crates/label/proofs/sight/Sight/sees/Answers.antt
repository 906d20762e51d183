use Rattle.std.proofs.lemmas.Bool.Decides.{same_from_decides}
use Rattle.clause.proofs.Tests.{met_decides}
use Rattle.label.proofs.sight.Sight.sees.Goals as goal

pub returns : goal.returns
returns c = same_from_decides _ _ c.meets.ensures (met_decides _ c.args.group)
