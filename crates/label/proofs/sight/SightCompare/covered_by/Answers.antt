use Rattle.label.specs.Tests.{sight_covered}
use Rattle.label.proofs.sight.SightCompare.covered_by.Goals as goal

pub returns : goal.returns
returns c = sight_covered _ _ _ c.seen_with.ensures
