use Rattle.label.specs.Tests.{sight_two}
use Rattle.label.proofs.sight.SightCompare.covered_by_two.Goals as goal

pub returns : goal.returns
returns c = sight_two _ _ _ _ c.seen_with_both.ensures
