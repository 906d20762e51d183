use Rattle.label.specs.Tests.{hand_two}
use Rattle.label.proofs.hand.HandCompare.covered_by_two.Goals as goal

pub returns : goal.returns
returns c = hand_two _ _ _ _ c.kept_by_either.ensures
