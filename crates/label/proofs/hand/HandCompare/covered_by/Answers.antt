use Rattle.label.specs.Tests.{hand_covered}
use Rattle.label.proofs.hand.HandCompare.covered_by.Goals as goal

pub returns : goal.returns
returns c = hand_covered _ _ _ c.kept_by.ensures
