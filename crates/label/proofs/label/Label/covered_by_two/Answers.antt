use Rattle.std.proofs.lemmas.Bool.Decides.{same_from_decides}
use Rattle.label.specs.Labels.{labelled}
use Rattle.label.proofs.Order.{covered_decides}
use Rattle.label.proofs.label.Label.covered_by_two.Goals as goal

pub returns : goal.returns
returns c = same_from_decides _ _ c.sides_covered.ensures (covered_decides (labelled c.args.self.now) (labelled c.args.a.now) (labelled c.args.b.now))
