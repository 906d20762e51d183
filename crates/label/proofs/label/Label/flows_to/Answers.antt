use Rattle.std.proofs.lemmas.Bool.Decides.{same_from_decides}
use Rattle.label.specs.Labels.{labelled}
use Rattle.label.proofs.Order.{flows_decides, flows_by_groups}
use Rattle.label.proofs.label.Label.flows_to.Goals as goal

pub returns-clause-answer : goal.returns-clause-answer
returns-clause-answer c = same_from_decides _ _ c.sides_flow.ensures (flows_decides (labelled c.args.self.now) (labelled c.args.other.now))

pub returns-clause-groups : goal.returns-clause-groups
returns-clause-groups c = flows_by_groups
