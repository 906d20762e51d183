use Rattle.std.proofs.Common.{ap, ◌∙◌}
use Rattle.clause.specs.Groups.{earlier as earlier_of}
use Rattle.key.proofs.Steering.{by_hands}
use Rattle.key.proofs.robust.lowest_gaining.Goals as goal

pub returns : goal.returns
returns c =
    c.earlier.ensures
    ∙ ap (λ o. earlier_of o c.lowest_missing-by_record.result) c.lowest_missing-by_task.ensures.answer
    ∙ ap (earlier_of _) c.lowest_missing-by_record.ensures.answer
    ∙ by_hands c.args.old.now c.args.new.now c.args.record.now c.args.task.now
