use Rattle.std.proofs.Common.{refl, arith}
use Rattle.std.proofs.lemmas.Bool.{false≢true}
use Rattle.clause.proofs.Covering.{both_imply, not_both}
use Rattle.clause.proofs.both_imply.Goals as goal

pub returns-then-meets_both : goal.returns-then-meets_both
returns-then-meets_both c =
    let both = c.if-meets_both.ensures.0 refl in (
      λ e. absurd (false≢true e),
      λ imp. absurd (not_both c.args.a.now c.args.b.now c.args.goal.now c.loop-clause.clause-index c.loop-clause-test.true (omega arith) both.0 both.1 imp),
    )

pub returns : goal.returns
returns c = (λ _. both_imply c.args.a.now c.args.b.now c.args.goal.now (λ k h. c.loop-clause.invariant k (omega arith)), λ _. refl)
