use Rattle.std.proofs.Common.{ap, ◌∙◌, arith}
use Rattle.std.proofs.lemmas.List.{take_all}
use Rattle.clause.specs.Unions.{unions}
use Rattle.clause.proofs.Joining.{means_unions}
use Rattle.formula.proofs.Gathering.{formed_as, more_rows}
use Rattle.formula.proofs.kept.Formula.or.Goals as goal

pub loop-first-preserved : goal.loop-first-preserved
loop-first-preserved c = (
  more_rows _ c.as_slice-ours.result.now c.as_slice-theirs.result.now c.loop-first.first-index c.loop-second.second-index c.loop-first-test.true c.loop-second-test.false c.loop-second.invariant.0,
  omega (arith, c.as_slice-theirs.ensures.small),
)

pub returns-clause-means : goal.returns-clause-means
returns-clause-means c =
    let ours = c.as_slice-ours.ensures.is in
    let theirs = c.as_slice-theirs.ensures.is in
    let list = c.deref.ensures.0 ∙ c.loop-first.invariant.0 ∙ ap (λ t. unions t c.as_slice-theirs.result.now) (take_all _ _ c.loop-first-test.false) in
    formed_as c.deref.result.now _ c.shrink.result (simp (list, ours, theirs) (means_unions _ _)) c.shrink.ensures.means
