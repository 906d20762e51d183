use Rattle.std.proofs.Common.{◌+◌, not, ◌&&◌, sym, subst, arith}
use Rattle.clause.specs.Groups.{met}
use Rattle.lowest.specs.First.{First, Missing}
use Rattle.lowest.proofs.Choosing.{MissingIn, missing_more, missing_all, first_is, missing_decides}
use Rattle.lowest.proofs.lowest_missing.Goals as goal

pub loop-clause-preserved : goal.loop-clause-preserved
loop-clause-preserved c =
    subst (First (MissingIn c.args.missed.now c.args.needs.now c.args.more.now (c.loop-clause.clause-index + 1))) (sym c.earlier-best.ensures)
    (missing_more c.args.missed.now c.args.needs.now c.args.more.now c.loop-clause.clause-index (omega arith) c.loop-clause.best c.lowest_within.result c.loop-clause.invariant c.lowest_within.ensures)

pub returns : goal.returns
returns c =
    let missed = c.args.missed.now in
    let needs = c.args.needs.now in
    let more = c.args.more.now in
    let best = c.loop-clause.best in
    let found = missing_all missed needs more c.loop-clause.clause-index (omega arith) best c.loop-clause.invariant in
    record {
      answer = first_is (λ g. (met needs g && met more g) && not (met missed g)) (Missing missed needs more) (missing_decides missed needs more) best found;
      first = found;
    }
