use Rattle.std.proofs.Common.{◌+◌, sym, refl, subst}
use Rattle.std.proofs.lemmas.Bool.{false≢true}
use Rattle.clause.specs.Parts.{Found}
use Rattle.clause.proofs.Finding.{found_over, found_lesser}
use Rattle.clause.proofs.reduce.least_beside.Goals as goal

pub loop-clause-preserved : goal.loop-clause-preserved
loop-clause-preserved c =
    let list = c.args.list.now in
    let n = c.loop-clause.clause-index in
    let chosen = c.args.chosen.now in
    elim c.if-not-contains_one.branch [
      | goal.then-not-contains_one w ↦
          subst (Found list (n + 1) chosen) (sym w.least-is)
          (found_lesser list n chosen c.loop-clause.least w.lesser.result c.loop-clause.invariant (λ o. false≢true (w.if-not-contains_one.ensures.1 o)) w.lesser.ensures)
      | goal.else-not-contains_one w ↦
          subst (Found list (n + 1) chosen) (sym w.least-is)
          (found_over list n chosen c.loop-clause.least c.loop-clause.invariant (w.if-not-contains_one.ensures.0 refl))
    ]
