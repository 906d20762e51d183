use Rattle.std.proofs.Common.{ℕ, ◌<◌, get_or, refl, arith, below_more}
use Rattle.std.proofs.lemmas.Bool.{false≢true}
use Rattle.clause.proofs.Implying.{implied, refuted}
use Rattle.clause.proofs.implies.Goals as goal

pub sought-preserved : goal.sought-preserved
sought-preserved c = below_more _ _ c.sought.invariant (c.loop-narrow.narrow-index, c.loop-narrow-test.true, c.if-contains.ensures.0 refl)

pub returns-in-sought : goal.returns-in-sought
returns-in-sought c =
    let fits : (k : ℕ) → get_or c.args.first.now k 0 < 65536 = λ k. let h = c.type_inv.first k in omega arith in (
      λ e. absurd (false≢true e),
      λ imp. absurd (refuted c.args.first.now c.args.second.now c.sought.wide-index c.sought-test.true (omega arith)
          (λ k h. (fits k, c.loop-narrow.invariant k (omega arith))) imp),
    )

pub returns : goal.returns
returns c = (λ _. implied c.args.first.now c.args.second.now (λ j h. c.sought.invariant j (omega arith)), λ _. refl)
