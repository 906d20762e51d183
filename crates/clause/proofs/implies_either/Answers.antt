use Rattle.std.proofs.Common.{get_or, sym, refl, subst, arith, below_more}
use lib.Bits.{or_lt}
use Rattle.std.proofs.lemmas.Bool.{false≢true}
use Rattle.clause.specs.Meaning.{Meets}
use Rattle.clause.proofs.Covering.{implies_either, not_either}
use Rattle.clause.proofs.implies_either.Goals as goal

pub returns-then-meets : goal.returns-then-meets
returns-then-meets c =
    let first = c.args.first.now in
    let a = c.args.a.now in
    let b = c.args.b.now in
    let i = c.loop-x.x-index in
    let j = c.loop-y.y-index in (
      λ e. absurd (false≢true e),
      λ imp. absurd (not_either first a b i j c.loop-x-test.true c.loop-y-test.true
          (or_lt 16 (get_or a i 0) (get_or b j 0) (omega arith) (omega arith)) (subst (Meets first) c.outside.ensures (c.if-meets.ensures.0 refl)) imp),
    )

pub loop-y-preserved : goal.loop-y-preserved
loop-y-preserved c =
    below_more _ _ c.loop-y.invariant (
      or_lt 16 (get_or c.args.a.now c.loop-x.x-index 0) (get_or c.args.b.now c.loop-y.y-index 0) (omega arith) (omega arith),
      λ m. false≢true (c.if-meets.ensures.1 (subst (Meets c.args.first.now) (sym c.outside.ensures) m)),
    )

pub returns : goal.returns
returns c = (λ _. implies_either c.args.first.now c.args.a.now c.args.b.now (λ j h. c.loop-x.invariant j (omega arith)), λ _. refl)
