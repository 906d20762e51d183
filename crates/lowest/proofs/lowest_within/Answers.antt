use Rattle.std.proofs.Common.{refl}
use Rattle.std.proofs.lemmas.Bool.{false≢true}
use Rattle.lowest.proofs.Choosing.{grows_both}
use Rattle.lowest.proofs.Narrowing.{left_out, kept_in}
use Rattle.lowest.proofs.lowest_within.Goals as goal

pub returns-then-not-meets_both : goal.returns-then-not-meets_both
returns-then-not-meets_both c = λ g h f. false≢true (c.if-not-meets_both.ensures.1 (grows_both c.args.needs.now c.args.more.now g c.args.allowed h f.inside f.meets))

pub loop-party-preserved-then-meets_both : goal.loop-party-preserved-then-meets_both
loop-party-preserved-then-meets_both c =
    left_out _ _ (grows_both c.args.needs.now c.args.more.now) c.loop-party.group c.loop-party.party _ c.loop-party-test.true c.loop-party.auto.party c.loop-party.invariant c.without-rest.ensures
    (c.if-meets_both.ensures.0 refl)

pub loop-party-preserved : goal.loop-party-preserved
loop-party-preserved c =
    kept_in _ _ (grows_both c.args.needs.now c.args.more.now) c.loop-party.group c.loop-party.party _ c.loop-party-test.true c.loop-party.auto.party c.loop-party.invariant c.without-rest.ensures
    (λ m. false≢true (c.if-meets_both.ensures.1 m))
