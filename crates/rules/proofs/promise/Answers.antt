use Rattle.key.proofs.Granting.{key_laws, over_robust_law}
use Rattle.rules.proofs.Low.{tracking as tracked}
use Rattle.rules.proofs.Secrets.{secrecy as secret}
use Rattle.rules.proofs.Hands.{influence as influences}
use Rattle.rules.proofs.promise.Goals as goal

pub returns : goal.returns
returns c =
    record {
      keys = key_laws;
      over = over_robust_law;
      secrecy = secret c.mark_is_tracked.ensures;
      influence = influences c.mark_is_tracked-2.ensures;
      tracking = tracked;
    }
