use Rattle.std.proofs.Common.{ℕ, List, ap, ◌∙◌}
use Rattle.rules.proofs.Low.{tracking}
use Rattle.rules.proofs.mark_is_tracked.Goals as goal

pub returns : goal.returns
returns g c =
    λ part carried o.
    tracking (λ l. g.M.Compare.touches (part l) o)
    (record {
      joins = λ a b. ap (λ (m : List ℕ). g.M.Compare.touches m o) (carried.joins a b) ∙ g.met.M.Join.either (part a) (part b) o;
      flow = λ a b h. carried.flow a b h o;
    })
