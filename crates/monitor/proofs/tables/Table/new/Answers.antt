use Rattle.std.proofs.Common.{◌≡◌, ℕ, zero, suc, None, map, replicate, refl, ap, ◌∷◌}
use Rattle.rules.specs.State.{vacant}
use Rattle.monitor.specs.View.{place_of}
use Rattle.monitor.proofs.tables.Table.new.Goals as goal

all_vacant : (n : ℕ) → map place_of (replicate n None) ≡ replicate n vacant
all_vacant zero = refl
all_vacant (suc n) = ap (λ ps. vacant ∷ ps) (all_vacant n)

pub returns : goal.returns
returns g c = all_vacant g.row.N
