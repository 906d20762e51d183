use Rattle.std.proofs.lemmas.List.{map-set}
use Rattle.monitor.proofs.tables.Table.set.Goals as goal

pub returns : goal.returns
returns g c = simp map-set
