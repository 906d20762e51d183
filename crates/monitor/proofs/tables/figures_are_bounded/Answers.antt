use Rattle.monitor.proofs.Bounded.{figures_bounded}
use Rattle.monitor.proofs.tables.figures_are_bounded.Goals as goal

pub returns : goal.returns
returns c = figures_bounded
