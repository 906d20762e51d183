use Rattle.std.proofs.Common.{◌-◌, length}
use Rattle.docketview.proofs.add_docket.Given as goal

abbrev pub decreases-loop-entry : goal.decreases-loop-entry
decreases-loop-entry l = length l.bytes - l.place
