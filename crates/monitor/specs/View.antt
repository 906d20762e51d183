-- The monitor's tables in plain terms.
use Rattle.std.specs.Prelude.{ℕ, List, Option, Some, None, map}
use Rattle.label.specs.Labels.{labelled}
use Rattle.rules.specs.State.{State, Place, vacant, holds, AllBounded}
use Rattle.monitor.specs.declared.tables.Held.{Held}
use Rattle.monitor.specs.declared.tables.Table.{Table}
use Rattle.monitor.specs.declared.tables.Tables.{Tables}

abbrev pub place_of : Option Held → Place
place_of None = vacant
place_of (Some h) = holds h.figure.cents (labelled h.label)

abbrev pub places : {n : ℕ} → Table n → List Place
places t = map place_of t.slots

abbrev pub view : Tables → State
view t = record { records = places t.records; tasks = places t.tasks }

-- every figure in the tables of a monitor is at most 999,999,999 cents
abbrev pub FiguresBounded : Type 0
FiguresBounded = (t : Tables) → AllBounded (view t).records × AllBounded (view t).tasks
