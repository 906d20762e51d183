-- The manners of taking, by their numbers.
use Rattle.std.specs.Prelude.{ℕ}
use Rattle.monitor.specs.declared.monitor.manner.Manner.{Manner}
use Rattle.monitor.specs.declared.monitor.manner.Manner.TheVariants.{Add, Subtract, Multiply}

abbrev pub number_of : Manner → ℕ
number_of Add = 0
number_of Subtract = 1
number_of Multiply = 2
