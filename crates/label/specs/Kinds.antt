-- A kind as a bit, and as it is printed.
use Rattle.std.specs.Prelude.{ℕ, List, codes}
use Rattle.label.specs.declared.kind.Kind.{Kind}
use Rattle.label.specs.declared.kind.Kind.TheVariants.{Release, Endorse}

abbrev pub kind_bit : Kind → ℕ
kind_bit Release = 0
kind_bit Endorse = 1

abbrev pub kind_text : Kind → List ℕ
kind_text Release = codes "release"
kind_text Endorse = codes "endorse"
