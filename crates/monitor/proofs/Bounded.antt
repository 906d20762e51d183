-- Figures are bounded in every table, as each is so by its type.
use Rattle.std.proofs.Common.{◌≡◌, zero, suc, true, List, [], ◌∷◌, Option, Some, None, map, refl}
use Rattle.std.proofs.lemmas.Bool.{le-leb}
use Rattle.rules.specs.State.{bounded, AllBounded}
use Rattle.monitor.specs.declared.tables.Held.{Held}
use Rattle.monitor.specs.View.{place_of, FiguresBounded}

bounded_place : (h : Option Held) → bounded (place_of h) ≡ true
bounded_place None = refl
bounded_place (Some h) = le-leb h.figure.cents 999999999 h.figure.small

bounded_slots : (slots : List (Option Held)) → AllBounded (map place_of slots)
bounded_slots [] i = refl
bounded_slots (h ∷ hs) zero = bounded_place h
bounded_slots (h ∷ hs) (suc i) = bounded_slots hs i

pub figures_bounded : FiguresBounded
figures_bounded t = (bounded_slots t.records.slots, bounded_slots t.tasks.slots)
