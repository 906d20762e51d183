use Rattle.std.proofs.Common.{List, ℕ}
use Rattle.std.proofs.lemmas.Iterator.{YieldsList}
use Rattle.words.specs.Parted.{parted}
use Rattle.words.specs.Clauses.{hex_all}
use Rattle.words.proofs.Reading.{Reads}
use Rattle.words.proofs.clauses.ClausesWord.read.Given as goal

abbrev pub invariant-loop-part : goal.invariant-loop-part
invariant-loop-part l =
    (goal.iterator-loop-part).can_next l.part-iterator
    × (goal.iterator-loop-part).is_finite l.part-iterator
    × ((rest : List (List ℕ)) × YieldsList (goal.iterator-loop-part).next_gives (λ p. p.now) l.part-iterator rest
    × Reads l.list.items rest (hex_all (parted 46 l.self.part.now)))
