use Rattle.std.proofs.Common.{ℕ, ◌-◌, ◌<◌, length, get_or}
use lib.Bits.{bit_or}
use Rattle.clause.specs.Meaning.{Meets}
use Rattle.clause.proofs.implies_either.Given as goal

abbrev pub invariant-loop-x : goal.invariant-loop-x
invariant-loop-x l = (j : ℕ) → j < l.x-index → (k : ℕ) → k < length l.b → (bit_or (get_or l.a j 0) (get_or l.b k 0) < 65536) × (Meets l.first (65535 - bit_or (get_or l.a j 0) (get_or l.b k 0)) → ⊥)

abbrev pub invariant-loop-y : goal.invariant-loop-y
invariant-loop-y l = (k : ℕ) → k < l.y-index → (bit_or l.x (get_or l.b k 0) < 65536) × (Meets l.first (65535 - bit_or l.x (get_or l.b k 0)) → ⊥)
