use Rattle.std.proofs.Common.{◌≡◌, ◌+◌, ◌*◌, ◌≤◌, ◌++◌, map, length, take}
use lib.Bits.{bit_or}
use Rattle.clause.specs.Unions.{unions}
use Rattle.formula.proofs.kept.Formula.or.Given as goal

abbrev pub invariant-loop-first : goal.invariant-loop-first
invariant-loop-first l = (l.list.items ≡ unions (take l.first-index l.ours) l.theirs) × (length l.list.items ≤ 8 * l.first-index)

abbrev pub invariant-loop-second : goal.invariant-loop-second
invariant-loop-second l = (l.list.items ≡ unions (take l.first-index l.ours) l.theirs ++ map (bit_or l.first) (take l.second-index l.theirs)) × (length l.list.items ≤ 8 * l.first-index + l.second-index)
