use Rattle.std.proofs.Common.{◌≡◌, map, take}
use Rattle.std.specs.Int.{w16, from_be_bytes}
use Rattle.exports.proofs.compare.formula_from.Given as goal

abbrev pub invariant-loop-pair : goal.invariant-loop-pair
invariant-loop-pair l = l.clauses.items ≡ map (from_be_bytes w16) (take l.pair-index l.pairs)
