use Rattle.std.proofs.Common.{◌≡◌, ◌^◌, ◌<◌, drop, Some}
use Rattle.words.specs.Decimal.{decimal, decimal_after}
use Rattle.words.proofs.decimal.number.Given as goal

abbrev pub invariant-loop-byte : goal.invariant-loop-byte
invariant-loop-byte l = (decimal_after (Some l.n) (drop l.byte-index l.word) ≡ decimal l.word) × (l.n < 10 ^ l.byte-index)
