use Rattle.std.proofs.Common.{◌≡◌, ◌+◌, ◌*◌, ◌^◌, ◌<◌, ◌≤◌, ◌++◌, length}
use Rattle.docket.specs.Bits.{bits, unpack}
use Rattle.docket.specs.Laws.{Bytes}
use Rattle.docket.proofs.bits_packed.BitsPacked.put.Given as goal

abbrev pub invariant-loop-self : goal.invariant-loop-self
invariant-loop-self l = record {
  bytes : Bytes l.self-inside.bytes.items;
  few : l.self-inside.count < 24;
  low : l.self-inside.held < 2 ^ l.self-inside.count;
  room : 8 * length l.self-inside.bytes.items + l.self-inside.count ≤ 168;
  same : unpack l.self-inside.bytes.items ++ bits l.self-inside.count l.self-inside.held
      ≡ unpack l.initial.self-inside.bytes.items ++ bits l.initial.self-inside.count l.initial.self-inside.held;
}

abbrev pub decreases-loop-self : goal.decreases-loop-self
decreases-loop-self l = l.self-inside.count
