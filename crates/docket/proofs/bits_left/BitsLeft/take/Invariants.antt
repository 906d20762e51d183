use Rattle.std.proofs.Common.{◌-◌, ◌≡◌, ◌^◌, ◌<◌, ◌++◌}
use Rattle.docket.specs.Bits.{bits, unpack}
use Rattle.docket.proofs.bits_left.BitsLeft.take.Given as goal

abbrev pub invariant-loop-self : goal.invariant-loop-self
invariant-loop-self l = record {
  few : l.self-inside.count < 24;
  low : l.self-inside.held < 2 ^ l.self-inside.count;
  same : bits l.self-inside.count l.self-inside.held ++ unpack l.self-inside.bytes.now
      ≡ bits l.initial.self-inside.count l.initial.self-inside.held ++ unpack l.initial.self-inside.bytes.now;
}

abbrev pub decreases-loop-self : goal.decreases-loop-self
decreases-loop-self l = l.width - l.self-inside.count
