use Rattle.std.proofs.Common.{ℕ, ◌-◌, ◌<◌, ◌++◌, List, length, take, drop, sym, refl, ap, ◌∙◌, arith}
use Rattle.std.proofs.Math.Pow.{pow_mono}
use Rattle.std.proofs.lemmas.List.{append_assoc}
use Rattle.docket.specs.Bits.{bits, unpack}
use Rattle.docket.proofs.Held.{length_left, unpack_first, joined, joined_low, cut, cut_low, cut_small}
use Rattle.docket.proofs.bits_left.BitsLeft.take.Goals as goal

pub returns-in_default-clause-taken : goal.returns-in_default-clause-taken
returns-in_default-clause-taken c =
    let l = c.loop-self.self-inside in
    (refl, omega (arith, ap length (sym c.self.view_is ∙ sym c.loop-self.invariant.same), length_left l.count l.held l.bytes.now))

pub loop-self-preserved : goal.loop-self-preserved
loop-self-preserved c =
    let held = c.loop-self.self-inside.held in
    let count = c.loop-self.self-inside.count in
    let bytes : List ℕ = c.loop-self.self-inside.bytes.now in
    let byte = c.from.result in
    let rest : List ℕ = take (length bytes - 1) (drop 1 bytes) in
    let small : byte < 256 = omega arith in
    record {
      few = omega arith;
      low = joined_low held count byte 8 c.loop-self.invariant.low (omega arith) small;
      same =
          ap (λ (x : List ℕ). x ++ unpack rest) (joined held count byte 8 c.loop-self.invariant.low (omega arith) small)
          ∙ (append_assoc (bits count held) (bits 8 byte) (unpack rest)
          ∙ (ap (λ (b : ℕ). bits count held ++ (bits 8 b ++ unpack rest)) c.from.ensures
          ∙ (ap (λ (x : List ℕ). bits count held ++ x) (unpack_first bytes c.in-len1-up.len_at_least) ∙ c.loop-self.invariant.same)));
    }

pub overflow_cast-value-2 : goal.overflow_cast-value-2
overflow_cast-value-2 c =
    let held = c.loop-self.self-inside.held in
    let count = c.loop-self.self-inside.count in
    let small = cut_small held count c.args.width (count - c.args.width) c.loop-self.invariant.low (omega arith) (omega arith) in
    omega (arith, small, pow_mono {i = c.args.width} {j = 16} c.requires)

pub invariant_of-self-2 : goal.invariant_of-self-2
invariant_of-self-2 c =
    let held = c.loop-self.self-inside.held in
    let count = c.loop-self.self-inside.count in
    (omega arith, cut_low held count c.args.width (count - c.args.width) c.loop-self.invariant.low (omega arith) (omega arith))

pub returns-clause-taken : goal.returns-clause-taken
returns-clause-taken c =
    let held = c.loop-self.self-inside.held in
    let count = c.loop-self.self-inside.count in
    let m = count - c.args.width in
    let bytes : List ℕ = c.loop-self.self-inside.bytes.now in
    sym c.self.view_is ∙ (sym c.loop-self.invariant.same
    ∙ (ap (λ (x : List ℕ). x ++ unpack bytes) (cut held count c.args.width m c.loop-self.invariant.low (omega arith) (omega arith))
    ∙ append_assoc (bits c.args.width _) (bits m _) (unpack bytes)))

pub returns-clause-small : goal.returns-clause-small
returns-clause-small c =
    let held = c.loop-self.self-inside.held in
    let count = c.loop-self.self-inside.count in
    cut_small held count c.args.width (count - c.args.width) c.loop-self.invariant.low (omega arith) (omega arith)
