use Rattle.std.proofs.Common.{ℕ, ◌-◌, ◌*◌, ◌/◌, ◌%◌, ◌^◌, ◌<◌, List, ◌++◌, length, sym, refl, ap, ◌∙◌, subst, arith}
use Rattle.std.proofs.ByRecursion.{All-push}
use Rattle.std.proofs.lemmas.List.{append_assoc}
use Rattle.docket.specs.Bits.{bits, unpack}
use Rattle.docket.specs.Laws.{Bytes}
use Rattle.docket.proofs.Held.{length_put, unpack_push, joined, joined_low, cut, cut_low, cut_small}
use Rattle.docket.proofs.bits_packed.BitsPacked.put.Goals as goal

pub loop-self-init : goal.loop-self-init
loop-self-init c =
    let p = c.self.inside in
    let pre = c.requires in
    record {
      bytes = c.self.invariant.0;
      few = omega arith;
      low = joined_low p.held p.count c.from.result c.args.width c.self.invariant.2 (omega arith) (omega arith);
      room = omega (arith, ap length c.self.view_is, length_put p.bytes.items p.count p.held);
      same = refl;
    }

pub overflow_cast-self-inside-in-loop-self : goal.overflow_cast-self-inside-in-loop-self
overflow_cast-self-inside-in-loop-self c =
    let p = c.loop-self.self-inside in
    let small : p.held / 2 ^ (p.count - 8) < 256 = cut_small p.held p.count 8 (p.count - 8) c.loop-self.invariant.low (omega arith) (omega arith) in
    omega arith

pub loop-self-preserved : goal.loop-self-preserved
loop-self-preserved c =
    let p = c.loop-self.self-inside in
    let m = p.count - 8 in
    let byte = p.held / 2 ^ m in
    let inv = c.loop-self.invariant in
    let small : byte < 256 = cut_small p.held p.count 8 m inv.low (omega arith) (omega arith) in
    let row : List ℕ = bits m (p.held % ((1 * 2 ^ m) % 4294967296)) in
    record {
      bytes = subst Bytes (sym c.push.ensures.items) (All-push (λ (b : ℕ). b < 256) p.bytes.items byte inv.bytes small);
      few = omega arith;
      low = cut_low p.held p.count 8 m inv.low (omega arith) (omega arith);
      room = omega (arith, inv.room);
      same =
          ap (λ (x : List ℕ). unpack x ++ row) c.push.ensures.items
          ∙ (unpack_push p.bytes.items row byte
          ∙ (ap (λ (x : List ℕ). unpack p.bytes.items ++ x) (sym (cut p.held p.count 8 m inv.low (omega arith) (omega arith))) ∙ inv.same));
    }

pub returns : goal.returns
returns c =
    let p = c.self.inside in
    let pre = c.requires in
    let start : List ℕ = unpack p.bytes.items in
    c.loop-self.invariant.same
    ∙ (ap (λ (x : List ℕ). start ++ x) (joined p.held p.count c.from.result c.args.width c.self.invariant.2 (omega arith) (omega arith))
    ∙ (sym (append_assoc start (bits p.count p.held) (bits c.args.width c.from.result))
    ∙ (ap (λ (x : List ℕ). x ++ bits c.args.width c.from.result) c.self.view_is
    ∙ ap (λ (v : ℕ). c.args.self.now ++ bits c.args.width v) c.from.ensures)))
