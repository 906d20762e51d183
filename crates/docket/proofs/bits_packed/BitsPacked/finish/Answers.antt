use Rattle.std.proofs.Common.{◌≡◌, ℕ, ◌+◌, ◌-◌, ◌*◌, ◌%◌, ◌++◌, length, sym, ap, ◌∙◌, arith, length-append}
use Rattle.std.proofs.lemmas.List.{append-nil}
use Rattle.std.proofs.lemmas.Nat.{pow_pos}
use Rattle.docket.specs.Bits.{bits, unpack}
use Rattle.docket.proofs.Held.{length_put}
use Rattle.docket.proofs.Rows.{length_bits}
use Rattle.docket.proofs.bits_packed.BitsPacked.finish.Goals as goal

pub put-requires : goal.put-requires
put-requires c =
    let p = c.self.inside in
    let few = c.self.invariant.1 in
    let l = ap length c.self.view_is in
    (pow_pos ((8 - p.count) % 8), omega arith, omega (arith, l, length_put p.bytes.items p.count p.held, c.requires))

pub returns-clause-bits : goal.returns-clause-bits
returns-clause-bits c =
    let p = c.self.inside in
    let q = c.self-2.inside in
    let w = (8 - p.count) % 8 in
    let few = c.self.invariant.1 in
    let few2 = c.self-2.invariant.1 in
    let l : length c.args.self ≡ 8 * length p.bytes.items + p.count = ap length (sym c.self.view_is) ∙ length_put p.bytes.items p.count p.held in
    let m : 8 * length q.bytes.items + q.count ≡ length c.args.self + w =
    sym (length_put q.bytes.items q.count q.held) ∙ (ap length (c.self-2.view_is ∙ c.put.ensures) ∙ (length-append c.args.self (bits w 0) ∙ ap (λ (k : ℕ). length c.args.self + k) (length_bits w 0))) in
    let none : q.count ≡ 0 = omega arith in
    sym (append-nil (unpack q.bytes.items))
    ∙ (ap (λ (k : ℕ). unpack q.bytes.items ++ bits k q.held) (sym none)
    ∙ (c.self-2.view_is ∙ (c.put.ensures ∙ ap (λ (k : ℕ). c.args.self ++ bits k 0) (omega arith))))
