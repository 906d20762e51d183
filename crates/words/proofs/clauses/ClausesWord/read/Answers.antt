use Rattle.std.proofs.Common.{◌≡◌, ℕ, Err, List, eqb, length-append, sym, subst, ap, ◌∙◌, rules, of_calls, arith}
use Rattle.std.specs.Option.{IsSome}
use Rattle.std.proofs.lemmas.Iterator.{YieldsList}
use Rattle.std.proofs.lemmas.Iterator.Consumers.{YieldsList-at}
use Rattle.std.proofs.lemmas.Iterator.Splits.{YieldsList-from_slice_split}
use Rattle.formula.specs.Forms.{reduces}
use Rattle.answer.specs.declared.Refusal.TheVariants.{LongList}
use Rattle.words.specs.Parted.{parted}
use Rattle.words.specs.Clauses.{hex_all}
use Rattle.words.proofs.Parts.{parted_is}
use Rattle.words.proofs.Reading.{Reads, reads_none, reads_long, all_read, part_some, part_more, on_ok, on_err}
use Rattle.words.proofs.clauses.ClausesWord.read.Goals as goal

pub loop-part-init : goal.loop-part-init
loop-part-init c =
    let w = c.args.self.part.now in
    let e = c.split-part-items.ensures in
    let is = c.into_iter-part-iterator.ensures.into_iter_gives in (
      search of_calls,
      tt,
      (
        parted 46 w,
        YieldsList-at is
            (subst (YieldsList _ (λ p. p.now) c.split-part-items.result) (parted_is 46 w)
            (YieldsList-from_slice_split _ (λ (b : ℕ). eqb b 46) w e.rest e.done e.closure (λ x b q k. search rules))),
        subst (λ (cs : List ℕ). Reads cs (parted 46 w) (hex_all (parted 46 w))) (sym c.new-list.ensures) (reads_none (parted 46 w) c.args.self.lawful),
      ),
    )

pub unwrap-clause-requires : goal.unwrap-clause-requires
unwrap-clause-requires c =
    let v = c.loop-part.invariant.2 in
    subst IsSome (sym c.hex_four.ensures) (part_some {t = c.next.new.self} v.1 v.2 {x = c.in-Some.part} c.in-Some.ensures.steps)

pub returns : goal.returns
returns c =
    let v = c.loop-part.invariant.2 in
    c.reduce.ensures.answer ∙ (ap (λ (cs : List ℕ). reduces cs) c.as_slice.ensures.value ∙ all_read {t = c.next.new.self} v.1 v.2 c.in-None.ensures.steps)

pub loop-part-preserved : goal.loop-part-preserved
loop-part-preserved c =
    let v = c.loop-part.invariant.2 in
    let is = sym c.hex_four.ensures ∙ c.unwrap-clause.ensures in
    let p = part_more {t = c.next.new.self} v.1 v.2 {x = c.in-Some.part} c.unwrap-clause.result is c.in-Some.ensures.steps in
    let pushed = on_ok c.try_push.result c.in_ok-map_err.ensures.variant c.try_push.ensures.ok in
    (search of_calls, tt, (p.0, p.1, subst (λ (cs : List ℕ). Reads cs p.0 (hex_all (parted 46 c.args.self.part.now))) (sym pushed) p.2))

pub returns-in_err-map_err : goal.returns-in_err-map_err
returns-in_err-map_err c =
    let v = c.loop-part.invariant.2 in
    let is = sym c.hex_four.ensures ∙ c.unwrap-clause.ensures in
    let p = part_more {t = c.next.new.self} v.1 v.2 {x = c.in-Some.part} c.unwrap-clause.result is c.in-Some.ensures.steps in
    let full = on_err c.try_push.result c.in_err-map_err.ensures.variant c.try_push.ensures.full in
    let e : c.from_residual.result ≡ Err LongList = search rules in
    rw e (reads_long (omega (arith, length-append {A = ℕ}, full)) p.2)
