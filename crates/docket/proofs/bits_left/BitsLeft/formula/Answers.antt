use Rattle.std.proofs.Common.{ℕ, ◌<◌, List, ◌++◌, sym, ap, ◌∙◌, subst, arith}
use Rattle.std.proofs.ByRecursion.{All-push}
use Rattle.std.proofs.lemmas.List.{append_assoc}
use Rattle.std.proofs.lemmas.Result.{err_from_is_err_and}
use Rattle.formula.specs.Keeping.{keeping}
use Rattle.docket.specs.Laws.{Sets}
use Rattle.docket.specs.Bits.{bits}
use Rattle.docket.specs.Entries.{words}
use Rattle.docket.proofs.Packing.{words_push}
use Rattle.docket.proofs.Taking.{formula_short, formula_judged}
use Rattle.docket.proofs.bits_left.BitsLeft.formula.Goals as goal

pub returns-in_err-take : goal.returns-in_err-take
returns-in_err-take c =
    let p = err_from_is_err_and c.from_residual-in_err-take.result c.from_residual-in_err-take.ensures.1 in
    let e = c.in_err-take.ensures.taken in
    rw (p.1, p.2, e.0) (λ next. formula_short c.in_ok-count.count _ _ _ c.loop.clauses.items c.in_ok-count.ensures.taken c.loop.invariant.taken (omega arith) c.loop.invariant.small (omega (arith, c.loop.invariant.many)) e.1 next)

pub loop-preserved : goal.loop-preserved
loop-preserved c =
    let v = c.in_ok-take.field-0 in
    let cs = c.loop.clauses.items in
    record {
      many = omega arith;
      small = subst Sets (sym c.push.ensures.items) (All-push (λ (v : ℕ). v < 65536) cs v c.loop.invariant.small c.in_ok-take.ensures.small);
      taken =
          c.loop.invariant.taken
          ∙ (ap (λ (x : List ℕ). words cs ++ x) c.in_ok-take.ensures.taken
          ∙ (sym (append_assoc (words cs) (bits 16 v) c.take-in-loop.new.self)
          ∙ ap (λ (x : List ℕ). x ++ c.take-in-loop.new.self) (sym (words_push cs v) ∙ ap words (sym c.push.ensures.items))));
    }

pub returns : goal.returns
returns c =
    let inv = c.loop.invariant in
    rw c.ok_or.ensures.value
    (formula_judged c.in_ok-count.count _ _ _ c.loop.clauses.items c.in_ok-count.ensures.taken inv.taken (omega arith) inv.small (omega (arith, inv.many))
    c.keep.result (c.keep.ensures.answer ∙ ap keeping c.as_slice.ensures.value))
