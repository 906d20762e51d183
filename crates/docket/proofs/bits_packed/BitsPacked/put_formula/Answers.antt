use Rattle.std.proofs.Common.{ℕ, List, ◌++◌, length, get_or, take, sym, ap, ◌∙◌, arith, length-append}
use Rattle.std.proofs.lemmas.List.{append_assoc, take_more, length-take-le}
use Rattle.docket.specs.Bits.{bits}
use Rattle.docket.specs.Entries.{words}
use Rattle.docket.proofs.Packing.{length_words, words_push}
use Rattle.docket.proofs.bits_packed.BitsPacked.put_formula.Goals as goal

pub put-requires-in-loop-clause : goal.put-requires-in-loop-clause
put-requires-in-loop-clause c =
    let cs = c.as_slice-clauses.result.now in
    let i = c.loop-clause.clause-index in
    let l = ap length c.loop-clause.invariant ∙ length-append c.put.new.self (words (take i cs)) in
    let head = ap length c.put.ensures ∙ length-append c.args.self.now (bits 4 (length cs)) in
    (c.type_inv.clause.fits, omega arith, omega (arith, l, head, length_words (take i cs), length-take-le i cs (omega arith), c.as_slice-clauses.ensures.small))

pub loop-clause-preserved : goal.loop-clause-preserved
loop-clause-preserved c =
    let cs = c.as_slice-clauses.result.now in
    let i = c.loop-clause.clause-index in
    let v = get_or cs i 0 in
    c.put-in-loop-clause.ensures
    ∙ (ap (λ (x : List ℕ). x ++ bits 16 v) c.loop-clause.invariant
    ∙ (append_assoc c.put.new.self (words (take i cs)) (bits 16 v)
    ∙ ap (λ (x : List ℕ). c.put.new.self ++ x) (sym (words_push (take i cs) v) ∙ ap words (sym (take_more cs i 0 (omega arith))))))
