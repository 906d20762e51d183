use Rattle.std.proofs.Common.{◌≤◌, length, take, sym, ◌∙◌, subst, arith, length-set, length-take}
use Rattle.std.proofs.lemmas.List.{take_more_set}
use Rattle.formula.proofs.Choosing.{ChosenOf, chosen_next, fits_sixteen, array_rising, array_apart, array_sixteen, still_unused}
use Rattle.formula.proofs.Forming.{formed_all, formed_large, means_crowded}
use Rattle.formula.proofs.kept.Formula.shrink.Goals as goal

pub returns-then-count-eq8 : goal.returns-then-count-eq8
returns-then-count-eq8 c =
    let list = c.args.list.now in
    let l = c.loop-clause in
    let none = means_crowded list (take l.count l.clauses) c.in-Some.clause (fits_sixteen _ c.type_inv.list) l.invariant.3 c.in-Some.ensures
    (omega (arith, length-take l.count l.clauses, l.invariant.0, c.if-count-eq8.true)) in
    record { answer = formed_large list none; means = λ _. none }

pub loop-clause-preserved : goal.loop-clause-preserved
loop-clause-preserved c =
    let list = c.args.list.now in
    let l = c.loop-clause in (
      length-set _ _ _ ∙ l.invariant.0,
      omega arith,
      still_unused _ _ _ l.invariant.2,
      subst (ChosenOf list) (sym (take_more_set l.clauses l.count c.in-Some.clause (omega (arith, l.invariant.0))))
          (chosen_next list (take l.count l.clauses) c.in-Some.clause (fits_sixteen _ c.type_inv.list) l.invariant.3 c.in-Some.ensures),
    )

pub returns : goal.returns
returns c =
    let l = c.loop-clause in
    let all = formed_all c.args.list.now (take l.count l.clauses) (fits_sixteen _ c.type_inv.list) l.invariant.3 (omega (arith, length-take l.count l.clauses)) c.in_default-least_beside.ensures in
    record { answer = all.0; means = all.1 }

pub invariant_of-result : goal.invariant_of-result
invariant_of-result c =
    let list = c.args.list.now in
    let l = c.loop-clause in
    let fits = fits_sixteen _ c.type_inv.list in
    let inside : l.count ≤ length l.clauses = omega (arith, l.invariant.0) in
    record {
      eight = l.invariant.0;
      small = l.invariant.1;
      unused = l.invariant.2;
      rising = array_rising list l.clauses l.count inside l.invariant.2 fits l.invariant.3;
      apart = array_apart list l.clauses l.count inside l.invariant.2 fits l.invariant.3;
      fits = array_sixteen list l.clauses l.count inside l.invariant.2 fits l.invariant.3;
    }
