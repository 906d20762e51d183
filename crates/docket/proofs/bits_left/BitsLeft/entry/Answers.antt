use Rattle.std.proofs.Common.{sym, refl, ◌∙◌}
use Rattle.std.proofs.lemmas.Bool.{eq-eqb, ne_eqb, cond-true, cond-false}
use Rattle.std.proofs.lemmas.Result.{err_from_is_err_and}
use Rattle.answer.specs.Told.{says, nothing}
use Rattle.formula.specs.Of.{clauses_of}
use Rattle.formula.proofs.Keeping.{kept_clauses, sixteen_clauses}
use Rattle.docket.specs.Reading.{made, new_at, pad_at}
use Rattle.docket.proofs.Taking.{at_answer, at_formula, judged}
use Rattle.docket.proofs.bits_left.BitsLeft.entry.Goals as goal

pub returns-in_err-answer-clause-answer : goal.returns-in_err-answer-clause-answer
returns-in_err-answer-clause-answer c =
    let p = err_from_is_err_and c.from_residual-in_err-answer.result c.from_residual-in_err-answer.ensures.1 in
    let k = c.in_ok-kind.ensures in
    let t = c.in_ok-task.ensures in
    let r = c.in_ok-record.ensures in
    rw (p.1, p.2)
    (sym (at_answer k.taken k.small t.taken t.small r.taken r.small ∙ c.in_err-answer.ensures (new_at c.in_ok-kind.kind c.in_ok-task.task c.in_ok-record.record)))

pub returns-in_err-new-clause-answer : goal.returns-in_err-new-clause-answer
returns-in_err-new-clause-answer c =
    let p = err_from_is_err_and c.from_residual-in_err-new.result c.from_residual-in_err-new.ensures.1 in
    let k = c.in_ok-kind.ensures in
    let t = c.in_ok-task.ensures in
    let r = c.in_ok-record.ensures in
    let a = c.in_ok-answer.ensures in
    rw (p.1, p.2)
    (sym (at_formula k.taken k.small t.taken t.small r.taken r.small (says nothing c.in_ok-answer.answer) _ a.0 a.1 a.2
    ∙ c.in_err-new.ensures (λ cs V. pad_at (made c.in_ok-kind.kind c.in_ok-task.task c.in_ok-record.record (says nothing c.in_ok-answer.answer) cs) V)))

pub returns-then-rest_of_byte-ne0-clause-answer : goal.returns-then-rest_of_byte-ne0-clause-answer
returns-then-rest_of_byte-ne0-clause-answer c =
    let k = c.in_ok-kind.ensures in
    let t = c.in_ok-task.ensures in
    let r = c.in_ok-record.ensures in
    let a = c.in_ok-answer.ensures in
    let f = c.in_ok-new.new in
    let p = c.rest_of_byte.ensures in
    let j =
    judged k.taken k.small t.taken t.small r.taken r.small (says nothing c.in_ok-answer.answer) _ a.0 a.1 a.2
    (clauses_of f) _ c.in_ok-new.ensures (kept_clauses f) (sixteen_clauses f) _ p.taken p.small refl c.requires in
    sym (j.0 ∙ cond-false _ _ _ (ne_eqb c.rest_of_byte.result 0 c.if-rest_of_byte-ne0.true))

pub returns : goal.returns
returns c =
    let k = c.in_ok-kind.ensures in
    let t = c.in_ok-task.ensures in
    let r = c.in_ok-record.ensures in
    let a = c.in_ok-answer.ensures in
    let f = c.in_ok-new.new in
    let p = c.rest_of_byte.ensures in
    let j =
    judged k.taken k.small t.taken t.small r.taken r.small (says nothing c.in_ok-answer.answer) _ a.0 a.1 a.2
    (clauses_of f) _ c.in_ok-new.ensures (kept_clauses f) (sixteen_clauses f) _ p.taken p.small refl c.requires in
    record {
      answer = rw (c.kind_of.ensures, c.from.ensures, c.from-2.ensures) (sym (j.0 ∙ cond-true _ _ _ (eq-eqb c.rest_of_byte.result 0 c.if-rest_of_byte-ne0.false)));
      size = j.1;
    }
