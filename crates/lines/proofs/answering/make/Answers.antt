use Rattle.std.proofs.Common.{ℕ, List, sym, ap, ◌∙◌}
use Rattle.std.proofs.lemmas.Result.{err_from_is_err_and}
use Rattle.rules.specs.State.{State}
use Rattle.rules.specs.Step.{Ruled, entering}
use Rattle.monitor.specs.View.{view}
use Rattle.lines.specs.Left.{say}
use Rattle.lines.specs.Obey.{obeying}
use Rattle.lines.proofs.answering.make.Goals as goal

-- entering with a label of these formulas
abbrev entered : State → ℕ → ℕ → ℕ → List ℕ → List ℕ → Ruled
entered t r p f a b = entering t r p f (record { sight = a; hand = b })

pub returns-in_err-try_into-in-Enter : goal.returns-in_err-try_into-in-Enter
returns-in_err-try_into-in-Enter c =
    let p = err_from_is_err_and c.from_residual.result c.from_residual.ensures.1 in
    let a = c.in-Enter in
    let t = view c.args.monitor.now.tables in
    let e = ap (λ x. obeying t (say x)) a.is ∙ c.in_err-try_into-in-Enter.ensures t (entered t a.record a.party a.figure) in
    record {
      answer = rw (p.1, p.2) (sym (ap (λ (r : Ruled). r.answer) e));
      after = sym (ap (λ (r : Ruled). r.state) e);
    }

pub returns-in_err-enter-in-Enter : goal.returns-in_err-enter-in-Enter
returns-in_err-enter-in-Enter c =
    let p = err_from_is_err_and c.from_residual-in_err-enter-in-Enter.result c.from_residual-in_err-enter-in-Enter.ensures.1 in
    let a = c.in-Enter in
    let t = view c.args.monitor.now.tables in
    let e = ap (λ x. obeying t (say x)) a.is ∙ c.in_ok-try_into-in-Enter.ensures t (entered t a.record a.party a.figure) in
    record {
      answer = rw (p.1, p.2) (c.in_err-enter-in-Enter.ensures.answer ∙ sym (ap (λ (r : Ruled). r.answer) e));
      after = c.in_err-enter-in-Enter.ensures.after ∙ sym (ap (λ (r : Ruled). r.state) e);
    }

pub returns-in_ok-enter-in-Enter : goal.returns-in_ok-enter-in-Enter
returns-in_ok-enter-in-Enter c =
    let a = c.in-Enter in
    let t = view c.args.monitor.now.tables in
    let e = ap (λ x. obeying t (say x)) a.is ∙ c.in_ok-try_into-in-Enter.ensures t (entered t a.record a.party a.figure) in
    record {
      answer = c.in_ok-enter-in-Enter.ensures.answer ∙ sym (ap (λ (r : Ruled). r.answer) e);
      after = c.in_ok-enter-in-Enter.ensures.after ∙ sym (ap (λ (r : Ruled). r.state) e);
    }
