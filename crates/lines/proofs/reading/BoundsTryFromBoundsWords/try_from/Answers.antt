use Rattle.std.proofs.Common.{ℕ, List, ◌∙◌}
use Rattle.std.proofs.lemmas.Result.{err_from_is_err_and}
use Rattle.formula.specs.Of.{clauses_of}
use Rattle.rules.specs.State.{State}
use Rattle.rules.specs.Step.{Ruled}
use Rattle.key.specs.Requests.{Limits}
use Rattle.words.specs.Formulas.{written}
use Rattle.lines.specs.declared.call.BoundsWords.{BoundsWords}
use Rattle.lines.specs.Obey.{reducing}
use Rattle.lines.proofs.reading.BoundsTryFromBoundsWords.try_from.Goals as goal

-- what comes behind the high label, and behind both
abbrev limit : List ℕ → List ℕ → List ℕ → List ℕ → Limits
limit a b c d = record { high = record { sight = a; hand = b }; low = record { sight = c; hand = d } }

abbrev low : State → BoundsWords → (Limits → Ruled) → List ℕ → List ℕ → Ruled
low t w next a b = reducing t (written w.low.sight) (λ c. reducing t (written w.low.hand) (λ d. next (limit a b c d)))

pub returns-in_err-high : goal.returns-in_err-high
returns-in_err-high c =
    let p = err_from_is_err_and c.from_residual.result c.from_residual.ensures.1 in
    rw (p.1, p.2) (λ t next. c.in_err-high.ensures t (low t c.args.words next))

pub returns-in_err-low : goal.returns-in_err-low
returns-in_err-low c =
    let p = err_from_is_err_and c.from_residual-in_err-low.result c.from_residual-in_err-low.ensures.1 in
    let h = c.in_ok-high.high in
    rw (p.1, p.2)
    (λ t next. c.in_ok-high.ensures t (low t c.args.words next) ∙ c.in_err-low.ensures t (λ x y. next (limit (clauses_of h.sight.0) (clauses_of h.hand.0) x y)))

pub returns : goal.returns
returns c =
    let h = c.in_ok-high.high in
    λ t next. c.in_ok-high.ensures t (low t c.args.words next) ∙ c.in_ok-low.ensures t (λ x y. next (limit (clauses_of h.sight.0) (clauses_of h.hand.0) x y))
