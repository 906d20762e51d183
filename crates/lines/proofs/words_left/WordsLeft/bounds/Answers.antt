use Rattle.std.proofs.Common.{ℕ, List, Option, ◌∙◌}
use Rattle.key.specs.declared.mode.Mode.{Mode}
use Rattle.words.specs.Formulas.{written}
use Rattle.lines.specs.Forms.{Form, KeyForm, boundeds, Words}
use Rattle.lines.specs.Left.{label_form}
use Rattle.lines.proofs.words_left.WordsLeft.bounds.Goals as goal

-- what comes behind the high label, and behind the mode
abbrev low : KeyForm → (KeyForm → Words → Option Form) → Mode → List ℕ → List ℕ → Words → Option Form
low k next m a b ws = label_form ws (λ c d. next (boundeds m a b c d k))

abbrev high : KeyForm → (KeyForm → Words → Option Form) → Mode → Words → Option Form
high k next m ws = label_form ws (low k next m)

pub returns-in_err-high : goal.returns-in_err-high
returns-in_err-high c =
    rw c.from_residual-in_err-high.ensures (λ k next. c.in_ok-mode.ensures (high k next) ∙ c.in_err-high.ensures (low k next c.in_ok-mode.mode))

pub returns-in_err-low : goal.returns-in_err-low
returns-in_err-low c =
    let m = c.in_ok-mode.mode in
    let l = c.in_ok-high.high in
    rw c.from_residual-in_err-low.ensures
    (λ k next. c.in_ok-mode.ensures (high k next)
    ∙ (c.in_ok-high.ensures (low k next m) ∙ c.in_err-low.ensures (λ x y. next (boundeds m (written l.sight) (written l.hand) x y k))))

pub returns : goal.returns
returns c =
    let m = c.in_ok-mode.mode in
    let l = c.in_ok-high.high in
    λ k next. c.in_ok-mode.ensures (high k next)
    ∙ (c.in_ok-high.ensures (low k next m) ∙ c.in_ok-low.ensures (λ x y. next (boundeds m (written l.sight) (written l.hand) x y k)))
