use Rattle.std.proofs.Common.{◌≡◌, ℕ, List, Some, Option, sym, ◌∙◌}
use Rattle.words.specs.Decimal.{decimal}
use Rattle.lines.specs.Forms.{Form, enters, Words, one, ends, enter_form}
use Rattle.lines.specs.Left.{Taken, label_form}
use Rattle.lines.proofs.forms.enter.Goals as goal

-- what comes behind the figure
abbrev last : ℕ → ℕ → ℕ → List ℕ → List ℕ → Words → Option Form
last r p f s h = ends (enters r p f s h)

numbers : (ws v u t : Words) {r p f : ℕ} → Taken decimal ws (Some r) v → Taken decimal v (Some p) u → Taken decimal u (Some f) t → enter_form ws ≡ label_form t (last r p f)
numbers ws v u t {r} {p} a b c =
    let third : ℕ → ℕ → Words → Option Form = λ m n us. one decimal us (λ f ts. label_form ts (last m n f)) in
    a (λ m vs. one decimal vs (λ n us. third m n us)) ∙ (b (λ n us. third r n us) ∙ c (λ f ts. label_form ts (last r p f)))

pub returns-in_err-label : goal.returns-in_err-label
returns-in_err-label c =
    let n = numbers c.args.words.now c.number.new.self c.number-2.new.self c.number-3.new.self c.in_ok-record.ensures c.in_ok-party.ensures c.in_ok-figure.ensures in
    rw c.from_residual-in_err-label.ensures (sym (n ∙ c.in_err-label.ensures (last c.in_ok-record.record c.in_ok-party.party c.in_ok-figure.figure)))

pub returns-in_err-end : goal.returns-in_err-end
returns-in_err-end c =
    let n = numbers c.args.words.now c.number.new.self c.number-2.new.self c.number-3.new.self c.in_ok-record.ensures c.in_ok-party.ensures c.in_ok-figure.ensures in
    rw c.from_residual-in_err-end.ensures (sym (n ∙ (c.in_ok-label.ensures (last c.in_ok-record.record c.in_ok-party.party c.in_ok-figure.figure) ∙ c.in_err-end.ensures _)))

pub returns : goal.returns
returns c =
    let n = numbers c.args.words.now c.number.new.self c.number-2.new.self c.number-3.new.self c.in_ok-record.ensures c.in_ok-party.ensures c.in_ok-figure.ensures in
    sym (n ∙ (c.in_ok-label.ensures (last c.in_ok-record.record c.in_ok-party.party c.in_ok-figure.figure) ∙ c.in_ok-end.ensures _))
