use Rattle.std.proofs.Common.{◌≡◌, ℕ, List, Err, sym, ap, ◌∙◌}
use Rattle.std.proofs.lemmas.Result.{err_from_is_err_and}
use Rattle.answer.specs.declared.Refusal.{Refusal}
use Rattle.answer.specs.Told.{Told, granted}
use Rattle.formula.specs.Forms.{reduces}
use Rattle.formula.specs.Of.{clauses_of}
use Rattle.key.specs.Requests.{Limits}
use Rattle.key.specs.Meanings.{Meaning, plain, robust, bounded}
use Rattle.rules.specs.State.{State}
use Rattle.rules.specs.Step.{Ruled}
use Rattle.words.specs.Formulas.{written}
use Rattle.lines.specs.declared.call.BoundsWords.{BoundsWords}
use Rattle.lines.specs.Forms.{KeyForm, plains, robusts}
use Rattle.lines.specs.Left.{bounds_say}
use Rattle.lines.specs.Obey.{with_formula, with_key}
use Rattle.lines.specs.Keys.{bounding, BoundsRead, KeyRead}
use Rattle.lines.proofs.reading.LineKeyTryFromKeyWords.try_from.Goals as goal

-- the key of that form means so
abbrev Says : KeyForm → Meaning → Type 0
Says k m = (t : State) (next : Meaning → Ruled) → with_key t k next ≡ next m

read_plain : (w f : List ℕ) → granted f ≡ reduces w → Says (plains w) (plain f)
read_plain w f e t next = ap (λ (r : Told). with_formula t r (λ x. next (plain x))) (sym e)

-- a bounded wrap over such a key, where its bounds were read, and where they were refused
wrapped : (k : KeyForm) (m : Meaning) (w : BoundsWords) (b : Limits) → Says k m → ((t : State) (next : Limits → Ruled) → bounding t w next ≡ next b) → Says (bounds_say w k) (bounded w.mode b m)
wrapped k m w b h r t next = h t (λ below. bounding t w (λ l. next (bounded w.mode l below))) ∙ r t (λ l. next (bounded w.mode l m))

unwrapped : (k : KeyForm) (m : Meaning) (w : BoundsWords) (q : Refusal) → Says k m → BoundsRead w (Err q) → KeyRead (bounds_say w k) (Err q)
unwrapped k m w q h r t next = h t (λ below. bounding t w (λ l. next (bounded w.mode l below))) ∙ r t (λ l. next (bounded w.mode l m))

pub returns-in_err-read_bounded-in-None-Some : goal.returns-in_err-read_bounded-in-None-Some
returns-in_err-read_bounded-in-None-Some c =
    let p = err_from_is_err_and c.from_residual-in_err-read_bounded-in-None-Some.result c.from_residual-in_err-read_bounded-in-None-Some.ensures.1 in
    let a = c.in-None-Some in
    let f = clauses_of c.in_ok-below.below.formula in
    rw (p.1, p.2, a.is-0, a.is-1)
    (unwrapped (plains (written c.args.words.plain)) (plain f) a.words _ (read_plain (written c.args.words.plain) f c.in_ok-below.ensures) c.in_err-read_bounded-in-None-Some.ensures)

pub returns-in_err-read_bounded-in-Some-Some : goal.returns-in_err-read_bounded-in-Some-Some
returns-in_err-read_bounded-in-Some-Some c =
    let p = err_from_is_err_and c.from_residual-in_err-read_bounded-in-Some-Some.result c.from_residual-in_err-read_bounded-in-Some-Some.ensures.1 in
    let a = c.in-Some-Some in
    let f = clauses_of c.in_ok-below.below.formula in
    rw (p.1, p.2, a.is-0, a.is-1)
    (unwrapped (robusts a.mode (plains (written c.args.words.plain))) (robust a.mode (plain f)) a.words _ (λ t next. read_plain (written c.args.words.plain) f c.in_ok-below.ensures t (λ m. next (robust a.mode m))) c.in_err-read_bounded-in-Some-Some.ensures)

pub returns-in_ok-read_bounded-in-None-Some : goal.returns-in_ok-read_bounded-in-None-Some
returns-in_ok-read_bounded-in-None-Some c =
    let a = c.in-None-Some in
    let e = c.in_ok-read_bounded-in-None-Some.ensures in
    let f = clauses_of c.in_ok-below.below.formula in
    rw (a.is-0, a.is-1, e.0, e.1) (wrapped (plains (written c.args.words.plain)) (plain f) a.words _ (read_plain (written c.args.words.plain) f c.in_ok-below.ensures) e.2)

pub returns-in_ok-read_bounded-in-Some-Some : goal.returns-in_ok-read_bounded-in-Some-Some
returns-in_ok-read_bounded-in-Some-Some c =
    let a = c.in-Some-Some in
    let e = c.in_ok-read_bounded-in-Some-Some.ensures in
    let f = clauses_of c.in_ok-below.below.formula in
    rw (a.is-0, a.is-1, e.0, e.1)
    (wrapped (robusts a.mode (plains (written c.args.words.plain))) (robust a.mode (plain f)) a.words _ (λ t next. read_plain (written c.args.words.plain) f c.in_ok-below.ensures t (λ m. next (robust a.mode m))) e.2)
