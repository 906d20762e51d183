use Rattle.std.proofs.Common.{◌≡◌, ℕ, ◌+◌, ◌*◌, ◌<◌, List, [], ◌∷◌, length, get_or, drop, Some, None, Option, sym, refl, ap, ◌∙◌, arith, pow-add}
use Rattle.std.proofs.lemmas.List.{at_drop_more, at_drop_all}
use Rattle.words.specs.Decimal.{decimal_after, digit_of, tens}
use Rattle.words.proofs.decimal.number.Goals as goal

after_none : (bs : List ℕ) → decimal_after None bs ≡ None
after_none [] = refl
after_none (b ∷ bs) = after_none bs

step : (w : List ℕ) (i n : ℕ) (d : Option ℕ) → i < length w → d ≡ digit_of (get_or w i 0)
    → decimal_after (tens (Some n) d) (drop (i + 1) w) ≡ decimal_after (Some n) (drop i w)
step w i n d h e =
    ap (λ (x : Option ℕ). decimal_after (tens (Some n) x) (drop (i + 1) w)) e ∙ sym (at_drop_more (decimal_after (Some n)) w i 0 h)

pub returns-in_err-digit : goal.returns-in_err-digit
returns-in_err-digit c =
    let w = c.args.word.now in
    let i = c.loop-byte.byte-index in
    c.from_residual.ensures ∙ (sym (after_none (drop (i + 1) w)) ∙ (step w i c.loop-byte.n None (omega arith) c.in_err-digit.ensures.value ∙ c.loop-byte.invariant.0))

pub loop-byte-preserved : goal.loop-byte-preserved
loop-byte-preserved c =
    let w = c.args.word.now in
    let l = c.loop-byte in
    let e = c.in_ok-digit.ensures in (
      ap (λ (k : ℕ). decimal_after (Some (10 * l.n + k)) (drop (l.byte-index + 1) w)) c.from.ensures
          ∙ (step w l.byte-index l.n (Some c.in_ok-digit.field-0) (omega arith) e.value ∙ l.invariant.0),
      omega (arith, pow-add 10 l.byte-index 1, e.small, l.invariant.1),
    )

pub returns : goal.returns
returns c = sym (at_drop_all (decimal_after (Some c.loop-byte.n)) c.args.word.now c.loop-byte.byte-index (omega arith)) ∙ c.loop-byte.invariant.0
