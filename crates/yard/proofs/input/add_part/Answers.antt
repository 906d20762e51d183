use Rattle.std.proofs.Common.{◌≡◌, ℕ, ◌+◌, ◌-◌, ◌≤◌, min, cond, List, ◌++◌, length, take, is_ok, vec_items, sym, ap, ◌∙◌, inl, inr, arith}
use Rattle.std.proofs.Math.Seq.{take-append-add}
use Rattle.std.proofs.lemmas.List.{take_all}
use Rattle.std.proofs.lemmas.Bool.{cases_lt}
use Rattle.yard.proofs.input.add_part.Goals as goal

-- as much of a list as there is room for
fitting : (ys : List ℕ) (room : ℕ) → take (min (length ys) room) ys ≡ take room ys
fitting ys room =
    elim (cases_lt room (length ys)) [
      | inl h ↦ let same : min (length ys) room ≡ room = omega arith in ap (λ k. take k ys) same
      | inr h ↦ take_all (min (length ys) room) ys (omega arith) ∙ sym (take_all room ys h)
    ]

fitted : (xs ys : List ℕ) (n : ℕ) → length xs ≤ 4097 → n ≡ min (length ys) (4097 - length xs) → xs ++ take n ys ≡ take 4097 (xs ++ ys)
fitted xs ys n small is =
    let whole : length xs + (4097 - length xs) ≡ 4097 = omega arith in
    ap (λ k. xs ++ take k ys) is ∙ ap (λ r. xs ++ r) (fitting ys (4097 - length xs)) ∙ sym (take-append-add xs ys (4097 - length xs))
    ∙ ap (λ k. take k (xs ++ ys)) whole

pub returns-clause-added : goal.returns-clause-added
returns-clause-added c =
    let xs = vec_items c.args.line.now in
    let length_is = c.args.line.now.ok.0 in
    let added = fitted xs c.args.part.now c.min-n.result (omega (arith, length_is)) (omega (arith, length_is)) in
    c.extend_from_slice.ensures.items ∙ ap (λ l. cond (is_ok c.extend_from_slice.result) l xs) added
