use Rattle.std.proofs.Common.{ℕ, ◌≡◌, ◌+◌, ◌-◌, [], ◌++◌, List, length, get_or, take, drop, sym, ap, ◌∙◌, refl, subst, arith}
use Rattle.std.proofs.Output.{has_written_append, has_written_of_eq}
use Rattle.std.proofs.lemmas.List.{take_more, take_all, drop_more, flat_map_more, take_rest, get_or-drop}
use Rattle.std.specs.Fmt.{HasWritten}
use Rattle.std.specs.List.{flat_map}
use Rattle.answer.specs.Text.{hex_text}
use Rattle.formula.specs.Text.{next_text, formula_text}
use Rattle.formula.specs.Kept.{Sixteen}
use Rattle.formula.proofs.Choosing.{form}
use Rattle.formula.proofs.Printing.{hex_hole}
use Rattle.formula.proofs.kept.text.FormulaDisplay.fmt.Goals as goal

pub loop-clause-preserved : goal.loop-clause-preserved
loop-clause-preserved g c =
    λ p.
    let xs : List ℕ = c.as_slice.result.now in
    let rest : List ℕ = take (length xs - 1) (drop 1 xs) in
    let i = c.loop-clause.clause-index in
    let x : ℕ = get_or rest i 0 in
    let f = c.args.self.now in
    let fits : Sixteen xs = subst Sixteen (sym c.as_slice.ensures.is) (form f).sixteen in
    let at : x ≡ get_or xs (1 + i) 0 = ap (λ (ys : List ℕ). get_or ys i 0) (take_rest xs 1) ∙ get_or-drop 1 xs i 0 in
    let before = c.loop-clause.invariant p in
    let hole = hex_hole c.in_radix-in-loop-clause.result c.laid_out-in-loop-clause.result x (omega (arith, at, fits (1 + i))) c.in_radix-in-loop-clause.ensures c.laid_out-in-loop-clause.ensures in
    let now : HasWritten g.W.Write.write_str_gives c.loop-clause.f (next_text x) c.write-in-loop-clause.new.self = (simp hole at c.in_ok-write-2.ensures.writes) before.plain refl in
    has_written_of_eq _ _ _ _ _ (flat_map_more next_text [] (take i rest) x ∙ ap (flat_map next_text) (sym (take_more rest i 0 c.loop-clause-test.true)))
    (has_written_append _ _ _ _ _ _ before now)

pub returns-clause-writes : goal.returns-clause-writes
returns-clause-writes g c =
    λ p ok.
    let xs : List ℕ = c.as_slice.result.now in
    let rest : List ℕ = take (length xs - 1) (drop 1 xs) in
    let x : ℕ = get_or xs 0 0 in
    let f = c.args.self.now in
    let fits : Sixteen xs = subst Sixteen (sym c.as_slice.ensures.is) (form f).sixteen in
    let hole = hex_hole c.in_radix.result c.laid_out.result x (fits 0) c.in_radix.ensures c.laid_out.ensures in
    let now : HasWritten g.W.Write.write_str_gives c.args.f.now (hex_text x) c.write-2.new.self = (simp hole at c.in_ok-write.ensures.writes) p ok in
    let all : take c.loop-clause.clause-index rest ≡ drop 1 xs = take_all _ rest c.loop-clause-test.false ∙ take_rest xs 1 in
    has_written_of_eq _ _ _ _ _ (ap (λ ys. hex_text x ++ flat_map next_text ys) all ∙ ap formula_text (sym (drop_more xs 0 0 (omega arith)) ∙ c.as_slice.ensures.is))
    (has_written_append _ _ _ _ _ _ now (c.loop-clause.invariant now.plain))
