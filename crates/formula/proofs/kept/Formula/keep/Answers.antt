use Rattle.std.proofs.Common.{true, sym, ap, ◌∙◌, subst, inl, inr, List, ℕ, Some, length, get_or, ◌≡◌}
use Rattle.std.proofs.lemmas.Bool.{eqb-true, false≢true}
use Rattle.std.proofs.lemmas.List.{take_all}
use Rattle.formula.specs.Kept.{Behind}
use Rattle.formula.specs.Of.{clauses_of}
use Rattle.formula.specs.Keeping.{kept}
use Rattle.formula.proofs.Keeping.{kept_clauses, keeping_yes, keeping_no}
use Rattle.formula.proofs.kept.Formula.keep.Goals.{then-is_full-via-then-is_full, then-is_full-via-else-is_full+then-not-admits}
use Rattle.formula.proofs.kept.Formula.keep.Goals as goal

pub returns-then-is_full-clause-answer : goal.returns-then-is_full-clause-answer
returns-then-is_full-clause-answer c =
    let list = c.args.list.now in
    let same = c.loop-clause.invariant in
    keeping_no list c.loop-clause.clause-index c.loop-clause-test.true
    (elim c.then-is_full.branch [
      | then-is_full-via-then-is_full w ↦ inl (ap length (sym same) ∙ eqb-true _ _ (sym w.if-is_full.ensures))
      | then-is_full-via-else-is_full+then-not-admits w ↦ inr (λ b. false≢true (w.if-not-admits.ensures.1 (subst (λ (l : List ℕ). Behind l (get_or list c.loop-clause.clause-index 0)) (sym same) b)))
    ])

pub returns-clause-answer : goal.returns-clause-answer
returns-clause-answer c =
    let all : clauses_of c.loop-clause.formula ≡ c.args.list.now = c.loop-clause.invariant ∙ take_all _ _ c.loop-clause-test.false in
    ap (λ (l : List ℕ). Some l) all ∙ keeping_yes c.args.list.now (subst (λ (l : List ℕ). kept l ≡ true) all (kept_clauses c.loop-clause.formula))
