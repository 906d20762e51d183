use Rattle.std.proofs.Common.{sym, ap, ◌∙◌}
use Rattle.std.specs.Prelude.{is_ok}
use Rattle.std.proofs.lemmas.Result.{MatchResult-from_err}
use Rattle.formula.specs.Of.{clauses_of}
use Rattle.label.proofs.Refused.{refused_means}
use Rattle.label.specs.Tests.{hand_means}
use Rattle.label.proofs.hand.HandJoin.join.Goals as goal

pub returns-in_err-out-clause-needed : goal.returns-in_err-out-clause-needed
returns-in_err-out-clause-needed c =
    let a = clauses_of c.args.self.now.0 in
    let b = clauses_of c.args.other.now.0 in
    MatchResult-from_err _ _ _ c.from_residual.ensures.0
    (λ _ f h. refused_means c.or.result _ _ c.or.ensures.answer c.or.ensures.means (sym c.map_err.ensures.variant ∙ ap is_ok c.in_err-out.was) f.0 (hand_means (clauses_of f.0) a b h))
