use Rattle.std.proofs.Common.{ℕ, ◌^◌, List, [], ◌∷◌, sym, ap, ◌∙◌, subst}
use Rattle.clause.specs.Meaning.{Means}
use Rattle.clause.specs.Parties.{Member}
use Rattle.clause.proofs.Sharing.{sharing as parties, one_party}
use Rattle.formula.proofs.kept.Formula.one_party.Goals as goal

pub returns-clause-means : goal.returns-clause-means
returns-clause-means c =
    let k = c.args.party.number in
    let one : Means (2 ^ k ∷ []) (Member k) = λ g h. (λ m. (one_party k g c.args.party.known h).0 m.0, λ m. ((one_party k g c.args.party.known h).1 m, tt)) in
    subst (λ (l : List ℕ). Means l (Member k)) (sym (c.of_clause.ensures ∙ ap (λ (x : ℕ). x ∷ []) c.alone.ensures)) one

pub returns-clause-sharing : goal.returns-clause-sharing
returns-clause-sharing c = parties
