use Rattle.std.proofs.Common.{List, ℕ, eqb, rules, ap, ◌∙◌}
use Rattle.std.specs.Option.{is_some}
use Rattle.std.specs.List.{list_all}
use Rattle.std.proofs.lemmas.Iterator.Search.{all_from_yields_List}
use Rattle.std.proofs.lemmas.Iterator.Splits.{YieldsList-from_slice_split}
use Rattle.words.specs.Hex.{hex_four}
use Rattle.words.specs.Parted.{parted}
use Rattle.words.proofs.Parts.{parted_is}
use Rattle.words.proofs.Reading.{all_clauses}
use Rattle.words.proofs.clauses.word.is_clauses.Goals as goal

pub returns : goal.returns
returns c =
    let w = c.args.word.now in
    let e = c.split.ensures in
    all_from_yields_List (λ (p : List ℕ). is_some (hex_four p)) _ _ _ c.all.ensures.ran
    (YieldsList-from_slice_split _ (λ (b : ℕ). eqb b 46) w e.rest e.done e.closure (λ x b q k. search rules))
    (λ x b q k. search rules)
    ∙ (ap (list_all (λ (p : List ℕ). is_some (hex_four p))) (parted_is 46 w) ∙ all_clauses (parted 46 w))
