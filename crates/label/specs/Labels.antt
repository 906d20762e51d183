-- Labels in plain terms: each formula is its list of clauses.
use Rattle.std.specs.Prelude.{◌≡◌, ℕ, Bool, true, false, not, ◌&&◌, ◌||◌, List, [], Ok, Err, Result}
use Rattle.answer.specs.declared.Refusal.{Refusal}
use Rattle.answer.specs.declared.Answer.TheVariants.{Refused}
use Rattle.answer.specs.Told.{told, refused}
use Rattle.clause.specs.Groups.{met, within}
use Rattle.formula.specs.Of.{clauses_of}
use Rattle.formula.specs.Forms.{fits, both, either}
use Rattle.label.specs.declared.kind.Kind.{Kind}
use Rattle.label.specs.declared.kind.Kind.TheVariants.{Release, Endorse}
use Rattle.label.specs.declared.label.Label.{Label}

pub record Marks : Type 0 where
  pub sight : List ℕ
  pub hand : List ℕ

abbrev pub labelled : Label → Marks
labelled l = record { sight = clauses_of l.sight.0; hand = clauses_of l.hand.0 }

-- the group sees what has the label
abbrev pub sees : Marks → ℕ → Bool
sees l g = met l.sight g

abbrev pub unseeing : Marks → ℕ → Bool
unseeing l g = not (sees l g)

-- the group has a hand in what has the label
abbrev pub handed : Marks → ℕ → Bool
handed l g = met l.hand g

-- a label flows to another when each of its marks is covered by the other's: whoever does not see
-- the first does not see the second, and whoever has a hand in the first has one in the second
abbrev pub flows : Marks → Marks → Bool
flows a b = within (unseeing a) (unseeing b) && within (handed a) (handed b)

-- each mark is covered by those of two labels together
abbrev pub covered : Marks → Marks → Marks → Bool
covered l a b = within (unseeing l) (λ g. unseeing a g || unseeing b g) && within (handed l) (λ g. handed a g || handed b g)

-- labels join by "and" of the sights and "or" of the hands
abbrev pub join : Marks → Marks → Marks
join a b = record { sight = both a.sight b.sight; hand = either a.hand b.hand }

-- each side of the joined label has at most 8 clauses
abbrev pub joinable : Marks → Marks → Bool
joinable a b = fits (join a b).sight && fits (join a b).hand

abbrev pub JoinedLabel : Marks → Marks → Result Label Refusal → Type 0
JoinedLabel a b (Ok l) = (joinable a b ≡ true) × (labelled l ≡ join a b)
JoinedLabel a b (Err q) = (joinable a b ≡ false) × (told (Refused q) ≡ refused 10 [])

-- a release replaces the sight formula, an endorsement the hand formula
abbrev pub relabelled : Kind → Marks → List ℕ → Marks
relabelled Release l new = record { sight = new; hand = l.hand }
relabelled Endorse l new = record { sight = l.sight; hand = new }
