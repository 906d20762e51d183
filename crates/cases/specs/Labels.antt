-- Marks and labels.
use Rattle.std.specs.Prelude.{◌≡◌, ℕ, ◌<◌, Bool, true, false, not, List, [], ◌∷◌, length, Ok, Err, ◌==◌, ◌≢◌}
use Rattle.answer.specs.declared.Refusal.TheVariants.{LargeFormula, LargeLabel}
use Rattle.clause.specs.Meaning.{Meets}
use Rattle.formula.specs.Of.{clauses_of}
use Rattle.label.specs.declared.kind.Kind.TheVariants.{Release, Endorse}
use Rattle.label.specs.declared.label.Label.{Label}
use Rattle.formula.specs.Forms.{fits}
use Rattle.label.specs.Marks.{Covered, CoveredByTwo, TouchesEither, JoinedMark, Group, sight_touches, hand_touches}
use Rattle.label.specs.Labels.{Marks, labelled, sees, unseeing, handed, flows, join, joinable, JoinedLabel, relabelled}
use Rattle.label.specs.Order.{FlowsByGroups, FlowsOrder, JoinLeast}
use Rattle.cases.specs.Table.{label, one, two, three, four, one_two}
use Rattle.cases.specs.Formulas.{nine}

-- a mark that touches its one onlooker as soon as it has a clause
abbrev pub touchy : List ℕ → Unit {0} → Bool
touchy m o = not (length m == 0)

pub record Touching : Type 0 where
  pub covered : Covered touchy [] one
  pub not_covered : Covered touchy one [] → ⊥
  pub by_second : CoveredByTwo touchy one [] two
  pub by_first : CoveredByTwo touchy one two []
  pub by_neither : CoveredByTwo touchy one [] [] → ⊥
  pub either_second : TouchesEither touchy one [] two
  pub either_first : TouchesEither touchy one two []
  pub either_none : TouchesEither touchy [] [] []
  pub touches_less : TouchesEither touchy [] one [] → ⊥
  pub touches_more : TouchesEither touchy one [] [] → ⊥
  -- the last group is an onlooker, and no later number is
  pub last_group : (o : Group) × (o.0 ≡ 65535)
  pub groups_only : (o : Group) → o.0 ≢ 65536
  -- a sight touches whom it hides from, a hand whom it has
  pub sight_touches_row : (h : 2 < 65536) → sight_touches one (2, h) ≡ true
  pub sight_spares : (h : 3 < 65536) → sight_touches one (3, h) ≡ false
  pub hand_touches_row : (h : 3 < 65536) → hand_touches one (3, h) ≡ true
  pub hand_spares : (h : 2 < 65536) → hand_touches one (2, h) ≡ false

-- labels with three clauses each on the hand, whose "or" has nine; and with nine on the sight together
abbrev pub wide : Marks
wide = label [] (1 ∷ 2 ∷ 4 ∷ [])

abbrev pub broad : Marks
broad = label [] (8 ∷ 16 ∷ 32 ∷ [])

abbrev pub shut : Marks
shut = label (1 ∷ 2 ∷ 4 ∷ 8 ∷ 16 ∷ 32 ∷ 64 ∷ 128 ∷ []) one

abbrev pub shutter : Marks
shutter = label (256 ∷ []) one

pub record Joining : Type 0 where
  pub shown : sees (label one two) 1 ≡ true
  pub hidden : sees (label one two) 2 ≡ false
  pub does_not_see : unseeing (label one two) 2 ≡ true
  pub has_hand : handed (label one two) 2 ≡ true
  pub no_hand : handed (label one two) 1 ≡ false
  -- the join has the "and" of the sights and the "or" of the hands
  pub joined : join (label one four) (label two (8 ∷ [])) ≡ label one_two (12 ∷ [])
  pub joins : joinable (label one one) (label two two) ≡ true
  pub eight_sights : joinable shut (label [] one) ≡ true
  pub nine_sights : joinable shut shutter ≡ false
  pub nine_hands : joinable wide broad ≡ false
  pub refused_join : JoinedLabel wide broad (Err LargeLabel)
  pub needless_join : JoinedLabel (label one one) (label two two) (Err LargeLabel) → ⊥
  pub misnamed_join : JoinedLabel wide broad (Err LargeFormula) → ⊥
  pub made_join : (l : Label) → labelled l ≡ label one_two three → JoinedLabel (label one one) (label two two) (Ok l)
  pub other_join : (l : Label) → labelled l ≡ label one one → JoinedLabel (label one one) (label two two) (Ok l) → ⊥
  pub large_join : (l : Label) → JoinedLabel wide broad (Ok l) → ⊥
  pub released : relabelled Release (label one two) four ≡ label four two
  pub endorsed : relabelled Endorse (label one two) four ≡ label one four
  pub both_sides : (l : Label) → clauses_of l.sight.0 ≡ one → clauses_of l.hand.0 ≡ two → labelled l ≡ label one two
  -- one side by itself
  pub side : JoinedMark fits (λ m. m) one (Ok one)
  pub other_side : JoinedMark fits (λ m. m) one (Ok two) → ⊥
  pub large_side : JoinedMark fits (λ m. m) nine (Ok nine) → ⊥
  pub refused_side : JoinedMark {A = List ℕ} fits (λ m. m) nine (Err LargeLabel)
  pub needless_side : JoinedMark {A = List ℕ} fits (λ m. m) one (Err LargeLabel) → ⊥
  pub misnamed_side : JoinedMark {A = List ℕ} fits (λ m. m) nine (Err LargeFormula) → ⊥
  pub own_size : JoinedMark (λ _. false) (λ m. m) one (Ok one) → ⊥

-- what the laws of the order say
pub record Ordered : Type 0 where
  pub flow_shows : FlowsByGroups → (a b : Marks) → flows a b ≡ true → Meets b.sight 65535 → Meets a.sight 65535
  pub flow_hands_on : FlowsByGroups → (a b : Marks) → flows a b ≡ true → Meets a.hand 65535 → Meets b.hand 65535
  pub flow_by_groups : FlowsByGroups → (a b : Marks) →
      ((g : ℕ) → g < 65536 → (Meets b.sight g → Meets a.sight g) × (Meets a.hand g → Meets b.hand g)) → flows a b ≡ true
  pub to_itself : FlowsOrder → (a : Marks) → flows a a ≡ true
  pub on_and_on : FlowsOrder → (a b c : Marks) → flows a b ≡ true → flows b c ≡ true → flows a c ≡ true
  pub left_joins : JoinLeast → (a b : Marks) → flows a (join a b) ≡ true
  pub right_joins : JoinLeast → (a b : Marks) → flows b (join a b) ≡ true
  pub join_is_least : JoinLeast → (a b c : Marks) → flows a c ≡ true → flows b c ≡ true → flows (join a b) c ≡ true

pub record Labels : Type 0 where
  pub touching : Touching
  pub joining : Joining
  pub ordered : Ordered
