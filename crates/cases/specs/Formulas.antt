-- Formulas: their sizes, their kept forms, and what a refusal at 2 says.
use Rattle.std.specs.Prelude.{◌≡◌, ℕ, ◌≤◌, true, false, List, [], ◌∷◌, length, replicate, Some, None, Ok, Err, codes}
use Rattle.answer.specs.declared.Refusal.TheVariants.{LongList, LargeFormula, NoSuchNumber, LargeFigure}
use Rattle.answer.specs.Told.{granted, refused}
use Rattle.clause.specs.Meaning.{Meets}
use Rattle.clause.specs.Reduced.{reduced}
use Rattle.formula.specs.declared.kept.Formula.{Formula}
use Rattle.formula.specs.declared.party.Party.{Party}
use Rattle.formula.specs.Kept.{Behind, Unused, Rising, Apart, Sixteen}
use Rattle.formula.specs.Of.{clauses_of}
use Rattle.formula.specs.Party.{alone, PartyOf}
use Rattle.formula.specs.Forms.{fits, fitting, reduces, both, either, Formed}
use Rattle.formula.specs.Keeping.{apart, apart_all, ordered, kept, keeping, clauses_in, KeptIsReduced}
use Rattle.formula.specs.Text.{formula_text}
use Rattle.cases.specs.Table.{one, two, three, one_two}

abbrev pub eight : List ℕ
eight = 1 ∷ 2 ∷ 4 ∷ 8 ∷ 16 ∷ 32 ∷ 64 ∷ 128 ∷ []

abbrev pub nine : List ℕ
nine = 1 ∷ 2 ∷ 4 ∷ 8 ∷ 16 ∷ 32 ∷ 64 ∷ 128 ∷ 256 ∷ []

pub record Sized : Type 0 where
  pub eight_fit : fits eight ≡ true
  pub nine_do_not : fits nine ≡ false
  pub fitting_eight : fitting eight ≡ granted eight
  pub fitting_nine : fitting nine ≡ refused 2 []
  pub list_of_64 : reduces (replicate 64 3) ≡ granted three
  pub list_of_65 : reduces (replicate 65 3) ≡ refused 1 []
  pub and_drops : both (1 ∷ 6 ∷ []) two ≡ 1 ∷ 2 ∷ []
  pub or_drops : either (1 ∷ 6 ∷ []) two ≡ 3 ∷ 6 ∷ []
  pub party_three : alone 3 ≡ 8
  pub party_zero : alone 0 ≡ 1

pub record KeptForms : Type 0 where
  -- the second rises above the first and does not contain it
  pub beside : apart 2 5 ≡ true
  pub containing : apart 2 6 ≡ false
  pub falling : apart 5 2 ≡ false
  pub same : apart 5 5 ≡ false
  pub beside_each : apart_all 1 (2 ∷ 4 ∷ []) ≡ true
  pub beside_first : apart_all 1 (2 ∷ 3 ∷ []) ≡ false
  pub beside_last : apart_all 1 (3 ∷ 4 ∷ []) ≡ false
  pub in_order : ordered (1 ∷ 2 ∷ 4 ∷ []) ≡ true
  pub out_of_order : ordered (1 ∷ 4 ∷ 2 ∷ []) ≡ false
  pub first_contained : ordered (1 ∷ 4 ∷ 9 ∷ []) ≡ false
  pub eight_kept : kept eight ≡ true
  pub nine_not : kept nine ≡ false
  pub falling_not : kept (2 ∷ 1 ∷ []) ≡ false
  pub truth_kept : keeping [] ≡ Some []
  pub falling_none : keeping (2 ∷ 1 ∷ []) ≡ None
  -- a clause behind others rises above each and contains none
  pub stands_behind : Behind (1 ∷ 2 ∷ []) 4
  pub contains_first : Behind (1 ∷ 2 ∷ []) 5 → ⊥
  pub below_last : Behind (1 ∷ 4 ∷ []) 2 → ⊥
  -- places behind the count hold 0
  pub unused : Unused (1 ∷ 0 ∷ []) 1
  pub one_unused : Unused (1 ∷ 0 ∷ []) 0 → ⊥
  pub two_unused : Unused (1 ∷ 2 ∷ []) 1 → ⊥
  pub rising : Rising (1 ∷ 2 ∷ 0 ∷ []) 2
  pub falling_at_last : Rising (1 ∷ 2 ∷ 0 ∷ []) 3 → ⊥
  pub level : Rising (2 ∷ 2 ∷ []) 2 → ⊥
  pub parties_apart : Apart (2 ∷ 5 ∷ 7 ∷ []) 2
  pub contained : Apart (2 ∷ 6 ∷ []) 2 → ⊥
  pub sixteen : Sixteen (65535 ∷ [])
  pub seventeen : Sixteen (65536 ∷ []) → ⊥
  pub seventeen_behind : Sixteen (1 ∷ 65536 ∷ []) → ⊥

pub record HeldForms : Type 0 where
  -- the clauses in use
  pub in_use : (f : Formula) → f.count ≡ 2 → f.clauses ≡ 1 ∷ 2 ∷ 7 ∷ [] → clauses_of f ≡ one_two
  pub clauses_in_row : (f : Formula) → clauses_of f ≡ one → clauses_in (Some f) ≡ Some one
  pub clauses_in_none : clauses_in None ≡ None
  -- a list in kept form has at most 8 clauses and is reduced, and the other way round
  pub kept_fits : KeptIsReduced → (cs : List ℕ) → Sixteen cs → kept cs ≡ true → length cs ≤ 8
  pub kept_reduced : KeptIsReduced → (cs : List ℕ) → Sixteen cs → kept cs ≡ true → reduced cs ≡ cs
  pub reduced_kept : KeptIsReduced → (cs : List ℕ) → Sixteen cs → length cs ≤ 8 → reduced cs ≡ cs → kept cs ≡ true
  -- a formula that is formed has the meaning
  pub formed : (f : Formula) → clauses_of f ≡ one_two → Formed (Meets one_two) (Ok f)
  pub misformed : (f : Formula) → clauses_of f ≡ one → Formed (λ g. Unit {0}) (Ok f) → ⊥
  -- a refusal at 2 is needless where eight clauses have the meaning; one at 1 says nothing
  pub needless : Formed (Meets eight) (Err LargeFormula) → ⊥
  pub at_one : Formed (λ g. Unit {0}) (Err LongList)

-- the party of a number, and what is printed of a formula
pub record Shown : Type 0 where
  pub last_party : (p : Party) → p.number ≡ 15 → PartyOf 15 (Ok p)
  pub another_party : (p : Party) → p.number ≡ 14 → PartyOf 15 (Ok p) → ⊥
  pub no_sixteenth : (p : Party) → PartyOf 16 (Ok p) → ⊥
  pub sixteen_refused : PartyOf 16 (Err NoSuchNumber)
  pub at_three_only : PartyOf 16 (Err LargeFigure) → ⊥
  pub fifteen_not_refused : PartyOf 15 (Err NoSuchNumber) → ⊥
  pub truth_printed : formula_text [] ≡ codes "T"
  pub one_printed : formula_text (40639 ∷ []) ≡ codes "9ebf"
  pub two_printed : formula_text (1 ∷ 2 ∷ []) ≡ codes "0001.0002"

pub record Formulas : Type 0 where
  pub sized : Sized
  pub kept_forms : KeptForms
  pub held_forms : HeldForms
  pub shown : Shown
