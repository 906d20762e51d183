-- What holds of every list of calls, in any order and number, refused ones among them, under any keys.
use Rattle.std.specs.Prelude.{◌≡◌, ℕ, ◌<◌, Bool, true, false, not, ◌&&◌, List, [], ◌∷◌}
use Rattle.answer.specs.Told.{Told, granted}
use Rattle.clause.specs.Groups.{met}
use Rattle.clause.specs.Parts.{Part}
use Rattle.formula.specs.Party.{alone}
use Rattle.label.specs.declared.kind.Kind.TheVariants.{Release, Endorse}
use Rattle.label.specs.Labels.{Marks, sees, handed}
use Rattle.key.specs.Meanings.{Meaning}
use Rattle.key.specs.Laws.{KeyLaws, OverRobust, OverRobustLaw}
use Rattle.rules.specs.State.{State, record_at, blank}
use Rattle.rules.specs.Runs.{Call, Enter, Open, Close, Take, Put, Drop, Show, Change, Twin, left, right, lefts, rights, run, after, answer, is_granted, label_at}
use Rattle.rules.specs.Tracking.{Alike, Tracking}

-- an enter is closed to a group that does not see by its label
abbrev pub ClosedTo : ℕ → ℕ → Marks → Type 0
ClosedTo g p l = sees l g ≡ false

-- the entering party is a member of the group
abbrev pub EnteredBy : ℕ → ℕ → Marks → Type 0
EnteredBy g p l = Part (alone p) g

-- a granted release lets the group in: it sees the record afterwards, and did not before
abbrev pub lets_in : ℕ → State → Call → Bool
lets_in g t (Enter i p n l) = false
lets_in g t (Open k p) = false
lets_in g t (Close k) = false
lets_in g t (Take k i m) = false
lets_in g t (Put k i) = false
lets_in g t (Drop k i) = false
lets_in g t (Show i h) = false
lets_in g t (Change Endorse k i f key) = false
lets_in g t (Change Release k i f key) = is_granted (answer t (Change Release k i f key)) && (met f g && not (sees (label_at t i) g))

-- a granted endorsement takes the group's hand off: it had a hand in the record, and has none afterwards
abbrev pub takes_off : ℕ → State → Call → Bool
takes_off g t (Enter i p n l) = false
takes_off g t (Open k p) = false
takes_off g t (Close k) = false
takes_off g t (Take k i m) = false
takes_off g t (Put k i) = false
takes_off g t (Drop k i) = false
takes_off g t (Show i h) = false
takes_off g t (Change Release k i f key) = false
takes_off g t (Change Endorse k i f key) = is_granted (answer t (Change Endorse k i f key)) && (handed (label_at t i) g && not (met f g))

-- no call of a run does so
abbrev pub NoneOf : (State → Call → Bool) → State → List Call → Type 0
NoneOf test t [] = Unit {0}
NoneOf test t (c ∷ cs) = (test t c ≡ false) × NoneOf test (after t c) cs

-- the same answer; or two figures, shown to a group that is not contained in g
pub data Matches (g : ℕ) : Call → Told → Told → Type 0 where
  equal : (c : Call) (x : Told) → Matches g c x x
  apart : (i h n m : ℕ) → (Part h g → ⊥) → Matches g (Show i h) (granted (n ∷ [])) (granted (m ∷ []))

-- Secrecy. Whatever figures stand in the enters closed to a group: as long as no granted release has
-- let the group in, each call is answered the same, save figures shown to groups not contained in it.
-- (The release that lets it in is itself such a next call.)
abbrev pub Secrecy : Type 0
Secrecy =
    (g : ℕ) → g < 65536 → (xs : List (Twin (ClosedTo g))) → NoneOf (lets_in g) blank (lefts xs) →
    (x : Twin (ClosedTo g)) → Matches g (left x) (answer (run blank (lefts xs)) (left x)) (answer (run blank (rights xs)) (right x))

-- the same records are filled, with the same labels, and each in which the group has no hand holds the same figure
abbrev pub Unmoved : ℕ → State → State → Type 0
Unmoved g t u = (i : ℕ) → Alike (λ l. handed l g) (record_at t i) (record_at u i)

-- after the call, show for the group answers one figure in both runs
abbrev pub ShowsOne : ℕ → ℕ → State → State → Call → Type 0
ShowsOne g i t u c = (n : ℕ) × (answer (after t c) (Show i g) ≡ granted (n ∷ [])) × (answer (after u c) (Show i g) ≡ granted (n ∷ []))

-- Influence. Whatever figures a group's members enter: as long as no granted endorsement has taken the
-- group's hand off a record, every record without its hand is unmoved; and a robust release that then
-- lets the group in shows it the same figure.
pub record Unsteered (g : ℕ) (t u : State) : Type 0 where
  pub unmoved : Unmoved g t u
  pub robust : (k i : ℕ) (f : List ℕ) (key : Meaning) → OverRobust key → lets_in g t (Change Release k i f key) ≡ true → ShowsOne g i t u (Change Release k i f key)

abbrev pub Influence : Type 0
Influence =
    (g : ℕ) → g < 65536 → (xs : List (Twin (EnteredBy g))) → NoneOf (takes_off g) blank (lefts xs) →
    Unsteered g (run blank (lefts xs)) (run blank (rights xs))

-- The promise of the monitor: what each key grants; that robust releases let in nobody with a hand;
-- secrecy and influence over all runs; and the tracking behind both, for every mark.
pub record Promise : Type 0 where
  pub keys : KeyLaws
  pub over : OverRobustLaw
  pub secrecy : Secrecy
  pub influence : Influence
  pub tracking : Tracking
