-- The tracking of figures, once for every mark. An onlooker of a mark is given by the labels that
-- touch him.
use Rattle.std.specs.Prelude.{◌≡◌, ℕ, Bool, true, false, ◌||◌, List, [], ◌∷◌}
use Rattle.answer.specs.Told.{Told, granted}
use Rattle.formula.specs.Party.{alone}
use Rattle.label.specs.Marks.{Covered}
use Rattle.label.specs.Labels.{Marks, sees, handed, flows, join, relabelled}
use Rattle.rules.specs.State.{State, Place, vacant, holds, record_at, task_at, blank}
use Rattle.rules.specs.Runs.{Call, Enter, Open, Close, Take, Put, Drop, Show, Change, Twin, left, right, lefts, rights, run, after, answer, is_granted, label_at, figure_at}

abbrev pub Touched : Type 0
Touched = Marks → Bool

-- what a mark owes: a joined label touches whom either part touches, and a label touches whom one touches that flows to it
pub record Lawful (touched : Touched) : Type 0 where
  pub joins : (a b : Marks) → touched (join a b) ≡ (touched a || touched b)
  pub flow : (a b : Marks) → flows a b ≡ true → touched a ≡ true → touched b ≡ true

-- both are vacant; or both hold a figure under one label, the same figure unless the label touches the onlooker
pub data Alike (touched : Touched) : Place → Place → Type 0 where
  empty : Alike touched vacant vacant
  filled : (l : Marks) (a b : ℕ) → (touched l ≡ false → a ≡ b) → Alike touched (holds a l) (holds b l)

pub record Agree (touched : Touched) (t u : State) : Type 0 where
  pub records : (i : ℕ) → Alike touched (record_at t i) (record_at u i)
  pub tasks : (k : ℕ) → Alike touched (task_at t k) (task_at u k)

-- the same answer; or two figures, shown to a group that sees a label, the same figure unless the label touches the onlooker
pub data Answered (touched : Touched) : Call → Told → Told → Type 0 where
  equal : (c : Call) (x : Told) → Answered touched c x x
  shown : (i g a b : ℕ) (l : Marks) → sees l g ≡ true → (touched l ≡ false → a ≡ b) → Answered touched (Show i g) (granted (a ∷ [])) (granted (b ∷ []))

-- where a granted release or endorsement removes the touch from a record, the runs agree on its figure
abbrev pub Settled : Touched → State → State → Call → Type 0
Settled touched t u (Enter i p n l) = Unit {0}
Settled touched t u (Open k p) = Unit {0}
Settled touched t u (Close k) = Unit {0}
Settled touched t u (Take k i m) = Unit {0}
Settled touched t u (Put k i) = Unit {0}
Settled touched t u (Drop k i) = Unit {0}
Settled touched t u (Show i g) = Unit {0}
Settled touched t u (Change kind k i f key) =
    is_granted (answer t (Change kind k i f key)) ≡ true → touched (label_at t i) ≡ true → touched (relabelled kind (label_at t i) f) ≡ false → figure_at t i ≡ figure_at u i

-- the enter, if it is let in, is under a label that touches the onlooker
abbrev pub Touching : Touched → ℕ → Marks → Type 0
Touching touched p l = handed l (alone p) ≡ true → touched l ≡ true

abbrev pub AllSettled : (touched : Touched) → State → State → List (Twin (Touching touched)) → Type 0
AllSettled touched t u [] = Unit {0}
AllSettled touched t u (x ∷ xs) = Settled touched t u (left x) × AllSettled touched (after t (left x)) (after u (right x)) xs

-- Two runs whose enters differ only under labels that touch the onlooker, and in which each change that
-- removes the touch is settled: afterwards they agree on everything that does not touch him, and so do
-- the answers to whatever call comes next.
abbrev pub Tracks : Touched → Type 0
Tracks touched =
    (xs : List (Twin (Touching touched))) → AllSettled touched blank blank xs →
    Agree touched (run blank (lefts xs)) (run blank (rights xs))
    × ((x : Twin (Touching touched)) → Answered touched (left x) (answer (run blank (lefts xs)) (left x)) (answer (run blank (rights xs)) (right x)))

abbrev pub Tracking : Type 0
Tracking = (touched : Touched) → Lawful touched → Tracks touched

-- a part of the label that the label joins, and compares, as the mark does
pub record Carried {O : Type 0} (joined : List ℕ → List ℕ → List ℕ) (touches : List ℕ → O → Bool) (part : Marks → List ℕ) : Type 0 where
  pub joins : (a b : Marks) → part (join a b) ≡ joined (part a) (part b)
  pub flow : (a b : Marks) → flows a b ≡ true → Covered touches (part a) (part b)

-- every onlooker of the mark is tracked
abbrev pub MarkTracks : {O : Type 0} → (List ℕ → List ℕ → List ℕ) → (List ℕ → O → Bool) → Type 0
MarkTracks {O} joined touches = (part : Marks → List ℕ) → Carried joined touches part → (o : O) → Tracks (λ l. touches (part l) o)
