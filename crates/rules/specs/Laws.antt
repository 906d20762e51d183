-- What the calls do, in the subject's words.
use Rattle.std.specs.Prelude.{◌≡◌, ℕ, Bool, true, false, ◌⊎◌, ◌≢◌}
use Rattle.rules.specs.State.{State, Place, vacant, holds, record_at, task_at}
use Rattle.rules.specs.Runs.{Call, Enter, Open, Close, Take, Put, Drop, Show, Change, after, answer, is_granted}
use Rattle.rules.specs.Tracking.{Agree, Answered}

-- one place at most differs
abbrev pub OnlyAt : (State → ℕ → Place) → ℕ → State → State → Type 0
OnlyAt at i t u = (j : ℕ) → (j ≢ i) → at u j ≡ at t j

abbrev pub Same : (State → ℕ → Place) → State → State → Type 0
Same at t u = (j : ℕ) → at u j ≡ at t j

-- at most one record, or at most one task, is altered
abbrev pub AltersOne : State → State → Type 0
AltersOne t u = ((i : ℕ) × OnlyAt record_at i t u × Same task_at t u) ⊎ ((k : ℕ) × OnlyAt task_at k t u × Same record_at t u)

-- a place is filled or open afterwards if it was before
abbrev pub is_held : Place → Bool
is_held vacant = false
is_held (holds n l) = true

abbrev pub NoneGoes : (State → ℕ → Place) → State → State → Type 0
NoneGoes at t u = (j : ℕ) → is_held (at t j) ≡ true → is_held (at u j) ≡ true

-- each place is as it was, or vacant
abbrev pub NoneComes : (State → ℕ → Place) → State → State → Type 0
NoneComes at t u = (j : ℕ) → (at u j ≡ at t j) ⊎ (at u j ≡ vacant)

-- labels come or change only by enter, open, take, release and endorse, and go only by close and drop
abbrev pub LabelsBy : Call → State → State → Type 0
LabelsBy (Enter i p n l) t u = NoneGoes record_at t u × NoneGoes task_at t u
LabelsBy (Open k p) t u = NoneGoes record_at t u × NoneGoes task_at t u
LabelsBy (Close k) t u = NoneComes record_at t u × NoneComes task_at t u
LabelsBy (Take k i m) t u = NoneGoes record_at t u × NoneGoes task_at t u
LabelsBy (Put k i) t u = Agree (λ _. true) t u
LabelsBy (Drop k i) t u = NoneComes record_at t u × NoneComes task_at t u
LabelsBy (Show i g) t u = u ≡ t
LabelsBy (Change kind k i f key) t u = NoneGoes record_at t u × NoneGoes task_at t u

pub record StepLaws : Type 0 where
  -- a refused call leaves everything as it was
  pub refused : (t : State) (c : Call) → is_granted (answer t c) ≡ false → after t c ≡ t
  -- every call alters at most one record or one task
  pub one : (t : State) (c : Call) → AltersOne t (after t c)
  pub labels : (t : State) (c : Call) → LabelsBy c t (after t c)
  -- no answer but a shown figure depends on a figure that the tables hold: where two states differ
  -- only in figures, so do the answers, and only those of show
  pub figures : (t u : State) (c : Call) → Agree (λ _. true) t u → Answered (λ _. true) c (answer t c) (answer u c)
