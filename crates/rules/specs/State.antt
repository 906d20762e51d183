-- Records and tasks in plain terms.
use Rattle.std.specs.Prelude.{◌≡◌, ℕ, Bool, true, List, replicate, nat_le, slice_index_or, slice_set}
use Rattle.label.specs.Labels.{Marks}

-- an empty record or a closed task; or a figure and its label
pub data Place : Type 0 where
  vacant : Place
  holds : ℕ → Marks → Place

pub record State : Type 0 where
  pub records : List Place
  pub tasks : List Place

abbrev pub record_at : State → ℕ → Place
record_at t i = slice_index_or t.records i vacant

abbrev pub task_at : State → ℕ → Place
task_at t k = slice_index_or t.tasks k vacant

abbrev pub with_record : State → ℕ → Place → State
with_record t i p = record { records = slice_set t.records i p; tasks = t.tasks }

abbrev pub with_task : State → ℕ → Place → State
with_task t k p = record { records = t.records; tasks = slice_set t.tasks k p }

-- all 64 records are empty and all 8 tasks closed
abbrev pub blank : State
blank = record { records = replicate 64 vacant; tasks = replicate 8 vacant }

-- a figure is at most 999,999,999 cents
abbrev pub is_figure : ℕ → Bool
is_figure n = nat_le n 999999999

abbrev pub bounded : Place → Bool
bounded vacant = true
bounded (holds n l) = is_figure n

-- every figure of the list is one
abbrev pub AllBounded : List Place → Type 0
AllBounded ps = (i : ℕ) → bounded (slice_index_or ps i vacant) ≡ true
