-- What the calls on a task and a record fetch first.
use Rattle.std.specs.Prelude.{◌≡◌, ℕ, ◌<◌, Ok, Err, Result}
use Rattle.answer.specs.declared.Refusal.{Refusal}
use Rattle.answer.specs.declared.Answer.TheVariants.{Refused}
use Rattle.answer.specs.Told.{told}
use Rattle.label.specs.Labels.{Marks, labelled}
use Rattle.monitor.specs.declared.monitor.fetch.Pair.{Pair}
use Rattle.rules.specs.State.{State}
use Rattle.rules.specs.Step.{Ruled, on_both}

-- whatever a call does with the two, it does so with these, or is refused so
abbrev pub Fetched : State → ℕ → ℕ → Result Pair Refusal → Type 0
Fetched t k i (Ok p) =
    (next : ℕ → Marks → ℕ → Marks → Ruled) →
    on_both t k i next ≡ next p.«open».figure.cents (labelled p.«open».label) p.filled.figure.cents (labelled p.filled.label)
Fetched t k i (Err q) = (next : ℕ → Marks → ℕ → Marks → Ruled) → on_both t k i next ≡ record { state = t; answer = told (Refused q) }

-- what is fetched is there
abbrev pub Sound : ℕ → ℕ → Result Pair Refusal → Type 0
Sound k i (Ok p) = (k < 8) × (i < 64)
Sound k i (Err q) = Unit {0}
