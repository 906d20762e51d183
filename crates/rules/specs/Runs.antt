-- Calls, and runs of them.
use Rattle.std.specs.Prelude.{◌≡◌, ℕ, Bool, true, false, List, [], ◌∷◌}
use Rattle.answer.specs.Told.{Told, granted, refused}
use Rattle.label.specs.declared.kind.Kind.{Kind}
use Rattle.label.specs.Labels.{Marks}
use Rattle.key.specs.Meanings.{Meaning}
use Rattle.rules.specs.State.{State, Place, vacant, holds, record_at, is_figure}
use Rattle.rules.specs.Step.{Ruled, entering, opening, closing, taking, putting, dropping, showing, changing}

pub data Call : Type 0 where
  -- record, party, figure and label
  Enter : ℕ → ℕ → ℕ → Marks → Call
  -- task and party
  Open : ℕ → ℕ → Call
  Close : ℕ → Call
  -- task, record and manner
  Take : ℕ → ℕ → ℕ → Call
  -- task and record
  Put : ℕ → ℕ → Call
  Drop : ℕ → ℕ → Call
  -- record and group
  Show : ℕ → ℕ → Call
  -- a release or an endorsement: task, record, new formula, and a key of any meaning
  Change : Kind → ℕ → ℕ → List ℕ → Meaning → Call

abbrev pub step : State → Call → Ruled
step t (Enter i p n l) = entering t i p n l
step t (Open k p) = opening t k p
step t (Close k) = closing t k
step t (Take k i m) = taking t k i m
step t (Put k i) = putting t k i
step t (Drop k i) = dropping t k i
step t (Show i g) = showing t i g
step t (Change kind k i f key) = changing kind t k i f key

abbrev pub after : State → Call → State
after t c = (step t c).state

abbrev pub answer : State → Call → Told
answer t c = (step t c).answer

abbrev pub is_granted : Told → Bool
is_granted (granted vs) = true
is_granted (refused q vs) = false

-- one call after another, refused ones among them
abbrev pub run : State → List Call → State
run t [] = t
run t (c ∷ cs) = run (after t c) cs

-- a call of two runs: the same call in both; or an enter of two figures, where `named` holds of its
-- party and label
pub data Twin (named : ℕ → Marks → Type 0) : Type 0 where
  same : Call → Twin named
  figures : (i p n n' : ℕ) (l : Marks) → named p l → is_figure n ≡ true → is_figure n' ≡ true → Twin named

abbrev pub left : {named : ℕ → Marks → Type 0} → Twin named → Call
left (same c) = c
left (figures i p n n' l _ _ _) = Enter i p n l

abbrev pub right : {named : ℕ → Marks → Type 0} → Twin named → Call
right (same c) = c
right (figures i p n n' l _ _ _) = Enter i p n' l

abbrev pub lefts : {named : ℕ → Marks → Type 0} → List (Twin named) → List Call
lefts [] = []
lefts (x ∷ xs) = left x ∷ lefts xs

abbrev pub rights : {named : ℕ → Marks → Type 0} → List (Twin named) → List Call
rights [] = []
rights (x ∷ xs) = right x ∷ rights xs

-- what a record holds; nothing is asked of an empty one
abbrev pub label_of : Place → Marks
label_of vacant = record { sight = []; hand = [] }
label_of (holds n l) = l

abbrev pub figure_of : Place → ℕ
figure_of vacant = 0
figure_of (holds n l) = n

abbrev pub label_at : State → ℕ → Marks
label_at t i = label_of (record_at t i)

abbrev pub figure_at : State → ℕ → ℕ
figure_at t i = figure_of (record_at t i)
