-- What keys have to do with privileges and with joined labels.
use Rattle.std.specs.Prelude.{◌≡◌, ℕ, true, ◌↔◌, List}
use Rattle.clause.specs.Meaning.{Meets}
use Rattle.label.specs.Labels.{Marks, flows, join, relabelled}
use Rattle.key.specs.declared.mode.Mode.{Mode}
use Rattle.key.specs.Requests.{Asked, Limits}
use Rattle.key.specs.Meanings.{Meaning, grant, plain, robust, bounded, covers}
use Rattle.key.specs.Laws.{Sees, HasHand, Everybody}

-- a label flows to another with a privilege: to the eyes of the groups that meet the privilege
abbrev pub FlowsWith : List ℕ → Marks → Marks → Type 0
FlowsWith p a b = Everybody (λ g. Meets p g → (Sees b g → Sees a g) × (HasHand a g → HasHand b g))

abbrev pub new_label : Asked → Marks
new_label r = relabelled r.kind r.held r.new

-- a plain key grants exactly when the old label flows to the new with its privilege
abbrev pub PlainIsFlow : Type 0
PlainIsFlow = (p : List ℕ) (r : Asked) → (plain p r ≡ grant) ↔ FlowsWith p r.held (new_label r)

-- a bounded wrap keeps the join of old label and task's label below high, and low below the join of new label and task's label
abbrev pub BoundedByJoins : Type 0
BoundedByJoins =
    (m : Mode) (b : Limits) (below : Meaning) (r : Asked) →
    (bounded m b below r ≡ grant)
    ↔ ((below r ≡ grant) × (covers m r.kind ≡ true) × (flows (join r.held r.task) b.high ≡ true) × (flows b.low (join (new_label r) r.task) ≡ true))

pub data Wrap : Type 0 where
  robustly : Mode → Wrap
  boundedly : Mode → Limits → Wrap

abbrev pub wrap : Wrap → Meaning → Meaning
wrap (robustly m) below = robust m below
wrap (boundedly m b) below = bounded m b below

-- two wraps grant exactly what each alone would grant of the same key below
abbrev pub Stacking : Type 0
Stacking = (v w : Wrap) (below : Meaning) (r : Asked) → (wrap v (wrap w below) r ≡ grant) ↔ ((wrap v below r ≡ grant) × (wrap w below r ≡ grant))

-- a robust wrap over a robust wrap of the same mode answers as one
abbrev pub RobustTwice : Type 0
RobustTwice = (m : Mode) (below : Meaning) (r : Asked) → robust m (robust m below) r ≡ robust m below r
