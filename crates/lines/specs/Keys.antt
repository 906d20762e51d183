-- The keys that a line can write: what they mean, and how they are read.
use Rattle.std.specs.Prelude.{◌≡◌, ℕ, List, Ok, Err, Result}
use Rattle.answer.specs.declared.Refusal.{Refusal}
use Rattle.answer.specs.declared.Answer.TheVariants.{Refused}
use Rattle.answer.specs.Told.{told}
use Rattle.formula.specs.Of.{clauses_of}
use Rattle.label.specs.declared.label.Label.{Label}
use Rattle.key.specs.declared.bounded.Bounds.{Bounds}
use Rattle.key.specs.declared.bounded.Bounded.{Bounded as BoundedKey}
use Rattle.key.specs.Requests.{Limits, limits}
use Rattle.key.specs.Meanings.{Meaning, plain, robust, bounded}
use Rattle.rules.specs.State.{State}
use Rattle.rules.specs.Step.{Ruled}
use Rattle.words.specs.Formulas.{written}
use Rattle.lines.specs.declared.call.BoundsWords.{BoundsWords}
use Rattle.lines.specs.declared.line_key.LineKey.{LineKey}
use Rattle.lines.specs.declared.line_key.LineKey.TheVariants.{Plain, Robust, Bounded, BoundedRobust}
use Rattle.lines.specs.Forms.{KeyForm}
use Rattle.lines.specs.Obey.{reducing, with_key}

abbrev pub line_meaning : LineKey → Meaning
line_meaning (Plain k) = plain (clauses_of k.formula)
line_meaning (Robust k) = robust k.mode (plain (clauses_of k.below.formula))
line_meaning (Bounded k) = bounded k.mode (limits k.bounds) (plain (clauses_of k.below.formula))
line_meaning (BoundedRobust k) = bounded k.mode (limits k.bounds) (robust k.below.mode (plain (clauses_of k.below.below.formula)))

abbrev pub refusing : State → Refusal → Ruled
refusing t q = record { state = t; answer = told (Refused q) }

-- whatever comes next, it goes on with what was read, or the line is refused so
abbrev pub LabelRead : List ℕ → List ℕ → Result Label Refusal → Type 0
LabelRead s h (Ok l) = (t : State) (next : List ℕ → List ℕ → Ruled) → reducing t s (λ a. reducing t h (λ b. next a b)) ≡ next (clauses_of l.sight.0) (clauses_of l.hand.0)
LabelRead s h (Err q) = (t : State) (next : List ℕ → List ℕ → Ruled) → reducing t s (λ a. reducing t h (λ b. next a b)) ≡ refusing t q

abbrev pub bounding : State → BoundsWords → (Limits → Ruled) → Ruled
bounding t w next =
    reducing t (written w.high.sight) (λ a. reducing t (written w.high.hand) (λ b. reducing t (written w.low.sight) (λ c. reducing t (written w.low.hand) (λ d.
    next (record { high = record { sight = a; hand = b }; low = record { sight = c; hand = d } })))))

abbrev pub BoundsRead : BoundsWords → Result Bounds Refusal → Type 0
BoundsRead w (Ok b) = (t : State) (next : Limits → Ruled) → bounding t w next ≡ next (limits b)
BoundsRead w (Err q) = (t : State) (next : Limits → Ruled) → bounding t w next ≡ refusing t q

-- a key in a bounded wrap
abbrev pub BoundedRead : {K : Type 0} → K → BoundsWords → Result (BoundedKey K) Refusal → Type 0
BoundedRead below w (Ok k) = (k.below ≡ below) × (k.mode ≡ w.mode) × BoundsRead w (Ok k.bounds)
BoundedRead below w (Err q) = BoundsRead w (Err q)

abbrev pub KeyRead : KeyForm → Result LineKey Refusal → Type 0
KeyRead k (Ok key) = (t : State) (next : Meaning → Ruled) → with_key t k next ≡ next (line_meaning key)
KeyRead k (Err q) = (t : State) (next : Meaning → Ruled) → with_key t k next ≡ refusing t q
