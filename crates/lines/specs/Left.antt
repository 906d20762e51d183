-- What the code holds, as the forms say it.
use Rattle.std.specs.Prelude.{◌≡◌, ℕ, List, [], ◌∷◌, Some, None, Option}
use Rattle.std.specs.Borrow.{Bor}
use Rattle.key.specs.declared.mode.Mode.{Mode}
use Rattle.label.specs.declared.kind.Kind.{Kind}
use Rattle.label.specs.declared.kind.Kind.TheVariants.{Release, Endorse}
use Rattle.words.specs.Formulas.{formula_of, written}
use Rattle.lines.specs.declared.call.Call.{Call}
use Rattle.lines.specs.declared.call.Call.TheVariants.{Enter, Open, Close, Take, Put, Drop, Show, Change}
use Rattle.lines.specs.declared.call.LabelWords.{LabelWords}
use Rattle.lines.specs.declared.call.BoundsWords.{BoundsWords}
use Rattle.lines.specs.declared.call.KeyWords.{KeyWords}
use Rattle.lines.specs.Forms.{Form, enters, opens, closes, takes, puts, drops, shows, releases, endorses, KeyForm, plains, robusts, boundeds, Words, one, ends, bounded_form, key_form, release_form, endorse_form}

-- one word taken
abbrev pub Took : Words → Option (Bor (List ℕ)) → Words → Type 0
Took [] None after = after ≡ []
Took [] (Some w) after = ⊥
Took (w ∷ ws) None after = ⊥
Took (w ∷ ws) (Some v) after = (v.now ≡ w) × (after ≡ ws)

-- one word of a kind taken, whatever follows
abbrev pub Taken : {A : Type 0} → (List ℕ → Option A) → Words → Option A → Words → Type 0
Taken {A} kind ws None after = (next : A → Words → Option Form) → one kind ws next ≡ None
Taken {A} kind ws (Some x) after = (next : A → Words → Option Form) → one kind ws next ≡ next x after

-- the end of a line
abbrev pub Ended : Words → Option (Unit {0}) → Type 0
Ended ws None = (c : Form) → ends c ws ≡ None
Ended ws (Some u) = (c : Form) → ends c ws ≡ Some c

-- what a task and a record write, as one call or another
abbrev pub pair_said : (ℕ → ℕ → Form) → Option (ℕ × ℕ) → Option Form
pair_said call None = None
pair_said call (Some p) = Some (call p.0 p.1)

abbrev pub label_form : Words → (List ℕ → List ℕ → Words → Option Form) → Option Form
label_form ws next = one formula_of ws (λ s v. one formula_of v (λ h. next s h))

abbrev pub LabelTaken : Words → Option LabelWords → Words → Type 0
LabelTaken ws None after = (next : List ℕ → List ℕ → Words → Option Form) → label_form ws next ≡ None
LabelTaken ws (Some l) after = (next : List ℕ → List ℕ → Words → Option Form) → label_form ws next ≡ next (written l.sight) (written l.hand) after

abbrev pub bounds_say : BoundsWords → KeyForm → KeyForm
bounds_say b k = boundeds b.mode (written b.high.sight) (written b.high.hand) (written b.low.sight) (written b.low.hand) k

-- what each wrap adds, where the key has it
abbrev pub robust_say : Option Mode → KeyForm → KeyForm
robust_say None k = k
robust_say (Some m) k = robusts m k

abbrev pub bounded_say : Option BoundsWords → KeyForm → KeyForm
bounded_say None k = k
bounded_say (Some b) k = bounds_say b k

abbrev pub key_say : KeyWords → KeyForm
key_say k = bounded_say k.bounds (robust_say k.robust (plains (written k.plain)))

abbrev pub BoundsTaken : Words → Option BoundsWords → Words → Type 0
BoundsTaken ws None after = (k : KeyForm) (next : KeyForm → Words → Option Form) → bounded_form k ws next ≡ None
BoundsTaken ws (Some b) after = (k : KeyForm) (next : KeyForm → Words → Option Form) → bounded_form k ws next ≡ next (bounds_say b k) after

abbrev pub KeyTaken : Words → Option KeyWords → Words → Type 0
KeyTaken ws None after = (next : KeyForm → Words → Option Form) → key_form ws next ≡ None
KeyTaken ws (Some k) after = (next : KeyForm → Words → Option Form) → key_form ws next ≡ next (key_say k) after

-- a release or an endorsement
abbrev pub changes : Kind → ℕ → ℕ → List ℕ → KeyForm → Form
changes Release t r f k = releases t r f k
changes Endorse t r f k = endorses t r f k

abbrev pub change_form : Kind → Words → Option Form
change_form Release ws = release_form ws
change_form Endorse ws = endorse_form ws

abbrev pub say : Call → Form
say (Enter r p f l) = enters r p f (written l.sight) (written l.hand)
say (Open t p) = opens t p
say (Close t) = closes t
say (Take t r m) = takes t r m
say (Put t r) = puts t r
say (Drop t r) = drops t r
say (Show r g) = shows r g
say (Change kind t r f k) = changes kind t r (written f) (key_say k)

abbrev pub say_in : Option Call → Option Form
say_in None = None
say_in (Some c) = Some (say c)
