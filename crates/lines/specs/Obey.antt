-- What a line does: first its form is asked for, then its formulas are reduced from left to right,
-- then the call is made.
use Rattle.std.specs.Prelude.{ℕ, List, [], ◌∷◌, Some, None, Option}
use Rattle.answer.specs.Told.{Told, granted, refused}
use Rattle.formula.specs.Forms.{reduces}
use Rattle.rules.specs.State.{State}
use Rattle.rules.specs.Step.{Ruled, refuse, entering, opening, closing, taking, putting, dropping, showing, changing}
use Rattle.label.specs.declared.kind.Kind.TheVariants.{Release, Endorse}
use Rattle.key.specs.Meanings.{Meaning, plain, robust, bounded}
use Rattle.lines.specs.Forms.{Form, enters, opens, closes, takes, puts, drops, shows, releases, endorses, KeyForm, plains, robusts, boundeds, form_of}

-- a formula that is refused refuses the line
abbrev pub with_formula : State → Told → (List ℕ → Ruled) → Ruled
with_formula t (granted clauses) next = next clauses
with_formula t (refused q vs) next = record { state = t; answer = refused q vs }

abbrev pub reducing : State → List ℕ → (List ℕ → Ruled) → Ruled
reducing t list next = with_formula t (reduces list) next

-- the key's formulas, too, from left to right
abbrev pub with_key : State → KeyForm → (Meaning → Ruled) → Ruled
with_key t (plains f) next = reducing t f (λ privilege. next (plain privilege))
with_key t (robusts m k) next = with_key t k (λ below. next (robust m below))
with_key t (boundeds m hs hh ls lh k) next =
    with_key t k (λ below. reducing t hs (λ a. reducing t hh (λ b. reducing t ls (λ c. reducing t lh (λ d.
    next (bounded m (record { high = record { sight = a; hand = b }; low = record { sight = c; hand = d } }) below))))))

abbrev pub obeying : State → Form → Ruled
obeying t (enters i p n s h) = reducing t s (λ sight. reducing t h (λ hand. entering t i p n (record { sight = sight; hand = hand })))
obeying t (opens k p) = opening t k p
obeying t (closes k) = closing t k
obeying t (takes k i m) = taking t k i m
obeying t (puts k i) = putting t k i
obeying t (drops k i) = dropping t k i
obeying t (shows i g) = showing t i g
obeying t (releases k i f key) = reducing t f (λ new. with_key t key (λ meaning. changing Release t k i new meaning))
obeying t (endorses k i f key) = reducing t f (λ new. with_key t key (λ meaning. changing Endorse t k i new meaning))

abbrev pub by_form : State → Option Form → Ruled
by_form t None = refuse t 21
by_form t (Some c) = obeying t c

-- what a line leaves and answers
abbrev pub line_ruled : State → List ℕ → Ruled
line_ruled t line = by_form t (form_of line)

abbrev pub values : Option ℕ → List ℕ
values None = []
values (Some n) = n ∷ []
