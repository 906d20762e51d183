-- The forms of a line: which words it has, and which call they write.
use Rattle.std.specs.Prelude.{ℕ, cond, List, [], ◌∷◌, length, Some, None, codes, Option, ◌==◌, nat_le}
use Rattle.std.specs.Str.{bytes_eq}
use Rattle.key.specs.declared.mode.Mode.{Mode}
use Rattle.words.specs.Hex.{hex_four}
use Rattle.words.specs.Modes.{mode_of}
use Rattle.words.specs.Decimal.{decimal}
use Rattle.words.specs.Formulas.{formula_of}
use Rattle.words.specs.Parted.{parted}

-- a key as it is written: its plain formula, and the wraps around it
pub data KeyForm : Type 0 where
  plains : List ℕ → KeyForm
  robusts : Mode → KeyForm → KeyForm
  -- mode, high sight and hand, low sight and hand
  boundeds : Mode → List ℕ → List ℕ → List ℕ → List ℕ → KeyForm → KeyForm

-- a call as it is written, each formula as the list of its clauses
pub data Form : Type 0 where
  enters : ℕ → ℕ → ℕ → List ℕ → List ℕ → Form
  opens : ℕ → ℕ → Form
  closes : ℕ → Form
  takes : ℕ → ℕ → ℕ → Form
  puts : ℕ → ℕ → Form
  drops : ℕ → ℕ → Form
  shows : ℕ → ℕ → Form
  releases : ℕ → ℕ → List ℕ → KeyForm → Form
  endorses : ℕ → ℕ → List ℕ → KeyForm → Form

abbrev pub Words : Type 0
Words = List (List ℕ)

abbrev pub given : {A : Type 0} → Option A → (A → Option Form) → Option Form
given None next = None
given (Some x) next = next x

-- one word of a kind, and what becomes of it and of the words behind it
abbrev pub one : {A : Type 0} → (List ℕ → Option A) → Words → (A → Words → Option Form) → Option Form
one kind [] next = None
one kind (w ∷ ws) next = given (kind w) (λ x. next x ws)

-- no word is left
abbrev pub ends : Form → Words → Option Form
ends c [] = Some c
ends c (w ∷ ws) = None

-- enter RECORD PARTY FIGURE SIGHT HAND
abbrev pub enter_form : Words → Option Form
enter_form ws =
    one decimal ws (λ r v. one decimal v (λ p u. one decimal u (λ f t. one formula_of t (λ s q. one formula_of q (λ h. ends (enters r p f s h))))))

-- open TASK PARTY
abbrev pub open_form : Words → Option Form
open_form ws = one decimal ws (λ t v. one decimal v (λ p. ends (opens t p)))

-- close TASK
abbrev pub close_form : Words → Option Form
close_form ws = one decimal ws (λ t. ends (closes t))

-- take TASK RECORD MANNER
abbrev pub take_form : Words → Option Form
take_form ws = one decimal ws (λ t v. one decimal v (λ r u. one decimal u (λ m. ends (takes t r m))))

-- put TASK RECORD
abbrev pub put_form : Words → Option Form
put_form ws = one decimal ws (λ t v. one decimal v (λ r. ends (puts t r)))

-- drop TASK RECORD
abbrev pub drop_form : Words → Option Form
drop_form ws = one decimal ws (λ t v. one decimal v (λ r. ends (drops t r)))

-- show RECORD GROUP
abbrev pub show_form : Words → Option Form
show_form ws = one decimal ws (λ r v. one hex_four v (λ g. ends (shows r g)))

-- MODE HIGH-SIGHT HIGH-HAND LOW-SIGHT LOW-HAND
abbrev pub bounded_form : KeyForm → Words → (KeyForm → Words → Option Form) → Option Form
bounded_form k ws next =
    one mode_of ws (λ m v. one formula_of v (λ hs u. one formula_of u (λ hh t. one formula_of t (λ ls s. one formula_of s (λ lh. next (boundeds m hs hh ls lh k))))))

-- MODE
abbrev pub robust_form : KeyForm → Words → (KeyForm → Words → Option Form) → Option Form
robust_form k ws next = one mode_of ws (λ m. next (robusts m k))

-- code 0 is plain, 1 robust, 2 bounded, 3 bounded over robust
abbrev pub wraps : ℕ → KeyForm → Words → (KeyForm → Words → Option Form) → Option Form
wraps code k ws next =
    cond (code == 0) (next k ws)
    (cond (code == 1) (robust_form k ws next)
    (cond (code == 2) (bounded_form k ws next) (cond (code == 3) (robust_form k ws (λ j v. bounded_form j v next)) None)))

-- CODE PLAIN, then what the wraps add
abbrev pub key_form : Words → (KeyForm → Words → Option Form) → Option Form
key_form ws next = one decimal ws (λ code v. one formula_of v (λ f u. wraps code (plains f) u next))

-- release TASK RECORD FORMULA KEY
abbrev pub release_form : Words → Option Form
release_form ws = one decimal ws (λ t v. one decimal v (λ r u. one formula_of u (λ f s. key_form s (λ k. ends (releases t r f k)))))

-- endorse TASK RECORD FORMULA KEY
abbrev pub endorse_form : Words → Option Form
endorse_form ws = one decimal ws (λ t v. one decimal v (λ r u. one formula_of u (λ f s. key_form s (λ k. ends (endorses t r f k)))))

-- the form that the first word names
abbrev pub form_named : List ℕ → Words → Option Form
form_named w ws =
    cond (bytes_eq w (codes "enter")) (enter_form ws)
    (cond (bytes_eq w (codes "open")) (open_form ws)
    (cond (bytes_eq w (codes "close")) (close_form ws)
    (cond (bytes_eq w (codes "take")) (take_form ws)
    (cond (bytes_eq w (codes "put")) (put_form ws)
    (cond (bytes_eq w (codes "drop")) (drop_form ws)
    (cond (bytes_eq w (codes "show")) (show_form ws)
    (cond (bytes_eq w (codes "release")) (release_form ws)
    (cond (bytes_eq w (codes "endorse")) (endorse_form ws)
    None))))))))

abbrev pub named_form : Words → Option Form
named_form [] = None
named_form (w ∷ ws) = form_named w ws

-- what a line of at most 4,096 bytes writes: its words are parted by single spaces (byte 32)
abbrev pub form_of : List ℕ → Option Form
form_of line = cond (nat_le (length line) 4096) (named_form (parted 32 line)) None
