-- What a row of bits is read as, field by field: at each first question 19, are all bits present, and
-- then 20, is the content lawful.
use Rattle.std.specs.Prelude.{ℕ, zero, suc, ◌+◌, Bool, cond, List, [], ◌∷◌, length, take, drop, Some, None, Ok, Err, Option, Result, ◌==◌, nat_le, nat_lt}
use Rattle.answer.specs.declared.Refusal.{Refusal}
use Rattle.answer.specs.declared.Answer.TheVariants.{Refused}
use Rattle.answer.specs.Told.{Told, granted, refused, told, question_of}
use Rattle.formula.specs.Keeping.{kept}
use Rattle.label.specs.declared.kind.Kind.{Kind}
use Rattle.label.specs.declared.kind.Kind.TheVariants.{Release, Endorse}
use Rattle.docket.specs.declared.entry.Entry.{Entry}
use Rattle.docket.specs.declared.entry.Found.{Found}
use Rattle.docket.specs.Bits.{unpack, number}
use Rattle.docket.specs.Entries.{Plain, plain_of, asked, brings, pad_size, size_of}

-- an entry, or the number of the question that refuses it
abbrev pub Reading : Type 0
Reading = Result Plain ℕ

-- a field of w bits, and what becomes of its number and the bits behind it; 19 where bits are missing
abbrev pub field : ℕ → List ℕ → (ℕ → List ℕ → Reading) → Reading
field w U next = cond (nat_le w (length U)) (next (number (take w U)) (drop w U)) (Err 19)

-- 20 unless the content is lawful
abbrev pub lawful : Bool → Reading → Reading
lawful b next = cond b next (Err 20)

-- n groups or clauses
abbrev pub words_at : ℕ → List ℕ → (List ℕ → List ℕ → Reading) → Reading
words_at zero U next = next [] U
words_at (suc n) U next = field 16 U (λ v V. words_at n V (λ vs W. next (v ∷ vs) W))

-- the question that refused the call, and the group that it brings
abbrev pub question_at : List ℕ → (Told → List ℕ → Reading) → Reading
question_at U next = field 5 U (λ q V. lawful (asked q) (words_at (brings q) V (λ vs W. next (refused q vs) W)))

-- what the call was answered
abbrev pub answer_at : List ℕ → (Told → List ℕ → Reading) → Reading
answer_at U next = field 1 U (λ b V. cond (b == 1) (next (granted []) V) (question_at V next))

-- the new formula, judged after its last clause
abbrev pub formula_at : List ℕ → (List ℕ → List ℕ → Reading) → Reading
formula_at U next = field 4 U (λ n V. lawful (nat_le n 8) (words_at n V (λ cs W. lawful (kept cs) (next cs W))))

-- zero bits to the byte's end
abbrev pub pad_at : Plain → List ℕ → Reading
pad_at e U = field (pad_size e.answer) U (λ p V. lawful (p == 0) (Ok e))

abbrev pub kind_of : ℕ → Kind
kind_of zero = Release
kind_of (suc n) = Endorse

abbrev pub made : ℕ → ℕ → ℕ → Told → List ℕ → Plain
made k t r a cs = record { kind = kind_of k; task = t; «record» = r; answer = a; new = cs }

abbrev pub new_at : ℕ → ℕ → ℕ → Told → List ℕ → Reading
new_at k t r a U = formula_at U (λ cs V. pad_at (made k t r a cs) V)

abbrev pub told_at : ℕ → ℕ → ℕ → List ℕ → Reading
told_at k t r U = answer_at U (new_at k t r)

abbrev pub record_at : ℕ → ℕ → List ℕ → Reading
record_at k t U = field 6 U (told_at k t)

abbrev pub task_at : ℕ → List ℕ → Reading
task_at k U = field 3 U (record_at k)

-- the entry that a row of bits begins with
abbrev pub entry_at : List ℕ → Reading
entry_at U = field 1 U task_at

-- what stands at a place of the docket: an entry, and the place of the next; or that the docket is
-- over; or that reading is refused
pub data Standing : Type 0 where
  entry : Plain → ℕ → Standing
  over : Standing
  refusal : ℕ → Standing

abbrev pub placed_at : ℕ → Reading → Standing
placed_at place (Ok e) = entry e (place + size_of e)
placed_at place (Err q) = refusal q

abbrev pub read_at : List ℕ → ℕ → Standing
read_at bytes place =
    cond (nat_lt (length bytes) place) (refusal 19)
    (cond (place == length bytes) over (placed_at place (entry_at (unpack (drop place bytes)))))

-- the number of the question that had the answer no
abbrev pub number_of : Refusal → ℕ
number_of q = question_of (told (Refused q))

abbrev pub standing : Result (Option Found) Refusal → Standing
standing (Ok (Some f)) = entry (plain_of f.entry) f.next
standing (Ok None) = over
standing (Err q) = refusal (number_of q)

abbrev pub reading : Result Entry Refusal → Reading
reading (Ok e) = Ok (plain_of e)
reading (Err q) = Err (number_of q)
