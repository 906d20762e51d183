-- An entry of the docket: in plain values, as a row of bits, and as bytes.
use Rattle.std.specs.Prelude.{ℕ, ◌+◌, ◌*◌, Bool, cond, ◌&&◌, ◌||◌, List, [], ◌∷◌, ◌++◌, length, ◌==◌, nat_le, nat_lt}
use Rattle.answer.specs.Told.{Told, granted, refused, says, nothing}
use Rattle.formula.specs.Of.{clauses_of}
use Rattle.label.specs.declared.kind.Kind.{Kind}
use Rattle.label.specs.Kinds.{kind_bit}
use Rattle.docket.specs.declared.entry.Entry.{Entry}
use Rattle.docket.specs.Bits.{bits, packed}

-- the kind of request, the task and the record by number, what the call was answered, and the
-- clauses of the new formula
pub record Plain : Type 0 where
  pub kind : Kind
  pub task : ℕ
  pub «record» : ℕ
  pub answer : Told
  pub new : List ℕ

abbrev pub plain_of : Entry → Plain
plain_of e =
    record { kind = e.kind; task = e.task; «record» = e.«record»; answer = says nothing e.answer; new = clauses_of e.new }

-- the questions that a release or an endorsement of a known task and record can be refused by
abbrev pub asked : ℕ → Bool
asked q = q == 5 || (q == 6 || (nat_le 12 q && nat_le q 16))

-- how many values a refusal brings: question 16 a group
abbrev pub brings : ℕ → ℕ
brings q = cond (q == 16) 1 0

-- an answer that an entry can carry
abbrev pub carries_answer : Told → Bool
carries_answer (granted vs) = length vs == 0
carries_answer (refused q vs) = asked q && length vs == brings q

-- each field can be carried
abbrev pub carries : Plain → Bool
carries e = nat_lt e.task 8 && (nat_lt e.«record» 64 && carries_answer e.answer)

-- groups or clauses, 16 bits each
abbrev pub words : List ℕ → List ℕ
words [] = []
words (v ∷ vs) = bits 16 v ++ words vs

-- granted is 1; refused is 0, the question, and the group that it brings
abbrev pub answer_bits : Told → List ℕ
answer_bits (granted vs) = bits 1 1
answer_bits (refused q vs) = bits 1 0 ++ (bits 5 q ++ words vs)

abbrev pub answer_size : Told → ℕ
answer_size (granted vs) = 1
answer_size (refused q vs) = 6 + 16 * length vs

-- how many bits are left to the byte's end: beside groups and clauses, which fill whole bytes, 15 bits
-- stand before them in a granted entry, and 20 in a refused one
abbrev pub pad_size : Told → ℕ
pad_size (granted vs) = 1
pad_size (refused q vs) = 4

-- the clause count and the clauses
abbrev pub formula_bits : List ℕ → List ℕ
formula_bits cs = bits 4 (length cs) ++ words cs

-- the whole entry, with zero bits to the byte's end
abbrev pub entry_bits : Plain → List ℕ
entry_bits e =
    bits 1 (kind_bit e.kind)
    ++ (bits 3 e.task ++ (bits 6 e.«record» ++ (answer_bits e.answer ++ (formula_bits e.new ++ bits (pad_size e.answer) 0))))

-- how many bytes an entry takes beside its clauses
abbrev pub head_size : Told → ℕ
head_size (granted vs) = 2
head_size (refused q vs) = 3 + 2 * length vs

-- how many bytes an entry takes
abbrev pub size_of : Plain → ℕ
size_of e = head_size e.answer + 2 * length e.new

abbrev pub entry_bytes : Plain → List ℕ
entry_bytes e = packed (size_of e) (entry_bits e)
