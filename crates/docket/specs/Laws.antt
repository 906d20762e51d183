-- What the reading of a docket has to do with the writing: laws over entries and whole dockets.
use Rattle.std.specs.Prelude.{◌≡◌, ℕ, ◌+◌, ◌<◌, ◌≤◌, true, ◌↔◌, List, [], ◌∷◌, ◌++◌, length, take, drop, ◌≢◌}
use Rattle.std.specs.List.{AllByRecursion}
use Rattle.answer.specs.Told.{Told, granted, refused}
use Rattle.formula.specs.Keeping.{kept}
use Rattle.docket.specs.Bits.{unpack}
use Rattle.docket.specs.Entries.{Plain, carries, answer_bits, answer_size, size_of, entry_bits, entry_bytes}
use Rattle.docket.specs.Writing.{written}
use Rattle.docket.specs.Reading.{Standing, entry, over, refusal, read_at}

-- each is a byte
abbrev pub Bytes : List ℕ → Type 0
Bytes = AllByRecursion (λ b. b < 256)

-- each is a set of the sixteen parties
abbrev pub Sets : List ℕ → Type 0
Sets = AllByRecursion (λ v. v < 65536)

abbrev pub values_of : Told → List ℕ
values_of (granted vs) = vs
values_of (refused q vs) = vs

-- an entry that the docket carries
pub record Carried (e : Plain) : Type 0 where
  pub fields : carries e ≡ true
  pub form : kept e.new ≡ true
  pub groups : Sets (values_of e.answer)
  pub clauses : Sets e.new

-- an entry's bytes are its bits, from end to end; the longest has 21 bytes
abbrev pub BytesAreBits : Type 0
BytesAreBits =
    (e : Plain) → (unpack (entry_bytes e) ≡ entry_bits e) × (length (entry_bytes e) ≡ size_of e) × (Carried e → size_of e ≤ 21)

-- an answer takes as many bits as is said of it
abbrev pub AnswersSized : Type 0
AnswersSized = (a : Told) → length (answer_bits a) ≡ answer_size a

-- what is written is read back, whatever stands before and after it
abbrev pub EntryReadsBack : Type 0
EntryReadsBack =
    (e : Plain) (before after : List ℕ) → Carried e
    → read_at (before ++ (entry_bytes e ++ after)) (length before) ≡ entry e (length before + size_of e)

-- an entry that was found at a place is byte for byte what the writer makes of it
pub record Stood (bytes : List ℕ) (place : ℕ) (e : Plain) (next : ℕ) : Type 0 where
  pub carried : Carried e
  pub ends : next ≡ place + size_of e
  pub inside : next ≤ length bytes
  pub same : take (size_of e) (drop place bytes) ≡ entry_bytes e

abbrev pub ReadWasWritten : Type 0
ReadWasWritten = (bytes : List ℕ) (place : ℕ) (e : Plain) (next : ℕ) → Bytes bytes → read_at bytes place ≡ entry e next → Stood bytes place e next

-- two entries never have the same bytes
abbrev pub ToldApart : Type 0
ToldApart = (d e : Plain) → Carried d → Carried e → entry_bytes d ≡ entry_bytes e → d ≡ e

-- a docket: entries one after another
abbrev pub docket_bytes : List Plain → List ℕ
docket_bytes [] = []
docket_bytes (e ∷ es) = entry_bytes e ++ docket_bytes es

-- reading on from a place gives these entries, each with the place of the next, and then that the
-- docket is over
abbrev pub ReadsOn : List ℕ → ℕ → List Plain → Type 0
ReadsOn bytes place [] = read_at bytes place ≡ over
ReadsOn bytes place (e ∷ es) = (read_at bytes place ≡ entry e (place + size_of e)) × ReadsOn bytes (place + size_of e) es

-- a whole docket is read back, whatever stands before it
abbrev pub DocketReadsBack : Type 0
DocketReadsBack = (es : List Plain) (before : List ℕ) → AllByRecursion Carried es → ReadsOn (before ++ docket_bytes es) (length before) es

-- and what is read to the end is a whole docket
abbrev pub DocketWasWritten : Type 0
DocketWasWritten =
    (bytes : List ℕ) (place : ℕ) (es : List Plain) → Bytes bytes → ReadsOn bytes place es → AllByRecursion Carried es × (drop place bytes ≡ docket_bytes es)

-- entries written one after another from a place on
abbrev pub written_all : List Plain → ℕ → List ℕ → List ℕ
written_all [] place bytes = bytes
written_all (e ∷ es) place bytes = written_all es (place + size_of e) (written e place bytes)

abbrev pub docket_size : List Plain → ℕ
docket_size [] = 0
docket_size (e ∷ es) = size_of e + docket_size es

-- written one after another into a buffer that has room for all, they leave every other byte, and read
-- back as that list up to their end, where the docket is over
abbrev pub WrittenReadsBack : Type 0
WrittenReadsBack =
    (es : List Plain) (place : ℕ) (bytes : List ℕ) → AllByRecursion Carried es → place + docket_size es ≤ length bytes
    → (written_all es place bytes ≡ take place bytes ++ (docket_bytes es ++ drop (place + docket_size es) bytes))
    × ReadsOn (take (place + docket_size es) (written_all es place bytes)) place es

-- inside the docket, 19 is the answer exactly where bytes to follow could change it
abbrev pub MissingWhereMoreMatters : Type 0
MissingWhereMoreMatters =
    (bytes : List ℕ) (place : ℕ) → place < length bytes
    → (read_at bytes place ≡ refusal 19) ↔ ((more : List ℕ) × (read_at (bytes ++ more) place ≢ read_at bytes place))

-- all of them
pub record DocketLaws : Type 0 where
  pub bytes_are_bits : BytesAreBits
  pub answers_sized : AnswersSized
  pub reads_back : EntryReadsBack
  pub read_was_written : ReadWasWritten
  pub told_apart : ToldApart
  pub docket_reads_back : DocketReadsBack
  pub docket_was_written : DocketWasWritten
  pub written_reads_back : WrittenReadsBack
  pub missing : MissingWhereMoreMatters

-- what the answer of the reader says of the bytes that it read
abbrev pub WasWritten : List ℕ → ℕ → Standing → Type 0
WasWritten bytes place (entry e next) = Stood bytes place e next
WasWritten bytes place over = place ≡ length bytes
WasWritten bytes place (refusal q) = Unit {0}
