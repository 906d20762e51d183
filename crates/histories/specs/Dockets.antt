-- The docket: entries as bytes, bytes as entries, and whole dockets.
use Rattle.std.specs.Prelude.{◌≡◌, ℕ, ◌≤◌, Bool, true, false, List, [], ◌∷◌, ◌++◌, map, length, take, Some, None, Ok, Err, ◌≢◌, codes}
use Rattle.std.specs.List.{AllByRecursion}
use Rattle.answer.specs.declared.Denial.TheVariants.{NotCovered}
use Rattle.answer.specs.declared.Refusal.TheVariants.{Denied, Missing, Unlawful}
use Rattle.answer.specs.Told.{Told, granted, refused, says, nothing}
use Rattle.formula.specs.Of.{clauses_of}
use Rattle.label.specs.declared.kind.Kind.{Kind}
use Rattle.label.specs.declared.kind.Kind.TheVariants.{Release, Endorse}
use Rattle.docket.specs.declared.entry.Entry.{Entry}
use Rattle.docket.specs.declared.entry.Found.{Found}
use Rattle.label.specs.Kinds.{kind_bit, kind_text}
use Rattle.docket.specs.Text.{entry_text}
use Rattle.docket.specs.Bits.{bits, unpack, number, packed}
use Rattle.docket.specs.Entries.{Plain, plain_of, carries_answer, carries, words, answer_bits, answer_size, formula_bits, entry_bits, size_of, entry_bytes}
use Rattle.docket.specs.Reading.{Standing, entry, over, refusal, read_at, number_of, standing, reading}
use Rattle.docket.specs.Writing.{room_for, packing, writing, written, ReadsBack}
use Rattle.docket.specs.Laws.{Bytes, Sets, values_of, Carried, Stood, docket_bytes, ReadsOn, written_all, docket_size, DocketLaws, WasWritten}

-- kind, task, record, answer and the new formula
abbrev pub plain : Kind → ℕ → ℕ → Told → List ℕ → Plain
plain k t r a new = record { kind = k; task = t; «record» = r; answer = a; new = new }

-- a release of record 5 to 0003, by task 2, granted
abbrev pub granting : Plain
granting = plain Release 2 5 (granted []) (3 ∷ [])

-- a release of record 0 to T, by task 0, refused at 16 with 0001
abbrev pub steered : Plain
steered = plain Release 0 0 (refused 16 (1 ∷ [])) []

-- an endorsement of record 63 to 0002.0101, by task 7, refused at 12
abbrev pub uncovered : Plain
uncovered = plain Endorse 7 63 (refused 12 []) (2 ∷ 257 ∷ [])

-- an entry, and its bytes
abbrev pub entries : List (Plain × List ℕ)
entries =
    (granting, 33 ∷ 98 ∷ 0 ∷ 6 ∷ [])
    ∷ (steered, 0 ∷ 16 ∷ 0 ∷ 1 ∷ 0 ∷ [])
    ∷ (uncovered, 255 ∷ 204 ∷ 32 ∷ 0 ∷ 32 ∷ 16 ∷ 16 ∷ [])
    ∷ []

-- bytes and a place, and what stands there
abbrev pub readings : List ((List ℕ × ℕ) × Standing)
readings =
    ((33 ∷ 98 ∷ 0 ∷ 6 ∷ [], 0), entry granting 4)
    ∷ ((9 ∷ 33 ∷ 98 ∷ 0 ∷ 6 ∷ 7 ∷ [], 1), entry granting 5)
    ∷ ((0 ∷ 16 ∷ 0 ∷ 1 ∷ 0 ∷ [], 0), entry steered 5)
    ∷ ((255 ∷ 204 ∷ 32 ∷ 0 ∷ 32 ∷ 16 ∷ 16 ∷ [], 0), entry uncovered 7)
    -- eight clauses
    ∷ ((33 ∷ 112 ∷ 0 ∷ 2 ∷ 0 ∷ 4 ∷ 0 ∷ 8 ∷ 0 ∷ 16 ∷ 0 ∷ 32 ∷ 0 ∷ 64 ∷ 0 ∷ 128 ∷ 1 ∷ 0 ∷ [], 0), entry (plain Release 2 5 (granted []) (1 ∷ 2 ∷ 4 ∷ 8 ∷ 16 ∷ 32 ∷ 64 ∷ 128 ∷ [])) 18)
    -- over at the exact end, and nothing beyond it
    ∷ (([], 0), over)
    ∷ ((33 ∷ 98 ∷ 0 ∷ 6 ∷ [], 4), over)
    ∷ ((33 ∷ 98 ∷ 0 ∷ 6 ∷ [], 5), refusal 19)
    -- a byte is missing
    ∷ ((33 ∷ 98 ∷ 0 ∷ [], 0), refusal 19)
    ∷ ((33 ∷ [], 0), refusal 19)
    ∷ ((0 ∷ 16 ∷ 0 ∷ [], 0), refusal 19)
    ∷ ((33 ∷ 100 ∷ 0 ∷ 6 ∷ 0 ∷ [], 0), refusal 19)
    -- a question that is not named, a count of 9, no kept form, a bit set in the padding
    ∷ ((0 ∷ 7 ∷ [], 0), refusal 20)
    ∷ ((33 ∷ 114 ∷ [], 0), refusal 20)
    ∷ ((33 ∷ 100 ∷ 0 ∷ 6 ∷ 0 ∷ 2 ∷ [], 0), refusal 20)
    ∷ ((33 ∷ 98 ∷ 0 ∷ 7 ∷ [], 0), refusal 20)
    ∷ ((0 ∷ 16 ∷ 0 ∷ 1 ∷ 1 ∷ [], 0), refusal 20)
    ∷ []

-- which answers can be carried
abbrev pub answers : List (Told × Bool)
answers =
    (granted [], true)
    ∷ (granted (7 ∷ []), false)
    ∷ (refused 3 [], false)
    ∷ (refused 4 [], false)
    ∷ (refused 5 [], true)
    ∷ (refused 6 [], true)
    ∷ (refused 7 [], false)
    ∷ (refused 11 [], false)
    ∷ (refused 12 [], true)
    ∷ (refused 15 [], true)
    ∷ (refused 16 (1 ∷ []), true)
    ∷ (refused 16 [], false)
    ∷ (refused 12 (1 ∷ []), false)
    ∷ (refused 17 [], false)
    ∷ []

abbrev pub five : List ℕ
five = 9 ∷ 9 ∷ 9 ∷ 9 ∷ 9 ∷ []

pub record Written : Type 0 where
  pub entry_bytes_row : map (λ row. entry_bytes row.0) entries ≡ map (λ row. row.1) entries
  pub sizes : map (λ row. size_of row.0) entries ≡ 4 ∷ 5 ∷ 7 ∷ []
  pub carried : map (λ row. carries_answer row.0) answers ≡ map (λ row. row.1) answers
  pub last_task : carries (plain Release 7 63 (granted []) []) ≡ true
  pub no_task : carries (plain Release 8 63 (granted []) []) ≡ false
  pub no_record : carries (plain Release 7 64 (granted []) []) ≡ false
  pub no_answer : carries (plain Release 7 63 (refused 9 []) []) ≡ false
  -- most significant bit first
  pub three_bits : bits 3 6 ≡ 1 ∷ 1 ∷ 0 ∷ []
  pub low_bits : bits 2 6 ≡ 1 ∷ 0 ∷ []
  pub two_bytes : unpack (5 ∷ 128 ∷ []) ≡ 0 ∷ 0 ∷ 0 ∷ 0 ∷ 0 ∷ 1 ∷ 0 ∷ 1 ∷ 1 ∷ 0 ∷ 0 ∷ 0 ∷ 0 ∷ 0 ∷ 0 ∷ 0 ∷ []
  pub their_number : number (1 ∷ 1 ∷ 0 ∷ []) ≡ 6
  pub packed_again : packed 2 (unpack (5 ∷ 128 ∷ [])) ≡ 5 ∷ 128 ∷ []
  pub packed_first : packed 1 (unpack (5 ∷ 128 ∷ [])) ≡ 5 ∷ []
  pub word_bits : words (1 ∷ 2 ∷ []) ≡ bits 16 1 ++ bits 16 2
  pub granted_size : answer_size (granted []) ≡ 1
  pub refused_size : answer_size (refused 16 (1 ∷ [])) ≡ 22
  pub granted_bits : length (answer_bits (granted [])) ≡ 1
  pub refused_bits : answer_bits (refused 12 []) ≡ 0 ∷ 0 ∷ 1 ∷ 1 ∷ 0 ∷ 0 ∷ []
  pub formula_bits_row : take 4 (formula_bits (1 ∷ 2 ∷ [])) ≡ 0 ∷ 0 ∷ 1 ∷ 0 ∷ []
  -- the entry's bytes, or that it cannot be carried
  pub packs : packing granting ≡ granted (33 ∷ 98 ∷ 0 ∷ 6 ∷ [])
  pub packs_none : packing (plain Release 8 0 (granted []) []) ≡ refused 18 []
  -- what is printed of an entry, and the bit of a kind
  pub printed : map (λ row. entry_text row.0) entries ≡ codes "release 2 5 ok 0003" ∷ codes "release 0 0 16 0001 T" ∷ codes "endorse 7 63 12 0002.0101" ∷ []
  pub release_bit : kind_bit Release ≡ 0
  pub endorse_bit : kind_bit Endorse ≡ 1
  pub release_text : kind_text Release ≡ codes "release"
  pub endorse_text : kind_text Endorse ≡ codes "endorse"
  -- the writer's answer and its bytes
  pub writes : writing granting 1 five ≡ granted (5 ∷ [])
  pub no_room : writing granting 2 five ≡ refused 17 []
  pub not_carried : writing (plain Release 8 0 (granted []) []) 9 five ≡ refused 18 []
  pub bytes_written : written granting 1 (9 ∷ 9 ∷ 9 ∷ 9 ∷ 9 ∷ 8 ∷ []) ≡ 9 ∷ 33 ∷ 98 ∷ 0 ∷ 6 ∷ 8 ∷ []
  pub none_written : written granting 2 five ≡ five
  pub none_carried : written (plain Release 8 0 (granted []) []) 0 five ≡ five
  pub just_room : room_for granting 1 five ≡ true
  pub short_room : room_for granting 2 five ≡ false
  pub reads_back : ReadsBack granting 0 (33 ∷ 98 ∷ 0 ∷ 6 ∷ []) (Ok 4)
  pub reads_otherwise : ReadsBack granting 0 (33 ∷ 98 ∷ 0 ∷ 6 ∷ []) (Ok 5) → ⊥
  pub refused_reads : ReadsBack granting 0 [] (Err Missing)

pub record Readings : Type 0 where
  pub readings : map (λ row. read_at row.0.0 row.0.1) readings ≡ map (λ row. row.1) readings
  pub question_number : number_of (Denied NotCovered) ≡ 12
  pub found : (f : Found) → standing (Ok (Some f)) ≡ entry (plain_of f.entry) f.next
  pub found_over : standing (Ok None) ≡ over
  pub unread : standing (Err Missing) ≡ refusal 19
  pub reading_entry : (e : Entry) → reading (Ok e) ≡ Ok (plain_of e)
  pub reading_none : reading (Err Unlawful) ≡ Err 20
  pub plain_kind : (e : Entry) → (plain_of e).kind ≡ e.kind
  pub plain_task : (e : Entry) → (plain_of e).task ≡ e.task
  pub plain_record : (e : Entry) → (plain_of e).«record» ≡ e.«record»
  pub plain_answer : (e : Entry) → (plain_of e).answer ≡ says nothing e.answer
  pub plain_new : (e : Entry) → (plain_of e).new ≡ clauses_of e.new

abbrev pub docket : List ℕ
docket = 33 ∷ 98 ∷ 0 ∷ 6 ∷ 0 ∷ 16 ∷ 0 ∷ 1 ∷ 0 ∷ []

pub record Whole : Type 0 where
  pub bytes : Bytes (255 ∷ [])
  pub no_byte : Bytes (256 ∷ []) → ⊥
  pub sets : Sets (65535 ∷ [])
  pub no_set : Sets (65536 ∷ []) → ⊥
  pub values_granted : values_of (granted (7 ∷ [])) ≡ 7 ∷ []
  pub values_refused : values_of (refused 16 (1 ∷ [])) ≡ 1 ∷ []
  -- an entry that the docket carries
  pub carried : Carried granting
  pub fields_not : Carried (plain Release 8 0 (granted []) []) → ⊥
  pub form_not : Carried (plain Release 0 0 (granted []) (3 ∷ 1 ∷ [])) → ⊥
  pub groups_not : Carried (plain Release 0 0 (refused 16 (65536 ∷ [])) []) → ⊥
  pub clauses_not : Carried (plain Release 0 0 (granted []) (65536 ∷ [])) → ⊥
  -- an entry that was found stands there, byte for byte
  pub stood : Stood (9 ∷ 33 ∷ 98 ∷ 0 ∷ 6 ∷ 7 ∷ []) 1 granting 5
  pub ends_elsewhere : Stood (9 ∷ 33 ∷ 98 ∷ 0 ∷ 6 ∷ 7 ∷ []) 1 granting 6 → ⊥
  pub other_bytes : Stood (9 ∷ 33 ∷ 98 ∷ 0 ∷ 8 ∷ 7 ∷ []) 1 granting 5 → ⊥
  pub docket_bytes_row : docket_bytes (granting ∷ steered ∷ []) ≡ docket
  pub docket_size_row : docket_size (granting ∷ steered ∷ []) ≡ 9
  pub reads_on : ReadsOn docket 0 (granting ∷ steered ∷ [])
  pub reads_less : ReadsOn docket 0 (granting ∷ []) → ⊥
  pub reads_other : ReadsOn docket 0 (steered ∷ granting ∷ []) → ⊥
  pub written_all_row : written_all (granting ∷ steered ∷ []) 1 (8 ∷ (five ++ five)) ≡ 8 ∷ (docket ++ (9 ∷ []))
  pub was_written : WasWritten (9 ∷ 33 ∷ 98 ∷ 0 ∷ 6 ∷ 7 ∷ []) 1 (entry granting 5)
  pub was_over : WasWritten (9 ∷ []) 1 over
  pub was_not_over : WasWritten (9 ∷ []) 0 over → ⊥
  pub was_refused : WasWritten [] 9 (refusal 19)
  -- the laws
  pub law_bits : DocketLaws → unpack (33 ∷ 98 ∷ 0 ∷ 6 ∷ []) ≡ entry_bits granting
  pub law_length : DocketLaws → length (entry_bytes steered) ≡ 5
  pub law_answer : DocketLaws → length (answer_bits (refused 16 (1 ∷ []))) ≡ 22
  pub law_longest : DocketLaws → (e : Plain) → Carried e → size_of e ≤ 21
  pub law_reads : DocketLaws → read_at (9 ∷ 33 ∷ 98 ∷ 0 ∷ 6 ∷ 7 ∷ []) 1 ≡ entry granting 5
  pub law_stood : DocketLaws → Stood (33 ∷ 98 ∷ 0 ∷ 6 ∷ []) 0 granting 4
  pub law_apart : DocketLaws → (e : Plain) → Carried e → entry_bytes e ≡ 33 ∷ 98 ∷ 0 ∷ 6 ∷ [] → e ≡ granting
  pub law_docket : DocketLaws → ReadsOn (9 ∷ (33 ∷ 98 ∷ 0 ∷ 6 ∷ [])) 1 (granting ∷ [])
  pub law_docket_carried : DocketLaws → AllByRecursion Carried (granting ∷ [])
  pub law_docket_bytes : DocketLaws → (es : List Plain) → ReadsOn (33 ∷ []) 0 es → 33 ∷ [] ≡ docket_bytes es
  pub law_written : DocketLaws → written_all (granting ∷ []) 1 (8 ∷ five) ≡ 8 ∷ 33 ∷ 98 ∷ 0 ∷ 6 ∷ 9 ∷ []
  pub law_written_reads : DocketLaws → ReadsOn (8 ∷ 33 ∷ 98 ∷ 0 ∷ 6 ∷ []) 1 (granting ∷ [])
  pub law_missing : DocketLaws → read_at (33 ∷ []) 0 ≡ refusal 19 → (more : List ℕ) × (read_at ((33 ∷ []) ++ more) 0 ≢ read_at (33 ∷ []) 0)
  pub law_more_matters : DocketLaws → (more : List ℕ) → (read_at ((33 ∷ []) ++ more) 0 ≢ read_at (33 ∷ []) 0) → read_at (33 ∷ []) 0 ≡ refusal 19

pub record Dockets : Type 0 where
  pub written : Written
  pub readings : Readings
  pub whole : Whole
