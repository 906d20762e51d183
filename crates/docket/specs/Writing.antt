-- What the writer answers and what it leaves in the buffer.
use Rattle.std.specs.Prelude.{◌≡◌, ℕ, ◌+◌, Bool, cond, List, [], ◌∷◌, ◌++◌, length, take, drop, Ok, Err, Result, nat_le}
use Rattle.answer.specs.declared.Refusal.{Refusal}
use Rattle.answer.specs.Told.{Told, granted, refused}
use Rattle.docket.specs.Entries.{Plain, carries, size_of, entry_bytes}
use Rattle.docket.specs.Reading.{entry, read_at}

-- the value that the writer answers: the next place
abbrev pub next_place : ℕ → List ℕ
next_place n = n ∷ []

-- the entry fits between the place and the buffer's end
abbrev pub room_for : Plain → ℕ → List ℕ → Bool
room_for e place bytes = nat_le (place + size_of e) (length bytes)

-- question 18, and then the entry's bytes
abbrev pub packing : Plain → Told
packing e = cond (carries e) (granted (entry_bytes e)) (refused 18 [])

-- questions 18 and 17, and then the next place
abbrev pub writing : Plain → ℕ → List ℕ → Told
writing e place bytes =
    cond (carries e) (cond (room_for e place bytes) (granted (next_place (place + size_of e))) (refused 17 [])) (refused 18 [])

-- the entry's bytes from the place on, and all other bytes as they were; a refusal leaves every byte
abbrev pub written : Plain → ℕ → List ℕ → List ℕ
written e place bytes =
    cond (carries e)
    (cond (room_for e place bytes) (take place bytes ++ (entry_bytes e ++ drop (place + size_of e) bytes)) bytes) bytes

-- what was written is read back from the place, up to the place that was answered
abbrev pub ReadsBack : Plain → ℕ → List ℕ → Result ℕ Refusal → Type 0
ReadsBack e place bytes (Ok next) = read_at bytes place ≡ entry e next
ReadsBack e place bytes (Err q) = Unit {0}
