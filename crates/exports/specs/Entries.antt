-- What the docket's reader gives to C.
use Rattle.std.specs.Prelude.{ℕ, List, ◌++◌, length, drop, replicate, Some, None, Option}
use Rattle.answer.specs.Told.{Told, question_of, group_of}
use Rattle.label.specs.Kinds.{kind_bit}
use Rattle.docket.specs.Entries.{Plain}
use Rattle.docket.specs.Reading.{Standing, entry, over, refusal}
use Rattle.exports.specs.declared.entry.YardEntry.{YardEntry}

-- the number that tells each outcome: an entry, over, or the question
abbrev pub read_code : Standing → ℕ
read_code (entry e next) = 0
read_code over = 1
read_code (refusal q) = q

abbrev pub or_zero : Option ℕ → ℕ
or_zero (Some n) = n
or_zero None = 0

-- the group that the refusal brings
abbrev pub group_in : Told → ℕ
group_in answer = or_zero (group_of answer)

-- eight places, with 0 behind the clauses
abbrev pub padded : List ℕ → List ℕ
padded clauses = clauses ++ drop (length clauses) (replicate 8 0)

abbrev pub filled : Plain → ℕ → YardEntry
filled e next =
    record {
      kind = kind_bit e.kind;
      question = question_of e.answer;
      task = e.task;
      «record» = e.«record»;
      next = next;
      group = group_in e.answer;
      count = length e.new;
      clauses = padded e.new;
    }

-- what the structure holds afterwards: filled at an entry, and else as it was
abbrev pub left : Standing → YardEntry → YardEntry
left (entry e next) was = filled e next
left over was = was
left (refusal q) was = was
