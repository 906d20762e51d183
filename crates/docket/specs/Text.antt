-- What is printed of an entry, byte by byte.
use Rattle.std.specs.Prelude.{ℕ, List, ◌++◌, codes, decimal}
use Rattle.answer.specs.Text.{text}
use Rattle.formula.specs.Text.{formula_text}
use Rattle.label.specs.Kinds.{kind_text}
use Rattle.docket.specs.Entries.{Plain}

-- the kind, the task, the record, the answer and the new formula, with spaces between them
abbrev pub entry_text : Plain → List ℕ
entry_text e =
    kind_text e.kind
    ++ (codes " " ++ (decimal e.task ++ (codes " " ++ (decimal e.«record» ++ (codes " " ++ (text e.answer ++ (codes " " ++ formula_text e.new)))))))
