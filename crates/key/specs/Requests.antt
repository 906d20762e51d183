-- Requests in plain terms: each formula is its list of clauses.
use Rattle.std.specs.Prelude.{ℕ, List}
use Rattle.formula.specs.Of.{clauses_of}
use Rattle.label.specs.declared.kind.Kind.{Kind}
use Rattle.label.specs.Labels.{Marks, labelled}
use Rattle.key.specs.declared.request.Request.{Request}
use Rattle.key.specs.declared.bounded.Bounds.{Bounds}

-- the kind, the record's label, the new formula and the task's label
pub record Asked : Type 0 where
  pub kind : Kind
  pub held : Marks
  pub new : List ℕ
  pub task : Marks

abbrev pub asked : Request → Asked
asked r = record { kind = r.kind; held = labelled r.«record»; new = clauses_of r.new; task = labelled r.task }

pub record Limits : Type 0 where
  pub high : Marks
  pub low : Marks

abbrev pub limits : Bounds → Limits
limits b = record { high = labelled b.high; low = labelled b.low }
