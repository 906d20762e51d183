-- What lines leave in the docket, what C is given, and the monitor's tables.
use Rattle.std.specs.Prelude.{◌≡◌, ℕ, true, false, List, [], ◌∷◌, map, replicate, Some, None, Ok, Err, codes}
use Rattle.answer.specs.declared.Refusal.TheVariants.{LongList, LargeFormula, NoSuchNumber, TaskState, RecordState}
use Rattle.answer.specs.Told.{Told, granted, refused}
use Rattle.label.specs.declared.kind.Kind.TheVariants.{Release, Endorse}
use Rattle.label.specs.Labels.{Marks, labelled}
use Rattle.rules.specs.State.{State, vacant, holds}
use Rattle.monitor.specs.declared.monitor.fetch.Pair.{Pair}
use Rattle.monitor.specs.declared.tables.Tables.{Tables}
use Rattle.monitor.specs.declared.tables.Held.{Held}
use Rattle.monitor.specs.declared.figure.Figure.{Figure}
use Rattle.monitor.specs.declared.monitor.manner.Manner.TheVariants.{Add, Subtract, Multiply}
use Rattle.monitor.specs.Manner.{number_of}
use Rattle.monitor.specs.View.{place_of, view, FiguresBounded}
use Rattle.monitor.specs.Fetch.{Fetched, Sound}
use Rattle.docket.specs.declared.entry.Entry.{Entry}
use Rattle.docket.specs.Entries.{plain_of}
use Rattle.docket.specs.Reading.{entry, over, refusal}
use Rattle.exports.specs.declared.compare.Outcome.TheVariants.{No, Yes, First, Second}
use Rattle.exports.specs.declared.entry.YardEntry.{YardEntry}
use Rattle.exports.specs.Comparing.{clauses_from, evenly, formula_from, no, yes, first, second, compared, code_of, outcome_of, ByGroups}
use Rattle.exports.specs.Entries.{read_code, or_zero, group_in, padded, filled, left}
use Rattle.lines.specs.Forms.{releases, endorses, plains}
use Rattle.filing.specs.Filing.{verdict, with_new, entry_for, plain_in, bytes_of, bytes_in, line_bytes}
use Rattle.histories.specs.Short.{label, one, two, three, free}
use Rattle.histories.specs.Kept.{table}
use Rattle.histories.specs.Dockets.{plain, granting}

-- a line and its answer, and the bytes that they leave
abbrev pub filings : List ((List ℕ × Told) × List ℕ)
filings =
    ((codes "release 2 5 0003 0 0001", granted []), 33 ∷ 98 ∷ 0 ∷ 6 ∷ [])
    ∷ ((codes "release 0 0 T 0 0001", refused 16 (1 ∷ [])), 0 ∷ 16 ∷ 0 ∷ 1 ∷ 0 ∷ [])
    ∷ ((codes "endorse 7 63 0101.0002.0103 0 T", refused 12 []), 255 ∷ 204 ∷ 32 ∷ 0 ∷ 32 ∷ 16 ∷ 16 ∷ [])
    ∷ ((codes "release 9 5 0003 0 0001", refused 3 []), [])
    ∷ ((codes "release 2 5 0003 7 0001", refused 21 []), [])
    ∷ ((codes "enter 5 0 500 0001 0001", granted []), [])
    ∷ ((codes "open 2 0", granted []), [])
    ∷ ((codes "close 2", granted []), [])
    ∷ ((codes "take 2 5 0", granted []), [])
    ∷ ((codes "put 2 5", granted []), [])
    ∷ ((codes "drop 2 5", granted []), [])
    ∷ ((codes "show 5 0001", granted (500 ∷ [])), [])
    ∷ []

pub record Filings : Type 0 where
  pub filings : map (λ row. line_bytes row.0.0 row.0.1) filings ≡ map (λ row. row.1) filings
  pub granted_verdict : verdict (granted (7 ∷ [])) ≡ granted []
  pub refused_verdict : verdict (refused 16 (1 ∷ [])) ≡ refused 16 (1 ∷ [])
  pub with_new_row : with_new Release 2 5 (granted []) (granted three) ≡ Some granting
  pub without_new : with_new Release 2 5 (granted []) (refused 2 []) ≡ None
  pub release_filed : entry_for (Some (releases 2 5 three (plains one))) (granted []) ≡ Some granting
  pub endorse_filed : entry_for (Some (endorses 2 5 three (plains one))) (granted (7 ∷ [])) ≡ Some (plain Endorse 2 5 (granted []) three)
  pub none_filed : entry_for None (granted []) ≡ None
  pub plain_in_row : (e : Entry) → plain_in (Some e) ≡ Some (plain_of e)
  pub plain_in_none : plain_in None ≡ None
  pub bytes_of_row : bytes_of granting ≡ 33 ∷ 98 ∷ 0 ∷ 6 ∷ []
  pub bytes_of_none : bytes_of (plain Release 8 5 (granted []) []) ≡ []
  pub bytes_in_none : bytes_in None ≡ []

-- two bytes a clause
abbrev pub odd : List ℕ
odd = 0 ∷ 1 ∷ 0 ∷ []

abbrev pub bytes_one : List ℕ
bytes_one = 0 ∷ 1 ∷ []

abbrev pub bytes_three : List ℕ
bytes_three = 0 ∷ 3 ∷ []

-- nine clauses that none contains, and 65 of one kind
abbrev pub bytes_nine : List ℕ
bytes_nine = 0 ∷ 1 ∷ 0 ∷ 2 ∷ 0 ∷ 4 ∷ 0 ∷ 8 ∷ 0 ∷ 16 ∷ 0 ∷ 32 ∷ 0 ∷ 64 ∷ 0 ∷ 128 ∷ 1 ∷ 0 ∷ []

-- what stood in the structure before
abbrev pub before : YardEntry
before = record { kind = 1; question = 2; task = 3; «record» = 4; next = 5; group = 6; count = 7; clauses = [] }

pub record ForC : Type 0 where
  pub clauses : clauses_from (1 ∷ 2 ∷ 0 ∷ 3 ∷ []) ≡ 258 ∷ 3 ∷ []
  pub clauses_left : clauses_from odd ≡ one
  pub even : evenly bytes_one ≡ true
  pub uneven : evenly odd ≡ false
  pub formula : formula_from (0 ∷ 3 ∷ 0 ∷ 1 ∷ []) ≡ granted one
  pub formula_odd : formula_from odd ≡ refused 19 []
  pub formula_nine : formula_from bytes_nine ≡ refused 2 []
  pub implies : code_of (compared bytes_one bytes_three) ≡ 1
  pub implies_not : code_of (compared bytes_three bytes_one) ≡ 0
  -- the first list is asked before the second
  pub first_odd : code_of (compared odd bytes_nine) ≡ 119
  pub first_large : code_of (compared bytes_nine odd) ≡ 102
  pub second_odd : code_of (compared bytes_one odd) ≡ 219
  pub second_large : code_of (compared bytes_one bytes_nine) ≡ 202
  pub first_long : code_of (compared (replicate 130 1) bytes_one) ≡ 101
  pub outcome_no : outcome_of No ≡ no
  pub outcome_yes : outcome_of Yes ≡ yes
  pub outcome_first : outcome_of (First LongList) ≡ first 1
  pub outcome_second : outcome_of (Second LargeFormula) ≡ second 2
  pub by_groups_yes : ByGroups (0 ∷ 1 ∷ 0 ∷ 2 ∷ []) bytes_one yes
  pub by_groups_not_yes : ByGroups bytes_one (0 ∷ 2 ∷ []) yes → ⊥
  pub by_groups_no : ByGroups bytes_one (0 ∷ 2 ∷ []) no
  pub by_groups_not_no : ByGroups (0 ∷ 1 ∷ 0 ∷ 2 ∷ []) bytes_one no → ⊥
  pub by_groups_first : ByGroups odd bytes_one (first 19)
  pub by_groups_not_first : ByGroups bytes_one odd (first 19) → ⊥
  pub by_groups_second : ByGroups bytes_one odd (second 19)
  pub by_groups_not_second : ByGroups odd bytes_one (second 19) → ⊥
  -- the docket's reader
  pub read_entry : read_code (entry granting 4) ≡ 0
  pub read_over : read_code over ≡ 1
  pub read_refused : read_code (refusal 20) ≡ 20
  pub or_zero_row : or_zero (Some 7) ≡ 7
  pub zero_else : or_zero None ≡ 0
  pub group_in_row : group_in (refused 16 (5 ∷ [])) ≡ 5
  pub no_group_in : group_in (granted []) ≡ 0
  pub eight_places : padded (1 ∷ 2 ∷ []) ≡ 1 ∷ 2 ∷ 0 ∷ 0 ∷ 0 ∷ 0 ∷ 0 ∷ 0 ∷ []
  pub filled_granted :
      filled granting 4 ≡ record { kind = 0; question = 0; task = 2; «record» = 5; next = 4; group = 0; count = 1; clauses = 3 ∷ 0 ∷ 0 ∷ 0 ∷ 0 ∷ 0 ∷ 0 ∷ 0 ∷ [] }
  pub filled_refused :
      filled (plain Endorse 7 63 (refused 16 (9 ∷ [])) []) 8
      ≡ record { kind = 1; question = 16; task = 7; «record» = 63; next = 8; group = 9; count = 0; clauses = 0 ∷ 0 ∷ 0 ∷ 0 ∷ 0 ∷ 0 ∷ 0 ∷ 0 ∷ [] }
  pub left_filled : left (entry granting 4) before ≡ filled granting 4
  pub left_over : left over before ≡ before
  pub left_refused : left (refusal 19) before ≡ before

-- an open task 0 with 7, and a filled record 1 with 500
abbrev pub tables : Marks → Marks → State
tables l r = table (vacant ∷ holds 500 r ∷ []) (holds 7 l ∷ [])

pub record InMonitor : Type 0 where
  pub empty : place_of None ≡ vacant
  pub holding : (h : Held) → h.figure.cents ≡ 500 → labelled h.label ≡ free → place_of (Some h) ≡ holds 500 free
  pub viewed_records : (t : Tables) → t.records.slots ≡ None ∷ [] → (view t).records ≡ vacant ∷ []
  pub viewed_tasks : (t : Tables) → t.tasks.slots ≡ None ∷ None ∷ [] → (view t).tasks ≡ vacant ∷ vacant ∷ []
  pub manners : (number_of Add ≡ 0) × (number_of Subtract ≡ 1) × (number_of Multiply ≡ 2)
  -- what is fetched is what a call goes on with
  pub fetched :
      (p : Pair) → p.«open».figure.cents ≡ 7 → labelled p.«open».label ≡ label one two → p.filled.figure.cents ≡ 500 → labelled p.filled.label ≡ label two one
      → Fetched (tables (label one two) (label two one)) 0 1 (Ok p)
  pub fetched_other : (p : Pair) → p.filled.figure.cents ≡ 7 → Fetched (tables (label one two) (label two one)) 0 1 (Ok p) → ⊥
  pub fetched_closed : Fetched (tables free free) 1 1 (Err TaskState)
  pub fetched_empty : Fetched (tables free free) 0 0 (Err RecordState)
  pub fetched_misnamed : Fetched (tables free free) 0 0 (Err TaskState) → ⊥
  pub fetched_needless : Fetched (tables free free) 0 1 (Err RecordState) → ⊥
  pub sound : (p : Pair) → Sound 7 63 (Ok p)
  pub no_task : (p : Pair) → Sound 8 0 (Ok p) → ⊥
  pub no_record : (p : Pair) → Sound 0 64 (Ok p) → ⊥
  pub no_figure : (f : Figure) → f.cents ≡ 1000000000 → ⊥
  pub no_record_figure : FiguresBounded → (t : Tables) → (view t).records ≡ holds 1000000000 free ∷ [] → ⊥
  pub no_task_figure : FiguresBounded → (t : Tables) → (view t).tasks ≡ holds 1000000000 free ∷ [] → ⊥
  pub sound_refused : Sound 9 99 (Err NoSuchNumber)

pub record Filed : Type 0 where
  pub filings : Filings
  pub for_c : ForC
  pub in_monitor : InMonitor
