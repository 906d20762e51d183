-- What a call may alter: the words of the laws of calls, on small tables.
use Rattle.std.specs.Prelude.{◌≡◌, true, false, List, [], ◌∷◌}
use Rattle.answer.specs.Told.{refused}
use Rattle.label.specs.declared.kind.Kind.TheVariants.{Release}
use Rattle.rules.specs.State.{State, Place, vacant, holds, record_at, task_at}
use Rattle.rules.specs.Runs.{Call, Enter, Open, Close, Take, Put, Drop, Show, Change, after, answer}
use Rattle.rules.specs.Tracking.{Answered}
use Rattle.rules.specs.Laws.{OnlyAt, Same, AltersOne, is_held, NoneGoes, NoneComes, LabelsBy, StepLaws}
use Rattle.histories.specs.Short.{free, always}

abbrev pub table : List Place → List Place → State
table r k = record { records = r; tasks = k }

-- two records and one task, all empty; then filled
abbrev pub bare : State
bare = table (vacant ∷ vacant ∷ []) (vacant ∷ [])

abbrev pub second : State
second = table (vacant ∷ holds 7 free ∷ []) (vacant ∷ [])

abbrev pub both : State
both = table (holds 7 free ∷ holds 7 free ∷ []) (vacant ∷ [])

abbrev pub task : State
task = table (vacant ∷ vacant ∷ []) (holds 0 free ∷ [])

abbrev pub mixed : State
mixed = table (vacant ∷ holds 7 free ∷ []) (holds 0 free ∷ [])

-- another figure in the second record
abbrev pub moved : State
moved = table (vacant ∷ holds 8 free ∷ []) (vacant ∷ [])

pub record Kept : Type 0 where
  pub only_second : OnlyAt record_at 1 bare second
  pub not_only_first : OnlyAt record_at 0 bare second → ⊥
  pub same_tasks : Same task_at bare second
  pub not_same : Same record_at bare second → ⊥
  pub one_record : AltersOne bare second
  pub one_task : AltersOne bare task
  pub two_records : AltersOne bare both → ⊥
  pub record_and_task : AltersOne bare mixed → ⊥
  pub held : is_held (holds 7 free) ≡ true
  pub not_held : is_held vacant ≡ false
  pub none_goes : NoneGoes record_at second both
  pub one_goes : NoneGoes record_at both second → ⊥
  pub none_comes : NoneComes record_at both second
  pub one_comes : NoneComes record_at second both → ⊥
  pub one_moves : NoneComes record_at second moved → ⊥
  -- enter, open, take, release and endorse let none go
  pub enter_fills : LabelsBy (Enter 1 0 7 free) bare second
  pub enter_empties : LabelsBy (Enter 1 0 7 free) second bare → ⊥
  pub enter_closes : LabelsBy (Enter 1 0 7 free) task bare → ⊥
  pub open_opens : LabelsBy (Open 0 0) bare task
  pub open_empties : LabelsBy (Open 0 0) second bare → ⊥
  pub open_closes : LabelsBy (Open 0 0) task bare → ⊥
  pub take_empties : LabelsBy (Take 0 1 0) second bare → ⊥
  pub take_closes : LabelsBy (Take 0 1 0) task bare → ⊥
  pub take_opens : LabelsBy (Take 0 1 0) bare task
  pub release_fills : LabelsBy (Change Release 0 1 [] always) bare second
  pub release_empties : LabelsBy (Change Release 0 1 [] always) second bare → ⊥
  pub release_closes : LabelsBy (Change Release 0 1 [] always) task bare → ⊥
  -- close and drop let none come
  pub close_closes : LabelsBy (Close 0) task bare
  pub close_opens : LabelsBy (Close 0) bare task → ⊥
  pub close_fills : LabelsBy (Close 0) bare second → ⊥
  pub drop_empties : LabelsBy (Drop 0 1) second bare
  pub drop_fills : LabelsBy (Drop 0 1) bare second → ⊥
  pub drop_opens : LabelsBy (Drop 0 1) bare task → ⊥
  -- put moves figures alone, and show nothing
  pub put_moves : LabelsBy (Put 0 1) second moved
  pub put_empties : LabelsBy (Put 0 1) second bare → ⊥
  pub show_keeps : LabelsBy (Show 1 0) second second
  pub show_moves : LabelsBy (Show 1 0) second moved → ⊥
  -- the laws
  pub refused_keeps : StepLaws → (t : State) (c : Call) → answer t c ≡ refused 9 [] → after t c ≡ t
  pub alters_one : StepLaws → (t : State) (c : Call) → AltersOne t (after t c)
  pub labels_by : StepLaws → (t : State) (c : Call) → LabelsBy c t (after t c)
  pub figures_alone : StepLaws → Answered (λ l. true) (Show 1 0) (answer second (Show 1 0)) (answer moved (Show 1 0))
