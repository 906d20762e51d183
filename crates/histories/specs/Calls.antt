-- Histories of calls, from a new monitor on: what each is answered, and what is left.
use Rattle.std.specs.Prelude.{◌≡◌, ℕ, ◌+◌, ◌*◌, true, false, cond, List, [], ◌∷◌, map, length, Err, slice_index}
use Rattle.answer.specs.declared.Denial.TheVariants.{OutsideMode, Steered}
use Rattle.answer.specs.Told.{Told, granted, refused}
use Rattle.label.specs.declared.kind.Kind.TheVariants.{Release, Endorse}
use Rattle.label.specs.Labels.{Marks, covered}
use Rattle.key.specs.declared.mode.Mode.TheVariants.{Releases}
use Rattle.key.specs.Meanings.{Meaning, grant, covers}
use Rattle.rules.specs.State.{vacant, holds, record_at, task_at, with_record, with_task, blank, is_figure, bounded, AllBounded}
use Rattle.rules.specs.Step.{Ruled, done, worked, is_manner}
use Rattle.rules.specs.Runs.{Call, Enter, Open, Close, Take, Put, Drop, Show, Change, step, after, answer, is_granted, run, label_of, figure_of, label_at, figure_at}
use Rattle.histories.specs.Short.{label, one, two, three, one_two, free, always}

-- the answers to calls, each made where the one before it left off
abbrev pub follow : Ruled → List Call → List Told
follow r [] = r.answer ∷ []
follow r (c ∷ cs) = r.answer ∷ follow (step r.state c) cs

-- a history: each call with its answer
abbrev pub History : Type 0
History = List (Call × Told)

abbrev pub Happens : History → Type 0
Happens h = follow (done blank) (map (λ row. row.0) h) ≡ granted [] ∷ map (λ row. row.1) h

abbrev pub ok : Told
ok = granted []

abbrev pub at : ℕ → Told
at q = refused q []

abbrev pub secret : Marks
secret = label one_two one

-- the questions of each call, and their order
abbrev pub questions : History
questions =
    (Enter 5 0 500 secret, ok)
    ∷ (Enter 64 0 1000000000 secret, at 3)
    ∷ (Enter 6 16 1 secret, at 3)
    ∷ (Enter 5 0 1000000000 secret, at 4)
    ∷ (Enter 5 1 1 secret, at 6)
    ∷ (Enter 6 1 1 secret, at 8)
    ∷ (Enter 63 15 999999999 (label [] (32768 ∷ [])), ok)
    ∷ (Open 8 0, at 3)
    ∷ (Open 2 16, at 3)
    ∷ (Open 2 1, ok)
    ∷ (Open 2 1, at 5)
    ∷ (Open 7 15, ok)
    ∷ (Close 7, ok)
    ∷ (Close 7, at 5)
    ∷ (Close 8, at 3)
    ∷ (Take 8 5 0, at 3)
    ∷ (Take 2 64 0, at 3)
    ∷ (Take 3 6 0, at 5)
    ∷ (Take 2 6 3, at 6)
    ∷ (Take 2 5 3, at 7)
    ∷ (Take 2 5 0, ok)
    ∷ (Put 8 5, at 3)
    ∷ (Put 3 6, at 5)
    ∷ (Put 2 6, at 6)
    ∷ (Drop 2 64, at 3)
    ∷ (Drop 3 5, at 5)
    ∷ (Drop 2 6, at 6)
    ∷ (Show 64 3, at 3)
    ∷ (Show 6 3, at 6)
    ∷ (Show 5 1, at 11)
    ∷ (Show 5 3, granted (500 ∷ []))
    ∷ (Show 63 0, granted (999999999 ∷ []))
    ∷ []

-- eight clauses of sight fit, and a ninth is refused after the manner
abbrev pub sizes : History
sizes =
    (Enter 0 0 1 (label (1 ∷ 2 ∷ 4 ∷ 8 ∷ 16 ∷ 32 ∷ 64 ∷ 128 ∷ []) one), ok)
    ∷ (Enter 1 0 1 (label (256 ∷ []) one), ok)
    ∷ (Open 0 0, ok)
    ∷ (Take 0 0 0, ok)
    ∷ (Take 0 1 3, at 7)
    ∷ (Take 0 1 0, at 10)
    ∷ []

-- a task with a secret: to whom it may give it, and which records it may empty
abbrev pub flowing : History
flowing =
    (Enter 5 0 500 secret, ok)
    ∷ (Enter 8 0 9 (label (1 ∷ 2 ∷ 4 ∷ []) []), ok)
    ∷ (Enter 9 0 9 free, ok)
    ∷ (Enter 10 0 9 secret, ok)
    ∷ (Open 2 1, ok)
    ∷ (Take 2 5 0, ok)
    ∷ (Put 2 9, at 9)
    ∷ (Put 2 10, at 9)
    ∷ (Put 2 8, ok)
    ∷ (Show 8 3, at 11)
    ∷ (Show 8 7, granted (500 ∷ []))
    ∷ (Drop 2 10, at 9)
    ∷ (Drop 2 8, ok)
    ∷ (Show 8 7, at 6)
    ∷ (Show 5 3, granted (500 ∷ []))
    ∷ []

-- a key that tells what it is asked: the first clause of the record's sight and hand, of the new formula, and of the
-- task's sight and hand
abbrev pub nosy : Meaning
nosy r =
    Err (Steered (slice_index r.held.sight 0 + 10 * slice_index r.held.hand 0 + 100 * slice_index r.new 0 + 1000 * slice_index r.task.sight 0 + 10000 * slice_index r.task.hand 0))

abbrev pub releasing : Meaning
releasing r = cond (covers Releases r.kind) grant (Err OutsideMode)

-- what a key is asked, and what its grant changes
abbrev pub keyed : History
keyed =
    (Enter 5 0 500 (label two one), ok)
    ∷ (Enter 6 0 7 (label (4 ∷ []) one), ok)
    ∷ (Open 2 3, ok)
    ∷ (Take 2 6 0, ok)
    ∷ (Change Release 8 5 three always, at 3)
    ∷ (Change Release 2 64 three always, at 3)
    ∷ (Change Release 3 7 three always, at 5)
    ∷ (Change Endorse 2 7 three always, at 6)
    ∷ (Change Release 2 5 three nosy, refused 16 (94312 ∷ []))
    ∷ (Change Endorse 2 5 [] releasing, at 13)
    ∷ (Show 5 1, at 11)
    ∷ (Change Release 2 5 one releasing, ok)
    ∷ (Show 5 1, granted (500 ∷ []))
    ∷ (Show 5 2, at 11)
    ∷ []

pub record Calls : Type 0 where
  pub questions : Happens questions
  pub sizes : Happens sizes
  pub flowing : Happens flowing
  pub keyed : Happens keyed
  -- a new monitor has 64 empty records and 8 closed tasks
  pub empty_records : length blank.records ≡ 64
  pub closed_tasks : length blank.tasks ≡ 8
  pub empty_record : record_at blank 5 ≡ vacant
  pub closed_task : task_at blank 2 ≡ vacant
  pub record_put : record_at (with_record blank 5 (holds 1 free)) 5 ≡ holds 1 free
  pub record_kept : record_at (with_record blank 5 (holds 1 free)) 6 ≡ vacant
  pub task_put : task_at (with_task blank 2 (holds 1 free)) 2 ≡ holds 1 free
  pub task_kept : record_at (with_task blank 2 (holds 1 free)) 2 ≡ vacant
  -- what take leaves in the task, and that the record stays
  pub opened : task_at (run blank (Open 2 1 ∷ [])) 2 ≡ holds 0 (label [] two)
  pub took : task_at (run blank (Enter 5 0 500 secret ∷ Open 2 1 ∷ Take 2 5 0 ∷ [])) 2 ≡ holds 500 (label one_two three)
  pub took_less : task_at (run blank (Enter 5 0 500 secret ∷ Enter 6 0 7 secret ∷ Open 2 1 ∷ Take 2 5 0 ∷ Take 2 6 1 ∷ [])) 2 ≡ holds 493 (label one_two three)
  pub stayed : record_at (run blank (Enter 5 0 500 secret ∷ Open 2 1 ∷ Take 2 5 0 ∷ [])) 5 ≡ holds 500 secret
  pub endorsed : record_at (run blank (Enter 5 0 500 secret ∷ Open 2 1 ∷ Change Endorse 2 5 [] always ∷ [])) 5 ≡ holds 500 (label one_two [])
  -- the manners, their floor and their ceiling
  pub added : worked 0 7 5 ≡ 12
  pub less : worked 1 7 5 ≡ 2
  pub times : worked 2 7 12500 ≡ 87500
  pub floor : worked 1 3 5 ≡ 0
  pub below_ceiling : worked 0 999999997 1 ≡ 999999998
  pub ceiling : worked 0 999999999 1 ≡ 999999999
  pub ceiling_times : worked 2 100000 100000 ≡ 999999999
  pub last_manner : is_manner 2 ≡ true
  pub no_manner : is_manner 3 ≡ false
  -- figures
  pub largest : is_figure 999999999 ≡ true
  pub too_large : is_figure 1000000000 ≡ false
  pub empty_bounded : bounded vacant ≡ true
  pub held_bounded : bounded (holds 1000000000 free) ≡ false
  pub all_bounded : AllBounded (vacant ∷ holds 7 free ∷ [])
  pub not_all_bounded : AllBounded (vacant ∷ holds 1000000000 free ∷ []) → ⊥
  -- of a record, or of nothing
  pub label_of_row : label_of (holds 7 secret) ≡ secret
  pub label_of_none : label_of vacant ≡ free
  pub figure_of_row : figure_of (holds 7 secret) ≡ 7
  pub figure_of_none : figure_of vacant ≡ 0
  pub label_there : label_at (with_record blank 5 (holds 7 secret)) 5 ≡ secret
  pub figure_there : figure_at (with_record blank 5 (holds 7 secret)) 5 ≡ 7
  pub granted_is : is_granted (granted (7 ∷ [])) ≡ true
  pub refused_is_not : is_granted (refused 9 []) ≡ false
  pub after_it : record_at (after blank (Enter 5 0 7 free)) 5 ≡ holds 7 free
  pub answer_to_it : answer blank (Close 0) ≡ refused 5 []
  -- a label is covered by two together: both sights, and either hand
  pub covered_together : covered (label one_two three) (label one one) (label two two) ≡ true
  pub sight_not_covered : covered (label one_two one) (label one one) (label one one) ≡ false
  pub hand_not_covered : covered (label one three) (label one one) (label one one) ≡ false
