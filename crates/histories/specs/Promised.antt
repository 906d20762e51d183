-- The words of the promise, and runs at once: what it says, and why it says "until".
use Rattle.std.specs.Prelude.{◌≡◌, ℕ, true, false, List, [], ◌∷◌, map, length, Err, ◌==◌, refl}
use Rattle.answer.specs.Told.{granted, refused}
use Rattle.answer.specs.declared.Denial.TheVariants.{NotCovered}
use Rattle.label.specs.declared.kind.Kind.TheVariants.{Release, Endorse}
use Rattle.label.specs.Marks.{Covered, Group, sight_touches}
use Rattle.label.specs.Labels.{Marks, sees, flows}
use Rattle.formula.specs.Forms.{both}
use Rattle.key.specs.declared.mode.Mode.TheVariants.{Both}
use Rattle.key.specs.Meanings.{Meaning, robust}
use Rattle.key.specs.Laws.{KeyLaws, OverRobustLaw}
use Rattle.rules.specs.State.{State, vacant, holds, blank}
use Rattle.rules.specs.Runs.{Enter, Open, Close, Take, Put, Drop, Show, Change, Twin, same, figures, left, right, lefts, rights, run, answer}
use Rattle.rules.specs.Tracking.{Touched, Lawful, Alike, Agree, Answered, Settled, Touching, AllSettled, Tracks, Carried, MarkTracks}
use Rattle.rules.specs.Promise.{ClosedTo, EnteredBy, lets_in, takes_off, NoneOf, Matches, Unmoved, ShowsOne, Promise}
use Rattle.histories.specs.Short.{label, one, two, three, free, always}
use Rattle.histories.specs.Kept.{table}

-- a key that grants nothing
abbrev pub never : Meaning
never r = Err NotCovered

abbrev pub touched : Touched
touched l = true

abbrev pub untouched : Touched
untouched l = false

-- labels with a hand in them touch
abbrev pub handy : Touched
handy l = length l.hand == 1

abbrev pub mine : Marks
mine = label one one

-- a record with a figure under 0001 / 0001, and an open task
abbrev pub holding : ℕ → State
holding n = table (holds n mine ∷ []) (holds 0 free ∷ [])

pub record Named : Type 0 where
  -- an enter is closed to whom it does not show itself to
  pub closed : ClosedTo 2 0 mine
  pub not_closed : ClosedTo 1 0 mine → ⊥
  pub entered_by : EnteredBy 6 2 free
  pub entered_by_other : EnteredBy 6 0 free → ⊥
  -- a granted release lets in who sees afterwards and did not before
  pub lets_in_row : lets_in 2 (holding 7) (Change Release 0 0 two always) ≡ true
  pub refused_lets_nobody : lets_in 2 (holding 7) (Change Release 0 0 two never) ≡ false
  pub lets_in_no_other : lets_in 4 (holding 7) (Change Release 0 0 two always) ≡ false
  pub in_already : lets_in 1 (holding 7) (Change Release 0 0 three always) ≡ false
  pub endorsement_lets_nobody : lets_in 2 (holding 7) (Change Endorse 0 0 two always) ≡ false
  pub others_let_nobody :
      map (lets_in 2 (holding 7)) (Enter 1 0 1 free ∷ Open 1 0 ∷ Close 0 ∷ Take 0 0 0 ∷ Put 0 0 ∷ Drop 0 0 ∷ Show 0 1 ∷ [])
      ≡ false ∷ false ∷ false ∷ false ∷ false ∷ false ∷ false ∷ []
  -- a granted endorsement takes off who had a hand and has none afterwards
  pub takes_off_row : takes_off 1 (holding 7) (Change Endorse 0 0 two always) ≡ true
  pub refused_takes_nobody : takes_off 1 (holding 7) (Change Endorse 0 0 two never) ≡ false
  pub had_no_hand : takes_off 4 (holding 7) (Change Endorse 0 0 two always) ≡ false
  pub keeps_hand : takes_off 3 (holding 7) (Change Endorse 0 0 two always) ≡ false
  pub release_takes_nobody : takes_off 1 (holding 7) (Change Release 0 0 two always) ≡ false
  pub others_take_nobody :
      map (takes_off 1 (holding 7)) (Enter 1 0 1 free ∷ Open 1 0 ∷ Close 0 ∷ Take 0 0 0 ∷ Put 0 0 ∷ Drop 0 0 ∷ Show 0 1 ∷ [])
      ≡ false ∷ false ∷ false ∷ false ∷ false ∷ false ∷ false ∷ []
  -- no call of a run: the second is asked of what the first leaves
  pub none_of : NoneOf (lets_in 2) (holding 7) (Show 0 1 ∷ Drop 0 5 ∷ [])
  pub first_does : NoneOf (lets_in 2) (holding 7) (Change Release 0 0 two always ∷ Show 0 1 ∷ []) → ⊥
  pub second_does : NoneOf (lets_in 2) (holding 7) (Show 0 1 ∷ Change Release 0 0 two always ∷ []) → ⊥
  pub second_is_late : NoneOf (lets_in 2) (holding 7) (Close 0 ∷ Change Release 0 0 two always ∷ [])
  -- the same answer, or two figures shown to a group that is not contained
  pub matches : Matches 2 (Close 0) (refused 5 []) (refused 5 [])
  pub matches_apart : Matches 2 (Show 0 3) (granted (7 ∷ [])) (granted (8 ∷ []))
  pub contained : Matches 3 (Show 0 1) (granted (7 ∷ [])) (granted (8 ∷ [])) → ⊥
  pub other_call : Matches 2 (Close 0) (granted (7 ∷ [])) (granted (8 ∷ [])) → ⊥
  pub other_answer : Matches 2 (Show 0 3) (granted (7 ∷ [])) (refused 11 []) → ⊥

pub record Agreed : Type 0 where
  -- one figure, unless the label touches
  pub both_empty : Alike untouched vacant vacant
  pub one_figure : Alike untouched (holds 7 mine) (holds 7 mine)
  pub two_figures : Alike touched (holds 7 mine) (holds 8 mine)
  pub not_two : Alike untouched (holds 7 mine) (holds 8 mine) → ⊥
  pub one_empty : Alike touched vacant (holds 7 mine) → ⊥
  pub two_labels : Alike touched (holds 7 mine) (holds 7 free) → ⊥
  pub agree : Agree touched (holding 7) (holding 8)
  pub records_differ : Agree untouched (holding 7) (holding 8) → ⊥
  pub tasks_differ : Agree untouched (table [] (holds 7 mine ∷ [])) (table [] (holds 8 mine ∷ [])) → ⊥
  -- the same answer, or two figures under a label that is seen
  pub answered : Answered untouched (Close 0) (refused 5 []) (refused 5 [])
  pub shown : Answered touched (Show 0 1) (granted (7 ∷ [])) (granted (8 ∷ []))
  pub shown_once : Answered untouched (Show 0 1) (granted (7 ∷ [])) (granted (8 ∷ [])) → ⊥
  pub shown_otherwise : Answered touched (Close 0) (granted (7 ∷ [])) (granted (8 ∷ [])) → ⊥
  pub none_sees : (t : Touched) → ((l : Marks) → sees l 1 ≡ true → t l ≡ false) → Answered t (Show 0 1) (granted (7 ∷ [])) (granted (8 ∷ [])) → ⊥
  -- where a granted change removes the touch, one figure
  pub settled : Settled handy (holding 7) (holding 7) (Change Endorse 0 0 [] always)
  pub unsettled : Settled handy (holding 7) (holding 8) (Change Endorse 0 0 [] always) → ⊥
  pub refused_settles : Settled handy (holding 7) (holding 8) (Change Endorse 0 0 [] never)
  pub touch_stays : Settled handy (holding 7) (holding 8) (Change Endorse 0 0 two always)
  pub no_touch_before : Settled untouched (holding 7) (holding 8) (Change Endorse 0 0 [] always)
  pub release_settles : Settled handy (holding 7) (holding 8) (Change Release 0 0 [] always)
  pub touching : Touching handy 0 mine
  pub not_let_in : Touching untouched 1 mine
  pub not_touching : Touching untouched 0 mine → ⊥
  pub all_settled : AllSettled handy (holding 7) (holding 8) (same (Show 0 1) ∷ same (Change Endorse 0 0 two always) ∷ [])
  pub first_unsettled : AllSettled handy (holding 7) (holding 8) (same (Change Endorse 0 0 [] always) ∷ []) → ⊥
  pub second_unsettled : AllSettled handy (holding 7) (holding 8) (same (Show 0 1) ∷ same (Change Endorse 0 0 [] always) ∷ []) → ⊥
  pub entered_unsettled :
      AllSettled handy blank blank (figures 0 0 7 8 mine (λ h. refl) refl refl ∷ same (Open 0 0) ∷ same (Change Endorse 0 0 [] always) ∷ []) → ⊥
  pub settled_late : AllSettled handy (holding 7) (holding 8) (same (Close 0) ∷ same (Change Endorse 0 0 [] always) ∷ [])
  -- a joined label touches whom either part touches, and flow carries the touch
  pub lawful : Lawful touched
  pub joins_neither : Lawful handy → ⊥
  pub flow_carries : (t : Touched) → Lawful t → (a b : Marks) → flows a b ≡ true → t a ≡ true → t b ≡ true
  pub carried_joins : Carried {O = Group} both sight_touches (λ l. l.hand) → ⊥
  pub carried_flow :
      Carried {O = Group} both sight_touches (λ l. l.sight) → (a b : Marks) → flows a b ≡ true → Covered {O = Group} sight_touches a.sight b.sight

-- 0001 enters 7 in one run and 8 in the other, under 0001 / 0001: 0002 sees nothing of it, and 0001 has its hand in it
abbrev pub hidden : Twin (ClosedTo 2)
hidden = figures 0 0 7 8 mine refl refl refl

abbrev pub own : Twin (EnteredBy 1)
own = figures 0 0 7 8 mine refl refl refl

-- and then the record is released to 0002
abbrev pub released : List (Twin (ClosedTo 2))
released = hidden ∷ same (Open 0 0) ∷ same (Change Release 0 0 two always) ∷ []

-- or 0001 has its hand taken off
abbrev pub taken : List (Twin (EnteredBy 1))
taken = own ∷ same (Open 0 0) ∷ same (Change Endorse 0 0 two always) ∷ []

-- 0002 enters 7 or 8 in a record of its own, and 0001 something in another
abbrev pub entered_apart : List (Twin (EnteredBy 2))
entered_apart = figures 1 1 7 8 (label two two) refl refl refl ∷ same (Enter 0 0 5 mine) ∷ same (Open 0 0) ∷ []

abbrev pub robustly : Meaning
robustly = robust Both always

pub record Promises : Type 0 where
  -- the same enter, of record 3 by party 0, with one figure or the other
  pub left_enter : left {named = ClosedTo 2} (figures 3 0 7 8 mine refl refl refl) ≡ Enter 3 0 7 mine
  pub right_enter : right {named = ClosedTo 2} (figures 3 0 7 8 mine refl refl refl) ≡ Enter 3 0 8 mine
  pub left_run : lefts released ≡ Enter 0 0 7 mine ∷ Open 0 0 ∷ Change Release 0 0 two always ∷ []
  pub right_run : rights released ≡ Enter 0 0 8 mine ∷ Open 0 0 ∷ Change Release 0 0 two always ∷ []
  -- secrecy: before the release nothing differs for 0002, and the release is answered the same
  pub secret : Promise → Matches 2 (Show 0 2) (answer (run blank (Enter 0 0 7 mine ∷ [])) (Show 0 2)) (answer (run blank (Enter 0 0 8 mine ∷ [])) (Show 0 2))
  pub shown_elsewhere : Promise → Matches 2 (Show 0 1) (granted (7 ∷ [])) (granted (8 ∷ []))
  pub to_the_last : Promise → Matches 65535 (Close 0) (refused 5 []) (refused 5 [])
  pub release_secret :
      Promise → Matches 2 (Change Release 0 0 two always) (answer (run blank (Enter 0 0 7 mine ∷ Open 0 0 ∷ [])) (Change Release 0 0 two always))
      (answer (run blank (Enter 0 0 8 mine ∷ Open 0 0 ∷ [])) (Change Release 0 0 two always))
  -- afterwards the figure differs for it, so that secrecy has to say "until"
  pub lets_in_row : NoneOf (lets_in 2) blank (lefts released) → ⊥
  pub no_secret : Matches 2 (Show 0 2) (answer (run blank (lefts released)) (Show 0 2)) (answer (run blank (rights released)) (Show 0 2)) → ⊥
  -- a record with the group's hand may differ, and no other
  pub may_move : Unmoved 1 (holding 7) (holding 8)
  pub may_not_move : Unmoved 2 (holding 7) (holding 8) → ⊥
  pub shows_one : ShowsOne 2 0 (holding 7) (holding 7) (Change Release 0 0 two always)
  pub shows_two : ShowsOne 2 0 (holding 7) (holding 8) (Change Release 0 0 two always) → ⊥
  pub shows_none : ShowsOne 2 0 (holding 7) (holding 7) (Change Release 0 0 two never) → ⊥
  -- influence: what 0001 enters moves no record in which it has no hand
  pub unmoved : Promise → Unmoved 1 (run blank (Enter 0 0 7 mine ∷ [])) (run blank (Enter 0 0 8 mine ∷ []))
  pub unmoved_to_the_last : Promise → Unmoved 65535 blank blank
  -- and a robust release that lets 0002 in shows it one figure, whatever 0002 entered
  pub unsteered : Promise → ShowsOne 2 0 (run blank (lefts entered_apart)) (run blank (rights entered_apart)) (Change Release 0 0 two robustly)
  -- after the endorsement the record is without its hand and differs, so that influence has to say "until"
  pub takes_off_row : NoneOf (takes_off 1) blank (lefts taken) → ⊥
  pub moved_on : Unmoved 1 (run blank (lefts taken)) (run blank (rights taken)) → ⊥
  -- tracking: the runs agree on what does not touch, and so do the answers
  pub tracked : Promise → (t : Touched) → Lawful t → Tracks t
  pub tracks_agree : Tracks touched → Agree touched (run blank (Enter 0 0 7 mine ∷ [])) (run blank (Enter 0 0 8 mine ∷ []))
  pub tracks_answers : Tracks touched → Answered touched (Show 0 1) (answer (run blank (Enter 0 0 7 mine ∷ [])) (Show 0 1)) (answer (run blank (Enter 0 0 8 mine ∷ [])) (Show 0 1))
  pub mark_tracks : MarkTracks {O = Group} both sight_touches → Carried {O = Group} both sight_touches (λ l. l.sight) → (o : Group) → Tracks (λ l. sight_touches l.sight o)
  pub key_laws : Promise → KeyLaws
  pub over_robust : Promise → OverRobustLaw

pub record Promised : Type 0 where
  pub named : Named
  pub agreed : Agreed
  pub promises : Promises
