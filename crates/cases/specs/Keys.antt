-- Keys: who gains, who steers, and what each key's law says of them.
use Rattle.std.specs.Prelude.{◌≡◌, ℕ, ◌<◌, true, false, List, [], ◌∷◌, Some, None, Err, ◌≢◌}
use Rattle.answer.specs.declared.Denial.TheVariants.{NotCovered, OutsideMode, AboveHigh, BelowLow, Steered}
use Rattle.formula.specs.Of.{clauses_of}
use Rattle.label.specs.declared.kind.Kind.TheVariants.{Release, Endorse}
use Rattle.label.specs.Labels.{Marks, labelled}
use Rattle.key.specs.declared.mode.Mode.{Mode}
use Rattle.key.specs.declared.mode.Mode.TheVariants.{Releases, Endorsements, Both}
use Rattle.key.specs.declared.request.Request.{Request}
use Rattle.key.specs.declared.bounded.Bounds.{Bounds}
use Rattle.key.specs.Requests.{Asked, asked, Limits, limits}
use Rattle.key.specs.Meanings.{Meaning, grant, plain, covers, passing, gains, steers, unless_steered, robust, bounded}
use Rattle.key.specs.Laws.{Sees, HasHand, Everybody, Nobody, Gains, Steers, PlainGrants, Flows, CoveredByBoth, BelowHigh, AboveLow, KeyLaws, ReleasesRobustly, OverRobust, OverRobustLaw}
use Rattle.cases.specs.Table.{label, release, endorse, one, two, three, four, one_two}

-- 0003 is let in to what 0001.0002 saw; 0001 has a hand in the record and 0004 in the task
abbrev pub letting : Asked
letting = release (label one_two one) three (label [] four)

-- the record's hand, 0001 or 0002, becomes 0001; 0002 has a hand in the task
abbrev pub narrowing : Asked
narrowing = endorse (label [] three) one (label [] two)

-- the same of a record in which 0004 has a hand
abbrev pub foreign : Asked
foreign = endorse (label [] four) one (label [] two)

-- the record's hand, 0001 or 0002, becomes 0002, who alone has a hand in the task
abbrev pub losing : Asked
losing = endorse (label [] three) two (label [] two)

abbrev pub always : Meaning
always r = grant

abbrev pub never : Meaning
never r = Err NotCovered

pub record Answering : Type 0 where
  pub both_release : covers Both Release ≡ true
  pub both_endorse : covers Both Endorse ≡ true
  pub releases_release : covers Releases Release ≡ true
  pub releases_endorse : covers Releases Endorse ≡ false
  pub endorsements_release : covers Endorsements Release ≡ false
  pub endorsements_endorse : covers Endorsements Endorse ≡ true
  -- a denial from below is passed up, and a grant goes on
  pub goes_on : passing grant (Err BelowLow) ≡ Err BelowLow
  pub passes_up : passing (Err NotCovered) grant ≡ Err NotCovered
  pub robust_passes_up : (m : Mode) (r : Asked) → robust m never r ≡ Err NotCovered
  pub bounded_passes_up : (m : Mode) (b : Limits) (r : Asked) → bounded m b never r ≡ Err NotCovered
  pub robust_outside : (l t : Marks) (f : List ℕ) → robust Endorsements always (release l f t) ≡ Err OutsideMode
  pub bounded_outside : (b : Limits) (l t : Marks) (f : List ℕ) → bounded Endorsements b always (release l f t) ≡ Err OutsideMode
  pub unsteered : unless_steered None ≡ grant
  pub steered : unless_steered (Some 5) ≡ Err (Steered 5)
  -- who sees afterwards and did not before
  pub is_let_in : gains letting 2 ≡ true
  pub saw_before : gains letting 3 ≡ false
  pub sees_not : gains letting 4 ≡ false
  -- who steers a release, by the record or by the task
  pub by_record : steers letting 1 ≡ true
  pub by_task : steers letting 6 ≡ true
  pub without_hand : steers letting 2 ≡ false
  pub without_gain : steers letting 4 ≡ false
  -- who steers an endorsement
  pub endorses : steers narrowing 2 ≡ true
  pub keeps_hand : steers narrowing 3 ≡ false
  pub not_in_task : steers narrowing 4 ≡ false
  pub not_in_record : steers foreign 2 ≡ false
  pub in_record_alone : steers losing 1 ≡ false

-- what a request and a wrap's bounds hold
pub record Put : Type 0 where
  pub kind_asked : (r : Request) → (asked r).kind ≡ r.kind
  pub record_asked : (r : Request) → (asked r).held ≡ labelled r.«record»
  pub new_asked : (r : Request) → (asked r).new ≡ clauses_of r.new
  pub task_asked : (r : Request) → (asked r).task ≡ labelled r.task
  pub high_limit : (b : Bounds) → (limits b).high ≡ labelled b.high
  pub low_limit : (b : Bounds) → (limits b).low ≡ labelled b.low

pub record Stated : Type 0 where
  pub sees : Sees (label one two) 1
  pub sees_not : Sees (label one two) 2 → ⊥
  pub has_hand : HasHand (label one two) 2
  pub has_none : HasHand (label one two) 1 → ⊥
  pub everybody : Everybody (λ g. g < 65536)
  pub not_everybody : Everybody (λ g. g < 65535) → ⊥
  pub nobody : Nobody (λ g. ⊥)
  pub somebody : Nobody (λ g. g ≡ 65535) → ⊥
  pub gains : Gains letting 2
  pub saw_before : Gains letting 3 → ⊥
  pub sees_no_more : Gains letting 4 → ⊥
  pub by_record : Steers letting 1
  pub by_task : Steers letting 6
  pub without_hand : Steers letting 2 → ⊥
  pub without_gain : Steers letting 7 → ⊥
  pub endorses : Steers narrowing 2
  pub keeps_hand : Steers narrowing 3 → ⊥
  pub not_in_task : Steers narrowing 4 → ⊥
  pub not_in_record : Steers foreign 2 → ⊥
  pub in_record_alone : Steers losing 1 → ⊥
  -- the privilege makes up for what the new sight does not ask, or the new hand asks
  pub covers_release : PlainGrants one Release (release (label one_two []) two (label [] []))
  pub covers_endorsement : PlainGrants one Endorse (endorse (label [] two) one_two (label [] []))
  pub short_release : PlainGrants one Release (release (label one_two []) [] (label [] [])) → ⊥
  pub short_endorsement : PlainGrants one Endorse (endorse (label [] []) one_two (label [] [])) → ⊥

abbrev pub high_label : Marks
high_label = label one_two one

pub record Limited : Type 0 where
  -- who sees the second sees the first; who has a hand in the first has one in the second
  pub flows : Flows (label one one_two) high_label
  pub shows_more : Flows high_label (label one one) → ⊥
  pub hands_more : Flows (label one_two []) high_label → ⊥
  -- both sights together, and either hand
  pub covered_left : CoveredByBoth high_label (label one one) (label two two)
  pub covered_right : CoveredByBoth high_label (label one two) (label two one)
  pub shows_first : CoveredByBoth high_label (label [] one) (label two one) → ⊥
  pub shows_second : CoveredByBoth high_label (label one one) (label [] one) → ⊥
  pub hands_neither : CoveredByBoth high_label (label one two) (label two two) → ⊥
  -- the record's old label and the task's stay below high
  pub below_high : BelowHigh (record { high = high_label; low = label [] [] }) (release (label one one) [] (label two one))
  pub record_above : BelowHigh (record { high = high_label; low = label [] [] }) (release (label one []) [] (label two one)) → ⊥
  pub task_above : BelowHigh (record { high = high_label; low = label [] [] }) (release (label one one) [] (label two [])) → ⊥
  -- low is covered by the record's new label and the task's
  pub above_low : AboveLow (record { high = label [] []; low = high_label }) (release (label four one) one (label two two))
  pub above_low_by_hand : AboveLow (record { high = label [] []; low = high_label }) (endorse (label one four) one (label two two))
  pub new_below : AboveLow (record { high = label [] []; low = high_label }) (release (label one one) [] (label two two)) → ⊥
  pub task_below : AboveLow (record { high = label [] []; low = high_label }) (release (label four one) one (label [] two)) → ⊥

-- between these a request of 0001 / 0001 stays
abbrev pub around : Limits
around = record { high = high_label; low = label [] (0 ∷ []) }

pub record Lawful : Type 0 where
  pub plain_grants : KeyLaws → plain one (release (label one_two []) two (label [] [])) ≡ grant
  pub plain_grants_only : KeyLaws → plain one (release (label one_two []) [] (label [] [])) ≢ grant
  pub plain_denies : KeyLaws → plain one (release (label one_two []) [] (label [] [])) ≡ Err NotCovered
  pub robust_passes : KeyLaws → robust Both never letting ≡ Err NotCovered
  pub robust_outside : KeyLaws → robust Endorsements always letting ≡ Err OutsideMode
  pub robust_names : KeyLaws → robust Both always letting ≡ Err (Steered 1)
  pub robust_grants : KeyLaws → Nobody (Steers letting) → robust Releases always letting ≡ grant
  pub robust_grants_below : KeyLaws → (k : Meaning) → robust Both k letting ≡ grant → k letting ≡ grant
  pub robust_grants_inside : KeyLaws → (m : Mode) → robust m always letting ≡ grant → covers m Release ≡ true
  pub robust_grants_nobody : KeyLaws → robust Both always letting ≢ grant
  pub bounded_passes : KeyLaws → (b : Limits) → bounded Both b never letting ≡ Err NotCovered
  pub bounded_outside : KeyLaws → (b : Limits) → bounded Endorsements b always letting ≡ Err OutsideMode
  pub bounded_high : KeyLaws → bounded Both around always (release (label one []) [] (label two one)) ≡ Err AboveHigh
  pub bounded_low : KeyLaws → (b : Limits) (r : Asked) → BelowHigh b r → (AboveLow b r → ⊥) → bounded Both b always r ≡ Err BelowLow
  pub bounded_grants : KeyLaws → (b : Limits) (r : Asked) → BelowHigh b r → AboveLow b r → bounded Both b always r ≡ grant
  pub bounded_grants_below : KeyLaws → (b : Limits) (k : Meaning) → bounded Both b k letting ≡ grant → k letting ≡ grant
  pub bounded_grants_inside : KeyLaws → (m : Mode) (b : Limits) → bounded m b always letting ≡ grant → covers m Release ≡ true
  pub bounded_grants_high : KeyLaws → (b : Limits) → bounded Both b always letting ≡ grant → BelowHigh b letting
  pub bounded_grants_low : KeyLaws → (b : Limits) → bounded Both b always letting ≡ grant → AboveLow b letting

pub record Robustly : Type 0 where
  -- a key that never grants releases robustly, and one that always grants does not: by the record's hand, or by the task's
  pub never_does : ReleasesRobustly never
  pub always_does_not : ReleasesRobustly always → ⊥
  pub by_task_alone : ReleasesRobustly always → (Gains letting 6 → HasHand letting.task 6 → ⊥)
  -- a robust wrap, wraps over one, and a key from elsewhere with the proof
  pub over_itself : OverRobust (robust Both always)
  pub over_wrapped : (b : Limits) → OverRobust (bounded Both b (bounded Releases b (robust Both always)))
  pub over_elsewhere : OverRobust never
  pub over_law : OverRobustLaw → ReleasesRobustly (robust Both always)

pub record Keys : Type 0 where
  pub answering : Answering
  pub put : Put
  pub stated : Stated
  pub limited : Limited
  pub lawful : Lawful
  pub robustly : Robustly
