-- What each key answers.
use Rattle.std.specs.Prelude.{ℕ, Bool, true, false, cond, not, ◌&&◌, ◌||◌, List, Some, None, Ok, Err, Option, Result}
use Rattle.answer.specs.declared.Denial.{Denial}
use Rattle.answer.specs.declared.Denial.TheVariants.{NotCovered, OutsideMode, AboveHigh, BelowLow, Steered}
use Rattle.clause.specs.Groups.{met, within, lowest}
use Rattle.label.specs.declared.kind.Kind.{Kind}
use Rattle.label.specs.declared.kind.Kind.TheVariants.{Release, Endorse}
use Rattle.label.specs.Labels.{sees, handed, flows, covered, relabelled}
use Rattle.key.specs.declared.mode.Mode.{Mode}
use Rattle.key.specs.declared.mode.Mode.TheVariants.{Releases, Endorsements, Both}
use Rattle.key.specs.Requests.{Asked, Limits}

abbrev pub Verdict : Type 0
Verdict = Result (Unit {0}) Denial

abbrev pub grant : Verdict
grant = Ok tt

-- the meaning of a key is its answer to each request
abbrev pub Meaning : Type 0
Meaning = Asked → Verdict

-- release: the privilege and the new sight together imply the old sight;
-- endorsement: the privilege and the old hand together imply the new hand
abbrev pub plain_covers : List ℕ → Kind → Asked → Bool
plain_covers f Release r = within (λ g. met f g && met r.new g) (met r.held.sight)
plain_covers f Endorse r = within (λ g. met f g && met r.held.hand g) (met r.new)

abbrev pub plain : List ℕ → Meaning
plain f r = cond (plain_covers f r.kind r) grant (Err NotCovered)

abbrev pub covers : Mode → Kind → Bool
covers Both k = true
covers Releases Release = true
covers Releases Endorse = false
covers Endorsements Release = false
covers Endorsements Endorse = true

-- a denial from below is passed up unchanged, and a grant goes on
abbrev pub passing : Verdict → Verdict → Verdict
passing (Ok u) next = next
passing (Err d) next = Err d

-- a group gains by a release, which lets it in: it sees afterwards and did not before
abbrev pub gains : Asked → ℕ → Bool
gains r g = met r.new g && not (sees r.held g)

-- a group could have steered the request to its own gain. Release: it gains, and has a hand in the
-- record or in the task. Endorsement: it has a hand in the task and in the record, and loses the latter.
abbrev pub steers_kind : Kind → Asked → ℕ → Bool
steers_kind Release r g = gains r g && (handed r.held g || handed r.task g)
steers_kind Endorse r g = (handed r.task g && handed r.held g) && not (met r.new g)

abbrev pub steers : Asked → ℕ → Bool
steers r g = steers_kind r.kind r g

abbrev pub unless_steered : Option ℕ → Verdict
unless_steered None = grant
unless_steered (Some g) = Err (Steered g)

-- what a robust wrap says where the key below grants
abbrev pub robust_says : Mode → Meaning
robust_says m r = cond (covers m r.kind) (unless_steered (lowest (steers r))) (Err OutsideMode)

abbrev pub robust : Mode → Meaning → Meaning
robust m below r = passing (below r) (robust_says m r)

-- what a bounded wrap says where the key below grants: the old label and the task's flow to high, and
-- low is covered by the new label and the task's together
abbrev pub bounded_says : Mode → Limits → Meaning
bounded_says m b r =
    cond (covers m r.kind)
    (cond (flows r.held b.high && flows r.task b.high)
    (cond (covered b.low (relabelled r.kind r.held r.new) r.task) grant (Err BelowLow))
    (Err AboveHigh))
    (Err OutsideMode)

abbrev pub bounded : Mode → Limits → Meaning → Meaning
bounded m b below r = passing (below r) (bounded_says m b r)
