-- When each key grants and how it denies, in terms of who sees and who has a hand.
use Rattle.std.specs.Prelude.{◌≡◌, ℕ, ◌<◌, true, false, ◌⊎◌, ◌↔◌, List, Err}
use Rattle.answer.specs.declared.Denial.{Denial}
use Rattle.answer.specs.declared.Denial.TheVariants.{NotCovered, OutsideMode, AboveHigh, BelowLow, Steered}
use Rattle.clause.specs.Meaning.{Meets}
use Rattle.label.specs.declared.kind.Kind.{Kind}
use Rattle.label.specs.declared.kind.Kind.TheVariants.{Release, Endorse}
use Rattle.label.specs.Labels.{Marks, relabelled}
use Rattle.key.specs.declared.mode.Mode.{Mode}
use Rattle.key.specs.Requests.{Asked, Limits}
use Rattle.key.specs.Meanings.{Meaning, grant, plain, robust, bounded, covers}

-- a group sees, or has a hand in, what has the label
abbrev pub Sees : Marks → ℕ → Type 0
Sees l g = Meets l.sight g

abbrev pub HasHand : Marks → ℕ → Type 0
HasHand l g = Meets l.hand g

-- of every group
abbrev pub Everybody : (ℕ → Type 0) → Type 0
Everybody P = (g : ℕ) → g < 65536 → P g

abbrev pub Nobody : (ℕ → Type 0) → Type 0
Nobody P = Everybody (λ g. P g → ⊥)

-- the group gains by a release: it sees the record afterwards and did not before
abbrev pub Gains : Asked → ℕ → Type 0
Gains r g = Meets r.new g × (Sees r.held g → ⊥)

-- release: the group gains and has a hand in the record or in the task;
-- endorsement: it has a hand in the task and in the record before, and none afterwards
abbrev pub SteersKind : Kind → Asked → ℕ → Type 0
SteersKind Release r g = Gains r g × (HasHand r.held g ⊎ HasHand r.task g)
SteersKind Endorse r g = (HasHand r.task g × HasHand r.held g) × (Meets r.new g → ⊥)

abbrev pub Steers : Asked → ℕ → Type 0
Steers r g = SteersKind r.kind r g

-- what a plain key's privilege has to make up for
abbrev pub PlainGrants : List ℕ → Kind → Asked → Type 0
PlainGrants f Release r = Everybody (λ g. Meets f g → Meets r.new g → Sees r.held g)
PlainGrants f Endorse r = Everybody (λ g. Meets f g → HasHand r.held g → Meets r.new g)

-- a plain key grants exactly that, and else denies as not covered
pub record PlainLaw (f : List ℕ) (r : Asked) : Type 0 where
  pub grants : (plain f r ≡ grant) ↔ PlainGrants f r.kind r
  pub denies : (PlainGrants f r.kind r → ⊥) → plain f r ≡ Err NotCovered

-- a robust wrap grants exactly when the key below does, its mode covers the kind, and no group steers;
-- where only the last fails, it names the lowest-numbered such group
pub record RobustLaw (m : Mode) (below : Meaning) (r : Asked) : Type 0 where
  pub passes : (d : Denial) → below r ≡ Err d → robust m below r ≡ Err d
  pub outside : below r ≡ grant → covers m r.kind ≡ false → robust m below r ≡ Err OutsideMode
  pub grants : (robust m below r ≡ grant) ↔ ((below r ≡ grant) × (covers m r.kind ≡ true) × Nobody (Steers r))
  pub names : below r ≡ grant → covers m r.kind ≡ true → (g : ℕ) → g < 65536 → Steers r g → ((k : ℕ) → k < g → Steers r k → ⊥) → robust m below r ≡ Err (Steered g)

-- a label flows to another: who sees the second sees the first, who has a hand in the first has one in the second
abbrev pub Flows : Marks → Marks → Type 0
Flows a b = Everybody (λ g. (Sees b g → Sees a g) × (HasHand a g → HasHand b g))

-- a label is covered by two: who sees both sees it, and who has a hand in it has one in either
abbrev pub CoveredByBoth : Marks → Marks → Marks → Type 0
CoveredByBoth l a b = Everybody (λ g. (Sees a g → Sees b g → Sees l g) × (HasHand l g → HasHand a g ⊎ HasHand b g))

abbrev pub BelowHigh : Limits → Asked → Type 0
BelowHigh b r = Flows r.held b.high × Flows r.task b.high

abbrev pub AboveLow : Limits → Asked → Type 0
AboveLow b r = CoveredByBoth b.low (relabelled r.kind r.held r.new) r.task

pub record BoundedLaw (m : Mode) (b : Limits) (below : Meaning) (r : Asked) : Type 0 where
  pub passes : (d : Denial) → below r ≡ Err d → bounded m b below r ≡ Err d
  pub outside : below r ≡ grant → covers m r.kind ≡ false → bounded m b below r ≡ Err OutsideMode
  pub high : below r ≡ grant → covers m r.kind ≡ true → (BelowHigh b r → ⊥) → bounded m b below r ≡ Err AboveHigh
  pub low : below r ≡ grant → covers m r.kind ≡ true → BelowHigh b r → (AboveLow b r → ⊥) → bounded m b below r ≡ Err BelowLow
  pub grants : (bounded m b below r ≡ grant) ↔ ((below r ≡ grant) × (covers m r.kind ≡ true) × BelowHigh b r × AboveLow b r)

-- over every key, on every request
pub record KeyLaws : Type 0 where
  pub plain : (f : List ℕ) (r : Asked) → PlainLaw f r
  pub robust : (m : Mode) (below : Meaning) (r : Asked) → RobustLaw m below r
  pub bounded : (m : Mode) (b : Limits) (below : Meaning) (r : Asked) → BoundedLaw m b below r

-- each release that the key grants lets in no group with a hand in the record or in the task
abbrev pub ReleasesRobustly : Meaning → Type 0
ReleasesRobustly k =
    (r : Asked) → r.kind ≡ Release → k r ≡ grant → Nobody (λ g. Gains r g × (HasHand r.held g ⊎ HasHand r.task g))

-- the keys whose releases are robust: a robust wrap over any key, a wrap over such a key at any depth,
-- and a key from elsewhere that brings the proof
pub data OverRobust : Meaning → Type 0 where
  itself : (m : Mode) (below : Meaning) → OverRobust (robust m below)
  wrapped : (m : Mode) (b : Limits) (below : Meaning) → OverRobust below → OverRobust (bounded m b below)
  elsewhere : (k : Meaning) → ReleasesRobustly k → OverRobust k

abbrev pub OverRobustLaw : Type 0
OverRobustLaw = (k : Meaning) → OverRobust k → ReleasesRobustly k
