-- Marks, by the onlookers that they touch.
use Rattle.std.specs.Prelude.{◌≡◌, ℕ, ◌<◌, Bool, true, false, not, ◌||◌, List, [], Result, MatchResult}
use Rattle.answer.specs.declared.Refusal.{Refusal}
use Rattle.answer.specs.declared.Answer.TheVariants.{Refused}
use Rattle.answer.specs.Told.{told, refused}
use Rattle.clause.specs.Groups.{met}

-- a mark touches nobody that the other does not touch
abbrev pub Covered : {O : Type 0} → (List ℕ → O → Bool) → List ℕ → List ℕ → Type 0
Covered {O} touches m a = (o : O) → touches m o ≡ true → touches a o ≡ true

-- a mark touches nobody that neither of two others touches
abbrev pub CoveredByTwo : {O : Type 0} → (List ℕ → O → Bool) → List ℕ → List ℕ → List ℕ → Type 0
CoveredByTwo {O} touches m a b = (o : O) → touches m o ≡ true → (touches a o || touches b o) ≡ true

-- a mark touches exactly those that either of two others touches
abbrev pub TouchesEither : {O : Type 0} → (List ℕ → O → Bool) → List ℕ → List ℕ → List ℕ → Type 0
TouchesEither {O} touches m a b = (o : O) → touches m o ≡ (touches a o || touches b o)

-- joining answers a mark of the joined numbers where these keep to their size, and refuses at 10 where not
abbrev pub JoinedMark : {A : Type 0} → (List ℕ → Bool) → (A → List ℕ) → List ℕ → Result A Refusal → Type 0
JoinedMark fits numbers joined r =
    MatchResult r (λ m. (fits joined ≡ true) × (numbers m ≡ joined)) (λ q. (fits joined ≡ false) × (told (Refused q) ≡ refused 10 []))

-- the onlookers of sight and hand: the 65,536 groups of the sixteen parties
abbrev pub Group : Type 0
Group = (group : ℕ) × (group < 65536)

-- a sight touches the groups that do not see
abbrev pub sight_touches : List ℕ → Group → Bool
sight_touches sight o = not (met sight o.0)

-- a hand touches the groups that have one
abbrev pub hand_touches : List ℕ → Group → Bool
hand_touches hand o = met hand o.0
