-- Attackers as formulas, of any number of clauses.
use Rattle.std.specs.Prelude.{◌≡◌, ℕ, ◌<◌, true, ◌⊎◌, ◌↔◌, List}
use Rattle.std.specs.List.{AllByRecursion}
use Rattle.clause.specs.Meaning.{Meets, Implies, BothImply, Means}
use Rattle.clause.specs.Unions.{unions}
use Rattle.label.specs.declared.kind.Kind.{Kind}
use Rattle.label.specs.declared.kind.Kind.TheVariants.{Release, Endorse}
use Rattle.key.specs.declared.mode.Mode.{Mode}
use Rattle.key.specs.Requests.{Asked}
use Rattle.key.specs.Meanings.{grant, plain, robust, covers}
use Rattle.key.specs.Laws.{HasHand, Steers}

-- an attacker is any formula over the sixteen parties; he sees, or has a hand, where his formula implies the label's.
-- Release: he sees afterwards and did not before, and has a hand in the record or in the task.
-- Endorsement: he has a hand in the task and in the record before, and none in the record afterwards.
abbrev pub AttackKind : Kind → Asked → List ℕ → Type 0
AttackKind Release r a = (Implies a r.new × (Implies a r.held.sight → ⊥)) × (Implies a r.held.hand ⊎ Implies a r.task.hand)
AttackKind Endorse r a = (Implies a r.task.hand × Implies a r.held.hand) × (Implies a r.new → ⊥)

pub record Attack (r : Asked) (a : List ℕ) : Type 0 where
  pub parties : AllByRecursion (λ clause. clause < 65536) a
  pub gains : AttackKind r.kind r a

-- an attacker exists exactly when a group steers
abbrev pub AttackersAreGroups : Type 0
AttackersAreGroups = (r : Asked) → ((a : List ℕ) × Attack r a) ↔ ((g : ℕ) × (g < 65536) × Steers r g)

-- the run-time checks: two implications for a release, one for an endorsement
abbrev pub ChecksKind : Kind → Asked → Type 0
ChecksKind Release r = BothImply r.new r.task.hand r.held.sight × BothImply r.new r.held.hand r.held.sight
ChecksKind Endorse r = BothImply r.task.hand r.held.hand r.new

-- they hold exactly when there is no attacker
abbrev pub ChecksExact : Type 0
ChecksExact = (r : Asked) → ChecksKind r.kind r ↔ ((a : List ℕ) → Attack r a → ⊥)

-- the privilege weakened by "or" with the hands: of record and task for a release, of the task for an endorsement
abbrev pub WeakerKind : Kind → List ℕ → Asked → ℕ → Type 0
WeakerKind Release p r g = Meets p g ⊎ (HasHand r.held g ⊎ HasHand r.task g)
WeakerKind Endorse p r g = Meets p g ⊎ HasHand r.task g

-- a robust wrap over a plain key grants what the plain key of the weakened privilege grants
abbrev pub Weakened : Type 0
Weakened =
    (m : Mode) (p weak : List ℕ) (r : Asked) → covers m r.kind ≡ true → Means weak (WeakerKind r.kind p r) →
    (robust m (plain p) r ≡ grant) ↔ (plain weak r ≡ grant)

abbrev pub weakened_kind : Kind → List ℕ → Asked → List ℕ
weakened_kind Release p r = unions p (unions r.held.hand r.task.hand)
weakened_kind Endorse p r = unions p r.task.hand

-- and there is such a privilege
abbrev pub WeakenedExists : Type 0
WeakenedExists = (p : List ℕ) (r : Asked) → Means (weakened_kind r.kind p r) (WeakerKind r.kind p r)
