-- The label model: the lattice, privileges, and attackers.
use Rattle.std.specs.Prelude.{◌≡◌, ℕ, ◌<◌, true, List, [], ◌∷◌}
use Rattle.clause.specs.Meaning.{Implies, Alike, Means}
use Rattle.label.specs.declared.kind.Kind.TheVariants.{Release, Endorse}
use Rattle.label.specs.Labels.{Marks, flows, join}
use Rattle.key.specs.declared.mode.Mode.TheVariants.{Releases, Endorsements, Both}
use Rattle.key.specs.Requests.{Asked, Limits}
use Rattle.key.specs.Meanings.{Meaning, grant, plain, robust, bounded, covers}
use Rattle.key.specs.Laws.{Steers}
use Rattle.model.specs.Lattice.{meet, Lattice}
use Rattle.model.specs.Privileges.{FlowsWith, new_label, PlainIsFlow, BoundedByJoins, robustly, boundedly, wrap, Stacking, RobustTwice}
use Rattle.model.specs.Attackers.{Attack, AttackersAreGroups, ChecksKind, ChecksExact, WeakerKind, Weakened, weakened_kind, WeakenedExists}
use Rattle.cases.specs.Table.{label, release, endorse, one, two, three, four, one_two}
use Rattle.cases.specs.Keys.{always}

pub record Lattices : Type 0 where
  pub meeting : meet (label one four) (label two (8 ∷ [])) ≡ label three (4 ∷ 8 ∷ [])
  pub product_sight : Lattice → (a b : Marks) → flows a b ≡ true → Implies b.sight a.sight
  pub product_hand : Lattice → (a b : Marks) → flows a b ≡ true → Implies a.hand b.hand
  pub product_flows : Lattice → (a b : Marks) → Implies b.sight a.sight → Implies a.hand b.hand → flows a b ≡ true
  pub to_itself : Lattice → (a : Marks) → flows a a ≡ true
  pub same_sight : Lattice → (a b : Marks) → flows a b ≡ true → flows b a ≡ true → Alike a.sight b.sight
  pub same_hand : Lattice → (a b : Marks) → flows a b ≡ true → flows b a ≡ true → Alike a.hand b.hand
  pub joins : Lattice → (a b : Marks) → flows a (join a b) ≡ true
  pub meets_left : Lattice → (a b : Marks) → flows (meet a b) a ≡ true
  pub meets_right : Lattice → (a b : Marks) → flows (meet a b) b ≡ true
  pub meets_greatest : Lattice → (a b c : Marks) → flows c a ≡ true → flows c b ≡ true → flows c (meet a b) ≡ true

-- 0001.0002 / 0002 shown to 0002, at a task of which 0001 sees and 0004 has a hand
abbrev pub showing : Asked
showing = release (label one_two two) two (label one four)

abbrev pub limits : Limits
limits = record { high = label one_two three; low = label three one_two }

pub record Privileges : Type 0 where
  -- to the eyes of 0001, what 0001 and 0002 see flows to what 0002 sees
  pub flows_with : FlowsWith one (label one_two two) (label two two)
  pub flows_without : FlowsWith [] (label one_two two) (label two two) → ⊥
  pub hands_without : FlowsWith two (label [] two) (label [] one) → ⊥
  pub new_label_row : new_label showing ≡ label two two
  pub plain_flows : PlainIsFlow → plain one showing ≡ grant → FlowsWith one (label one_two two) (label two two)
  pub flow_grants : PlainIsFlow → FlowsWith one (label one_two two) (label two two) → plain one showing ≡ grant
  pub below_high : BoundedByJoins → bounded Both limits always showing ≡ grant → flows (join (label one_two two) (label one four)) (label one_two three) ≡ true
  pub above_low : BoundedByJoins → bounded Both limits always showing ≡ grant → flows (label three one_two) (join (label two two) (label one four)) ≡ true
  pub key_below : BoundedByJoins → (k : Meaning) → bounded Both limits k showing ≡ grant → k showing ≡ grant
  pub mode_covers : BoundedByJoins → bounded Endorsements limits always showing ≡ grant → covers Endorsements Release ≡ true
  pub bounds_grant :
      BoundedByJoins → flows (join (label one_two two) (label one four)) (label one_two three) ≡ true → flows (label three one_two) (join (label two two) (label one four)) ≡ true
      → bounded Both limits always showing ≡ grant
  pub wraps_robustly : (k : Meaning) (r : Asked) → wrap (robustly Both) k r ≡ robust Both k r
  pub wraps_boundedly : (k : Meaning) (r : Asked) → wrap (boundedly Both limits) k r ≡ bounded Both limits k r
  pub upper_grants : Stacking → wrap (robustly Both) (wrap (boundedly Releases limits) always) showing ≡ grant → robust Both always showing ≡ grant
  pub lower_grants : Stacking → wrap (robustly Both) (wrap (boundedly Releases limits) always) showing ≡ grant → bounded Releases limits always showing ≡ grant
  pub both_grant : Stacking → robust Both always showing ≡ grant → bounded Releases limits always showing ≡ grant → robust Both (bounded Releases limits always) showing ≡ grant
  pub twice : RobustTwice → (k : Meaning) → robust Both (robust Both k) showing ≡ robust Both k showing

pub record Attackers : Type 0 where
  -- 0002 sees afterwards and did not before, and has a hand in the task, or in the record
  pub by_task : Attack (release (label one_two one) two (label [] two)) two
  pub by_record : Attack (release (label one_two two) two (label [] one)) two
  pub without_hand : Attack (release (label one_two one) two (label [] one)) two → ⊥
  pub saw_before : Attack (release (label two two) two (label [] two)) two → ⊥
  pub sees_not : Attack (release (label one_two two) one (label [] two)) two → ⊥
  pub endorses : Attack (endorse (label [] two) one (label [] two)) two
  pub not_in_task : Attack (endorse (label [] two) one (label [] one)) two → ⊥
  pub not_in_record : Attack (endorse (label [] one) one (label [] two)) two → ⊥
  pub keeps_hand : Attack (endorse (label [] two) two (label [] two)) two → ⊥
  pub beyond_parties : Attack (release (label one_two two) [] (label [] [])) (65536 ∷ []) → ⊥
  pub attacker_is_group : AttackersAreGroups → (r : Asked) (a : List ℕ) → Attack r a → (g : ℕ) × (g < 65536) × Steers r g
  pub group_is_attacker : AttackersAreGroups → (r : Asked) (g : ℕ) → g < 65536 → Steers r g → (a : List ℕ) × Attack r a
  -- two implications for a release, one for an endorsement
  pub checked : ChecksKind Release (release (label one_two two) one (label [] two))
  pub task_unchecked : ChecksKind Release (release (label one_two two) one (label [] [])) → ⊥
  pub record_unchecked : ChecksKind Release (release (label one_two []) one (label [] two)) → ⊥
  pub endorsement_checked : ChecksKind Endorse (endorse (label [] two) one_two (label [] one))
  pub task_let_off : ChecksKind Endorse (endorse (label [] two) one_two (label [] [])) → ⊥
  pub record_let_off : ChecksKind Endorse (endorse (label [] []) one_two (label [] one)) → ⊥
  pub checks_keep_out : ChecksExact → (a : List ℕ) → Attack (release (label one_two two) one (label [] two)) a → ⊥
  pub checks_needed : ChecksExact → (r : Asked) → ((a : List ℕ) → Attack r a → ⊥) → ChecksKind r.kind r
  -- 0001 is the privilege; 0002 has a hand in the record, 0004 in the task
  pub privileged : WeakerKind Release one (release (label [] two) [] (label [] four)) 1
  pub handed_record : WeakerKind Release one (release (label [] two) [] (label [] four)) 2
  pub handed_task : WeakerKind Release one (release (label [] two) [] (label [] four)) 4
  pub handed_nothing : WeakerKind Release one (release (label [] two) [] (label [] four)) 8 → ⊥
  pub endorse_privileged : WeakerKind Endorse one (endorse (label [] two) [] (label [] four)) 1
  pub endorse_task : WeakerKind Endorse one (endorse (label [] two) [] (label [] four)) 4
  pub endorse_record : WeakerKind Endorse one (endorse (label [] two) [] (label [] four)) 2 → ⊥
  pub release_weakened : weakened_kind Release one (release (label [] two) [] (label [] four)) ≡ 7 ∷ []
  pub endorse_weakened : weakened_kind Endorse one (endorse (label [] two) [] (label [] four)) ≡ 5 ∷ []
  pub weakened_exists : WeakenedExists → Means (7 ∷ []) (WeakerKind Release one (release (label [] two) [] (label [] four)))
  pub robust_is_weaker : Weakened → (weak : List ℕ) → Means weak (WeakerKind Release one showing) → robust Both (plain one) showing ≡ grant → plain weak showing ≡ grant
  pub weaker_is_robust : Weakened → (weak : List ℕ) → Means weak (WeakerKind Release one showing) → plain weak showing ≡ grant → robust Both (plain one) showing ≡ grant

pub record Models : Type 0 where
  pub lattices : Lattices
  pub privileges : Privileges
  pub attackers : Attackers
