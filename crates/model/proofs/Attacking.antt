-- Attackers as formulas and as groups.
use Rattle.std.proofs.Common.{ℕ, ◌-◌, ◌%◌, ◌<◌, ◌⊎◌, ◌↔◌, List, [], ◌∷◌, sym, ◌∙◌, inl, inr, arith}
use Rattle.clause.specs.Meaning.{Meets, Implies, Means}
use Rattle.clause.specs.Unions.{unions}
use Rattle.clause.proofs.Bitsets.{apart}
use Rattle.clause.proofs.Covering.{grows, beside}
use Rattle.clause.proofs.Reducing.{low_bits}
use Rattle.clause.proofs.Joining.{means_unions}
use Rattle.clause.proofs.Tests.{decided, stable}
use Rattle.label.specs.declared.kind.Kind.{Kind}
use Rattle.label.specs.declared.kind.Kind.TheVariants.{Release, Endorse}
use Rattle.key.specs.Requests.{Asked}
use Rattle.key.specs.Meanings.{plain}
use Rattle.key.specs.Laws.{Nobody, SteersKind, PlainGrants}
use Rattle.key.proofs.Granting.{key_laws}
use Rattle.model.specs.Attackers.{AttackKind, AttackersAreGroups, ChecksKind, ChecksExact, WeakerKind, Weakened, weakened_kind, WeakenedExists}
use Rattle.model.proofs.Singles.{singles, singles_hold, singles_meet, singles_fit}

-- a group that meets the first and not the second
abbrev Between : List ℕ → List ℕ → Type 0
Between a cs = (g : ℕ) × (g < 65536) × Meets a g × (Meets cs g → ⊥)

-- one formula implies another, or the complement of a clause tells them apart
between : (a cs : List ℕ) → Implies a cs ⊎ Between a cs
between a [] = inl (λ g h m. tt)
between a (c ∷ cs) =
    let d : ℕ = c % 65536 in
    let away : ℕ = 65535 - d in
    elim (decided a away) [
      | inl m ↦ inr (away, omega arith, m, λ n. n.0 (sym (low_bits c away (omega arith)) ∙ apart 16 d away (omega arith)))
      | inr n ↦ elim (between a cs) [
        | inl i ↦ inl (λ g h m. (λ e. n (grows a g away h (beside d g (omega arith) h (low_bits c g h ∙ e)) m), i g h m))
        | inr w ↦ inr (w.0, w.1, w.2, λ m. w.3 m.1)
      ]
    ]

not_implied : (a cs : List ℕ) → (Implies a cs → ⊥) → Between a cs
not_implied a cs n = elim (between a cs) [ inl i ↦ absurd (n i) | inr w ↦ w ]

-- the formula of a group's members implies what the group meets, and nothing else
members_imply : (g : ℕ) → g < 65536 → (cs : List ℕ) → Meets cs g → Implies (singles 16 g) cs
members_imply g h cs m other l n = grows cs g other h (singles_hold 16 g other h n) m

members_only : (g : ℕ) → g < 65536 → (cs : List ℕ) → (Meets cs g → ⊥) → Implies (singles 16 g) cs → ⊥
members_only g h cs n i = n (i g h (singles_meet 16 g))

-- from an attacker to a group
group_of : (k : Kind) (r : Asked) (a : List ℕ) → AttackKind k r a → (g : ℕ) × (g < 65536) × SteersKind k r g
group_of Release r a h =
    let w = not_implied a r.held.sight h.0.1 in
    (w.0, w.1, ((h.0.0 w.0 w.1 w.2, w.3), elim h.1 [ inl i ↦ inl (i w.0 w.1 w.2) | inr i ↦ inr (i w.0 w.1 w.2) ]))
group_of Endorse r a h =
    let w = not_implied a r.new h.1 in
    (w.0, w.1, ((h.0.0 w.0 w.1 w.2, h.0.1 w.0 w.1 w.2), w.3))

-- from a group to an attacker
attacker_of : (k : Kind) (r : Asked) (g : ℕ) → g < 65536 → SteersKind k r g → AttackKind k r (singles 16 g)
attacker_of Release r g l h = (
  (members_imply g l r.new h.0.0, members_only g l r.held.sight h.0.1),
  elim h.1 [ inl m ↦ inl (members_imply g l r.held.hand m) | inr m ↦ inr (members_imply g l r.task.hand m) ],
)
attacker_of Endorse r g l h = (
  (members_imply g l r.task.hand h.0.0, members_imply g l r.held.hand h.0.1),
  members_only g l r.new h.1,
)

pub attackers_are_groups : AttackersAreGroups
attackers_are_groups r = (
  λ a. group_of r.kind r a.0 a.1.gains,
  λ b. (singles 16 b.0, record { parties = singles_fit 16 b.0; gains = attacker_of r.kind r b.0 b.1 b.2 }),
)

-- the checks, group by group
checks_groups : (k : Kind) (r : Asked) → ChecksKind k r ↔ Nobody (SteersKind k r)
checks_groups Release r = (
  λ c g l s. s.0.1 (elim s.1 [ inl m ↦ c.1 g l s.0.0 m | inr m ↦ c.0 g l s.0.0 m ]),
  λ n. (
    λ g l m t. stable r.held.sight g (λ o. n g l ((m, o), inr t)),
    λ g l m t. stable r.held.sight g (λ o. n g l ((m, o), inl t)),
  ),
)
checks_groups Endorse r = (
  λ c g l s. s.1 (c g l s.0.0 s.0.1),
  λ n g l t m. stable r.new g (λ o. n g l ((t, m), o)),
)

pub checks_exact : ChecksExact
checks_exact r =
    let checks = checks_groups r.kind r in
    let groups = attackers_are_groups r in (
      λ c a h. let w = groups.0 (a, h) in checks.0 c w.0 w.1 w.2,
      λ n. checks.1 (λ g l s. let w = groups.1 (g, l, s) in n w.0 w.1),
    )

-- granted and unsteered is granted by the weaker privilege
weaker : (k : Kind) (p weak : List ℕ) (r : Asked) → Means weak (WeakerKind k p r) → (PlainGrants p k r × Nobody (SteersKind k r)) ↔ PlainGrants weak k r
weaker Release p weak r w = (
  λ h g l m n.
      elim ((w g l).0 m) [
        | inl x ↦ h.0 g l x n
        | inr x ↦ stable r.held.sight g (λ o. h.1 g l ((n, o), x))
      ],
  λ h. (λ g l m n. h g l ((w g l).1 (inl m)) n, λ g l s. s.0.1 (h g l ((w g l).1 (inr s.1)) s.0.0)),
)
weaker Endorse p weak r w = (
  λ h g l m n.
      elim ((w g l).0 m) [
        | inl x ↦ h.0 g l x n
        | inr x ↦ stable r.new g (λ o. h.1 g l ((x, n), o))
      ],
  λ h. (λ g l m n. h g l ((w g l).1 (inl m)) n, λ g l s. s.1 (h g l ((w g l).1 (inr s.0.0)) s.0.1)),
)

pub weakened : Weakened
weakened m p weak r c w =
    let law = (key_laws.robust m (plain p) r).grants in
    let below = (key_laws.plain p r).grants in
    let weakly = (key_laws.plain weak r).grants in
    let both = weaker r.kind p weak r w in (
      λ e. let h = law.0 e in weakly.1 (both.0 (below.0 h.0, h.2)),
      λ e. let h = both.1 (weakly.0 e) in law.1 (below.1 h.0, c, h.1),
    )

exists_kind : (k : Kind) (p : List ℕ) (r : Asked) → Means (weakened_kind k p r) (WeakerKind k p r)
exists_kind Release p r g l =
    let outer = means_unions p (unions r.held.hand r.task.hand) g l in
    let inner = means_unions r.held.hand r.task.hand g l in (
      λ m. elim (outer.0 m) [ inl x ↦ inl x | inr x ↦ inr (inner.0 x) ],
      λ e. outer.1 (elim e [ inl x ↦ inl x | inr x ↦ inr (inner.1 x) ]),
    )
exists_kind Endorse p r g l = means_unions p r.task.hand g l

pub weakened_exists : WeakenedExists
weakened_exists p r = exists_kind r.kind p r
