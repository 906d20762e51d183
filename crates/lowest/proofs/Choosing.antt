-- The first of several groups, put together from parts.
use Rattle.std.proofs.Common.{◌≡◌, ℕ, ◌+◌, ◌-◌, ◌<◌, ◌≤◌, min, Bool, true, not, ◌&&◌, ◌||◌, ◌⊎◌, List, length, get_or, Some, None, Decides, Option, sym, refl, ap, ◌∙◌, subst, inl, inr, arith}
use lib.Bits.{bit_and, and_comm}
use Rattle.std.proofs.ByRecursion.{All-get_or}
use Rattle.std.proofs.lemmas.Bool.{cases_order, both_ways, false_from_ne_true, or_cases, or_left, or_right}
use Rattle.clause.specs.Meaning.{Shares, Meets}
use Rattle.clause.specs.Parts.{Part}
use Rattle.clause.proofs.Bitsets.{apart, wider}
use Rattle.clause.proofs.Covering.{found, beside, grows}
use Rattle.clause.specs.Groups.{met, lowest, earlier}
use Rattle.clause.proofs.Least.{least_at, none_least, least_none, least_found}
use Rattle.clause.proofs.Tests.{met_decides}
use Rattle.std.proofs.lemmas.Bool.Decides.{Decides-and, Decides-not, Decides-like}
use Rattle.lowest.specs.First.{Lowest, First, Fitting, Missing}

-- a formula's meaning carries over
pub grows_both : (a b : List ℕ) (g other : ℕ) → g < 65536 → Part g other → Meets a g × Meets b g → Meets a other × Meets b other
grows_both a b g other h p m = (grows a g other h p m.0, grows b g other h p m.1)

pub first_same : (P Q : ℕ → Type 0) → ((g : ℕ) → g < 65536 → P g → Q g) → ((g : ℕ) → g < 65536 → Q g → P g) → (o : Option ℕ) → First P o → First Q o
first_same P Q there back None f = λ g h q. f g h (back g h q)
first_same P Q there back (Some x) f =
    record { parties = f.parties; holds = there x f.parties f.holds; least = λ k l q. f.least k l (back k (omega (arith, l, f.parties)) q) }

pub first_either : (P Q : ℕ → Type 0) (a b : Option ℕ) → First P a → First Q b → First (λ g. P g ⊎ Q g) (earlier a b)
first_either P Q None None f s = λ g h e. elim e [ inl p ↦ f g h p | inr q ↦ s g h q ]
first_either P Q None (Some y) f s =
    record { parties = s.parties; holds = inr s.holds; least = λ k l e. elim e [ inl p ↦ f k (omega (arith, l, s.parties)) p | inr q ↦ s.least k l q ] }
first_either P Q (Some x) None f s =
    record { parties = f.parties; holds = inl f.holds; least = λ k l e. elim e [ inl p ↦ f.least k l p | inr q ↦ s k (omega (arith, l, f.parties)) q ] }
first_either P Q (Some x) (Some y) f s =
    elim (cases_order x y) [
      | inl e ↦ left (omega (arith, e))
      | inr o ↦ elim o [ inl l ↦ left (omega (arith, l)) | inr l ↦ right (omega (arith, l)) ]
    ]
  where
    left : x ≤ y → Lowest (λ g. P g ⊎ Q g) (min x y)
    left h = let m : min x y ≡ x = omega arith in
        subst (Lowest (λ g. P g ⊎ Q g)) (sym m)
        (record { parties = f.parties; holds = inl f.holds; least = λ k l e. elim e [ inl p ↦ f.least k l p | inr q ↦ s.least k (omega (arith, l, h)) q ] })

    right : y < x → Lowest (λ g. P g ⊎ Q g) (min x y)
    right h = let m : min x y ≡ y = omega arith in
        subst (Lowest (λ g. P g ⊎ Q g)) (sym m)
        (record { parties = s.parties; holds = inr s.holds; least = λ k l e. elim e [ inl p ↦ f.least k (omega (arith, l, h)) p | inr q ↦ s.least k l q ] })

-- a group that misses one of the first i clauses
pub record MissingIn (missed needs more : List ℕ) (i : ℕ) (g : ℕ) : Type 0 where
  pub meets : Meets needs g × Meets more g
  pub place : ℕ
  pub early : place < i
  pub misses : bit_and (get_or missed place 0) g ≡ 0

module _ (missed needs more : List ℕ) where
  pub missing_more : (i : ℕ) → get_or missed i 0 < 65536 → (a b : Option ℕ) → First (MissingIn missed needs more i) a → First (Fitting (65535 - get_or missed i 0) needs more) b → First (MissingIn missed needs more (i + 1)) (earlier a b)
  missing_more i fits a b f s =
      let c : ℕ = get_or missed i 0 in
      first_same (λ g. MissingIn missed needs more i g ⊎ Fitting (65535 - c) needs more g) (MissingIn missed needs more (i + 1))
      (λ g h e. elim e [
        | inl m ↦ record { meets = m.meets; place = m.place; early = omega (arith, m.early); misses = m.misses }
        | inr m ↦ record {
          meets = m.meets;
          place = i;
          early = omega arith;
          misses = and_comm c g ∙ wider g (65535 - c) c m.inside (and_comm (65535 - c) c ∙ apart 16 c (65535 - c) (omega (arith, fits)));
        }
      ])
      (λ g h m. elim (cases_order m.place i) [
        | inl e ↦ inr (record { inside = beside c g fits h (ap (λ k. bit_and (get_or missed k 0) g) (sym e) ∙ m.misses); meets = m.meets })
        | inr o ↦ inl (record { meets = m.meets; place = m.place; early = elim o [ inl l ↦ l | inr l ↦ omega (arith, m.early, l) ]; misses = m.misses })
      ])
      (earlier a b)
      (first_either (MissingIn missed needs more i) (Fitting (65535 - c) needs more) a b f s)

  pub missing_all : (i : ℕ) → i ≡ length missed → (o : Option ℕ) → First (MissingIn missed needs more i) o → First (Missing missed needs more) o
  missing_all i e o f =
      first_same (MissingIn missed needs more i) (Missing missed needs more)
      (λ g h m. record { meets = m.meets; misses = λ all. All-get_or (λ c. Shares c g) missed m.place 0 (omega (arith, m.early, e)) all m.misses })
      (λ g h m. elim (found missed g) [
        | inl all ↦ absurd (m.misses all)
        | inr w ↦ record { meets = m.meets; place = w.0; early = omega (arith, w.1, e); misses = w.2 }
      ])
      o f

-- the first group is the lowest that a test finds
pub first_is : (p : ℕ → Bool) (P : ℕ → Type 0) → ((g : ℕ) → Decides (p g) (P g)) → (o : Option ℕ) → First P o → o ≡ lowest p
first_is p P d None f = sym (none_least p 65536 (λ g l. false_from_ne_true (p g) (λ e. f g l ((d g).0 e))))
first_is p P d (Some x) f =
    sym (least_at p 65536 x f.parties (none_least p x (λ k l. false_from_ne_true (p k) (λ e. f.least k l ((d k).0 e)))) ((d x).1 f.holds))

pub missing_decides : (missed needs more : List ℕ) (g : ℕ) → Decides ((met needs g && met more g) && not (met missed g)) (Missing missed needs more g)
missing_decides missed needs more g =
    Decides-like ((met needs g && met more g) && not (met missed g))
    (λ m. record { meets = m.0; misses = m.1 }) (λ m. (m.meets, m.misses))
    (Decides-and (met needs g && met more g) (not (met missed g)) (Decides-and (met needs g) (met more g) (met_decides needs g) (met_decides more g)) (Decides-not (met missed g) (met_decides missed g)))

found_first : (p : ℕ → Bool) (o : Option ℕ) → lowest p ≡ o → First (λ g. p g ≡ true) o
found_first p None e = λ g l h. both_ways (p g) (least_none p 65536 e g l) h
found_first p (Some x) e =
    let f = least_found p 65536 x e in
    record { parties = f.below; holds = f.holds; least = λ k l h. both_ways (p k) (f.first k l) h }

-- the earlier of the lowest of two kinds is the lowest of both
pub earlier_is : (p q s : ℕ → Bool) → ((g : ℕ) → s g ≡ (p g || q g)) → earlier (lowest p) (lowest q) ≡ lowest s
earlier_is p q s e =
    first_is s (λ g. (p g ≡ true) ⊎ (q g ≡ true))
    (λ g. (λ h. or_cases (p g) (q g) (sym (e g) ∙ h), λ h. e g ∙ elim h [ inl a ↦ or_left (p g) (q g) a | inr b ↦ or_right (p g) (q g) b ]))
    (earlier (lowest p) (lowest q))
    (first_either (λ g. p g ≡ true) (λ g. q g ≡ true) (lowest p) (lowest q) (found_first p (lowest p) refl) (found_first q (lowest q) refl))
