-- When each key grants and how it denies.
use Rattle.std.proofs.Common.{◌≡◌, ℕ, Bool, true, false, cond, not, ◌&&◌, ◌||◌, List, Some, None, Ok, Err, Decides, Option, sym, refl, subst, arith}
use Rattle.std.proofs.lemmas.Bool.{both_ways, cond-true, cond-false}
use Rattle.std.proofs.lemmas.Bool.Decides.{Decides-and, Decides-or, Decides-not, Decides-like}
use Rattle.answer.specs.declared.Denial.{Denial}
use Rattle.answer.specs.declared.Denial.TheVariants.{NotCovered, OutsideMode, AboveHigh, BelowLow, Steered}
use Rattle.clause.specs.Meaning.{Meets}
use Rattle.clause.specs.Groups.{met, within, lowest}
use Rattle.clause.proofs.Least.{least_none, none_least, least_at}
use Rattle.clause.proofs.Tests.{met_decides, within_decides, not_true}
use Rattle.label.specs.declared.kind.Kind.{Kind}
use Rattle.label.specs.declared.kind.Kind.TheVariants.{Release, Endorse}
use Rattle.label.specs.Labels.{Marks, sees, handed, flows, covered, relabelled}
use Rattle.label.specs.Tests.{sight_two_uncovered, hand_two_uncovered}
use Rattle.label.proofs.Order.{flows_by_groups, covered_decides as covered_sides}
use Rattle.key.specs.declared.mode.Mode.{Mode}
use Rattle.key.specs.Requests.{Asked, Limits}
use Rattle.key.specs.Meanings.{Verdict, Meaning, grant, passing, plain_covers, covers, gains, steers, steers_kind, unless_steered, robust, bounded}
use Rattle.key.specs.Laws.{Everybody, SteersKind, PlainGrants, PlainLaw, RobustLaw, CoveredByBoth, BelowHigh, BoundedLaw, KeyLaws, itself, wrapped, elsewhere, ReleasesRobustly, OverRobustLaw}

-- a denial is no grant
never : (d : Denial) {X : Type 0} → Err d ≡ grant → X
never d e = let z : ◌≡◌ {A = ℕ} 0 1 = cc in let w : ⊥ = omega arith in absurd w

pub passing_grants : (a b : Verdict) → passing a b ≡ grant → (a ≡ grant) × (b ≡ grant)
passing_grants (Ok u) b e = (refl, e)
passing_grants (Err d) b e = never d e

cond_grants : (c : Bool) (a : Verdict) (d : Denial) → cond c a (Err d) ≡ grant → (c ≡ true) × (a ≡ grant)
cond_grants true a d e = (refl, e)
cond_grants false a d e = never d e

unless_grants : (o : Option ℕ) → unless_steered o ≡ grant → o ≡ None
unless_grants None e = refl
unless_grants (Some g) e = never (Steered g) e

-- the tests over all groups decide what they say
together : (a b goal : List ℕ) → Decides (within (λ g. met a g && met b g) (met goal)) (Everybody (λ g. Meets a g → Meets b g → Meets goal g))
together a b goal =
    Decides-like (within (λ g. met a g && met b g) (met goal))
    (λ h g l m n. (met_decides goal g).0 (h g l ((Decides-and (met a g) (met b g) (met_decides a g) (met_decides b g)).1 (m, n))))
    (λ h g l e. let w = (Decides-and (met a g) (met b g) (met_decides a g) (met_decides b g)).0 e in (met_decides goal g).1 (h g l w.0 w.1))
    (within_decides (λ g. met a g && met b g) (met goal))

plain_decides : (f : List ℕ) (k : Kind) (r : Asked) → Decides (plain_covers f k r) (PlainGrants f k r)
plain_decides f Release r = together f r.new r.held.sight
plain_decides f Endorse r = together f r.held.hand r.new

steers_decides : (k : Kind) (r : Asked) (g : ℕ) → Decides (steers_kind k r g) (SteersKind k r g)
steers_decides Release r g =
    Decides-and (gains r g) (handed r.held g || handed r.task g)
    (Decides-and (met r.new g) (not (sees r.held g)) (met_decides r.new g) (Decides-not (sees r.held g) (met_decides r.held.sight g)))
    (Decides-or (handed r.held g) (handed r.task g) (met_decides r.held.hand g) (met_decides r.task.hand g))
steers_decides Endorse r g =
    Decides-and (handed r.task g && handed r.held g) (not (met r.new g))
    (Decides-and (handed r.task g) (handed r.held g) (met_decides r.task.hand g) (met_decides r.held.hand g))
    (Decides-not (met r.new g) (met_decides r.new g))

high_decides : (b : Limits) (r : Asked) → Decides (flows r.held b.high && flows r.task b.high) (BelowHigh b r)
high_decides b r =
    Decides-and (flows r.held b.high) (flows r.task b.high) (flows_by_groups r.held b.high) (flows_by_groups r.task b.high)

pub covered_decides : (l a b : Marks) → Decides (covered l a b) (CoveredByBoth l a b)
covered_decides l a b =
    let sight = sight_two_uncovered l.sight a.sight b.sight in
    let hand = hand_two_uncovered l.hand a.hand b.hand in
    Decides-like (covered l a b) (λ h g k. (sight.0 h.0 g k, hand.0 h.1 g k)) (λ h. (sight.1 (λ g k. (h g k).0), hand.1 (λ g k. (h g k).1)))
    (covered_sides l a b)

plain_law : (f : List ℕ) (r : Asked) → PlainLaw f r
plain_law f r =
    let d = plain_decides f r.kind r in
    record {
      grants = (λ e. d.0 (cond_grants (plain_covers f r.kind r) grant NotCovered e).0, λ p. cond-true (plain_covers f r.kind r) grant (Err NotCovered) (d.1 p));
      denies = λ n. cond-false (plain_covers f r.kind r) grant (Err NotCovered) (not_true (plain_covers f r.kind r) (λ e. n (d.0 e)));
    }

robust_law : (m : Mode) (below : Meaning) (r : Asked) → RobustLaw m below r
robust_law m below r =
    let d = steers_decides r.kind r in
    record {
      passes = λ q e. rw e refl;
      outside = λ e c. rw (e, c) refl;
      grants = (
        (λ e.
            let up = passing_grants (below r) _ e in
            let c = cond_grants (covers m r.kind) _ OutsideMode up.1 in
            (up.0, c.0, λ g l h. both_ways (steers r g) (least_none (steers r) 65536 (unless_grants _ c.1) g l) ((d g).1 h))),
        (λ h.
            let n : lowest (steers r) ≡ None = none_least (steers r) 65536 (λ g l. not_true (steers r g) (λ e. h.2 g l ((d g).0 e))) in
            rw (h.0, h.1, n) refl),
      );
      names = λ b c g l h up.
          let n : lowest (steers r) ≡ Some g = least_at (steers r) 65536 g l (none_least (steers r) g (λ k s. not_true (steers r k) (λ e. up k s ((d k).0 e)))) ((d g).1 h) in
          rw (b, c, n) refl;
    }

bounded_law : (m : Mode) (b : Limits) (below : Meaning) (r : Asked) → BoundedLaw m b below r
bounded_law m b below r =
    let hi = high_decides b r in
    let new = relabelled r.kind r.held r.new in
    let lo = covered_decides b.low new r.task in
    record {
      passes = λ q e. rw e refl;
      outside = λ e c. rw (e, c) refl;
      high = λ e c n.
          let h : (flows r.held b.high && flows r.task b.high) ≡ false = not_true _ (λ x. n (hi.0 x)) in
          rw (e, c, h) refl;
      low = λ e c x n.
          let h : (flows r.held b.high && flows r.task b.high) ≡ true = hi.1 x in
          let k : covered b.low new r.task ≡ false = not_true _ (λ y. n (lo.0 y)) in
          rw (e, c, h, k) refl;
      grants = (
        (λ e.
            let up = passing_grants (below r) _ e in
            let c = cond_grants (covers m r.kind) _ OutsideMode up.1 in
            let h = cond_grants (flows r.held b.high && flows r.task b.high) _ AboveHigh c.1 in
            let k = cond_grants (covered b.low new r.task) _ BelowLow h.1 in
            (up.0, c.0, hi.0 h.0, lo.0 k.0)),
        (λ w.
            let h : (flows r.held b.high && flows r.task b.high) ≡ true = hi.1 w.2 in
            let k : covered b.low new r.task ≡ true = lo.1 w.3 in
            rw (w.0, w.1, h, k) refl),
      );
    }

pub key_laws : KeyLaws
key_laws = record { plain = plain_law; robust = robust_law; bounded = bounded_law }

robust_releases : (m : Mode) (below : Meaning) → ReleasesRobustly (robust m below)
robust_releases m below r kind e g l h =
    ((robust_law m below r).grants.0 e).2 g l (subst (λ (k : Kind). SteersKind k r g) (sym kind) h)

bounded_releases : (m : Mode) (b : Limits) (below : Meaning) → ReleasesRobustly below → ReleasesRobustly (bounded m b below)
bounded_releases m b below law r kind e = law r kind (passing_grants (below r) _ e).0

pub over_robust_law : OverRobustLaw
over_robust_law _ (itself m below) = robust_releases m below
over_robust_law _ (wrapped m b below o) = bounded_releases m b below (over_robust_law below o)
over_robust_law _ (elsewhere k shown) = shown
