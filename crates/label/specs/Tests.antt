-- Tests of sight and hand over all groups.
use Rattle.std.specs.Prelude.{◌≡◌, ℕ, ◌<◌, Bool, true, not, ◌&&◌, ◌||◌, ◌⊎◌, ◌↔◌, List, Decides}
use Rattle.std.proofs.Common.{sym, ap, ◌∙◌, arith}
use Rattle.std.proofs.lemmas.Bool.Decides.{Decides-and, Decides-or, Decides-like, same_from_decides}
use Rattle.clause.specs.Meaning.{Meets, Means, Implies, BothImply, ImpliesEither}
use Rattle.clause.specs.Groups.{met, within}
use Rattle.clause.proofs.Tests.{met_decides, within_decides}
use Rattle.formula.specs.Forms.{both, either}
use Rattle.formula.proofs.Forming.{means_both, means_either}
use Rattle.label.specs.Marks.{Group, Covered, CoveredByTwo, TouchesEither, sight_touches, hand_touches}

-- "and" and "or", group by group
pub met_both : (a b : List ℕ) (g : ℕ) → g < 65536 → met (both a b) g ≡ (met a g && met b g)
met_both a b g l =
    same_from_decides (met (both a b) g) (met a g && met b g)
    (Decides-like (met (both a b) g) (means_both a b g l).0 (means_both a b g l).1 (met_decides (both a b) g))
    (Decides-and (met a g) (met b g) (met_decides a g) (met_decides b g))

pub met_either : (a b : List ℕ) (g : ℕ) → g < 65536 → met (either a b) g ≡ (met a g || met b g)
met_either a b g l =
    same_from_decides (met (either a b) g) (met a g || met b g)
    (Decides-like (met (either a b) g) (means_either a b g l).0 (means_either a b g l).1 (met_decides (either a b) g))
    (Decides-or (met a g) (met b g) (met_decides a g) (met_decides b g))

not_and : (x y : Bool) → not (x && y) ≡ (not x || not y)
not_and x y = grind arith

pub sight_either : (a b : List ℕ) → TouchesEither sight_touches (both a b) a b
sight_either a b o = ap not (met_both a b o.0 o.1) ∙ not_and (met a o.0) (met b o.0)

pub hand_either : (a b : List ℕ) → TouchesEither hand_touches (either a b) a b
hand_either a b o = met_either a b o.0 o.1

-- the other way round
turned : (x y : Bool) → (y ≡ true → x ≡ true) → not x ≡ true → not y ≡ true
turned x y h e = grind arith

back : (x y : Bool) → (not x ≡ true → not y ≡ true) → y ≡ true → x ≡ true
back x y h e = grind arith

turned_two : (x y z : Bool) → (y ≡ true → z ≡ true → x ≡ true) → not x ≡ true → (not y || not z) ≡ true
turned_two x y z h e = grind arith

back_two : (x y z : Bool) → (not x ≡ true → (not y || not z) ≡ true) → y ≡ true → z ≡ true → x ≡ true
back_two x y z h e f = grind arith

-- what covering says of formulas
pub sight_uncovered : (s t : List ℕ) → Covered sight_touches s t ↔ Implies t s
sight_uncovered s t = (
  λ h g l m. (met_decides s g).0 (back (met s g) (met t g) (h (g, l)) ((met_decides t g).1 m)),
  λ h o. turned (met s o.0) (met t o.0) (λ e. (met_decides s o.0).1 (h o.0 o.1 ((met_decides t o.0).0 e))),
)

pub hand_uncovered : (s t : List ℕ) → Covered hand_touches s t ↔ Implies s t
hand_uncovered s t = (
  λ h g l m. (met_decides t g).0 (h (g, l) ((met_decides s g).1 m)),
  λ h o e. (met_decides t o.0).1 (h o.0 o.1 ((met_decides s o.0).0 e)),
)

pub sight_covered : (r : Bool) (s t : List ℕ) → Decides r (Implies t s) → Decides r (Covered sight_touches s t)
sight_covered r s t d = Decides-like r (sight_uncovered s t).1 (sight_uncovered s t).0 d

pub hand_covered : (r : Bool) (s t : List ℕ) → Decides r (Implies s t) → Decides r (Covered hand_touches s t)
hand_covered r s t d = Decides-like r (hand_uncovered s t).1 (hand_uncovered s t).0 d

pub sight_two_uncovered : (s a b : List ℕ) → CoveredByTwo sight_touches s a b ↔ BothImply a b s
sight_two_uncovered s a b = (
  λ h g l m n. (met_decides s g).0 (back_two (met s g) (met a g) (met b g) (h (g, l)) ((met_decides a g).1 m) ((met_decides b g).1 n)),
  λ h o. turned_two (met s o.0) (met a o.0) (met b o.0) (λ e f. (met_decides s o.0).1 (h o.0 o.1 ((met_decides a o.0).0 e) ((met_decides b o.0).0 f))),
)

pub hand_two_uncovered : (s a b : List ℕ) → CoveredByTwo hand_touches s a b ↔ ImpliesEither s a b
hand_two_uncovered s a b =
    let either : (g : ℕ) → Decides (met a g || met b g) (Meets a g ⊎ Meets b g) = λ g. Decides-or (met a g) (met b g) (met_decides a g) (met_decides b g) in (
      λ h g l m. (either g).0 (h (g, l) ((met_decides s g).1 m)),
      λ h o e. (either o.0).1 (h o.0 o.1 ((met_decides s o.0).0 e)),
    )

pub sight_two : (r : Bool) (s a b : List ℕ) → Decides r (BothImply a b s) → Decides r (CoveredByTwo sight_touches s a b)
sight_two r s a b d = Decides-like r (sight_two_uncovered s a b).1 (sight_two_uncovered s a b).0 d

pub hand_two : (r : Bool) (s a b : List ℕ) → Decides r (ImpliesEither s a b) → Decides r (CoveredByTwo hand_touches s a b)
hand_two r s a b d = Decides-like r (hand_two_uncovered s a b).1 (hand_two_uncovered s a b).0 d

-- what is covered of all onlookers is within, group by group
pub covered_within : (p q : ℕ → Bool) → Decides (within p q) ((o : Group) → p o.0 ≡ true → q o.0 ≡ true)
covered_within p q = Decides-like (within p q) (λ h o. h o.0 o.1) (λ h g l. h (g, l)) (within_decides p q)

-- what a mark means that touches exactly those that either of two touches
one_side : (x y z : Bool) → not x ≡ (not y || not z) → x ≡ (y && z)
one_side x y z e = grind arith

pub sight_means : (m a b : List ℕ) → TouchesEither sight_touches m a b → Means m (λ g. Meets a g × Meets b g)
sight_means m a b h g l =
    let d = Decides-and (met a g) (met b g) (met_decides a g) (met_decides b g) in
    let e = one_side (met m g) (met a g) (met b g) (h (g, l)) in
    (λ k. d.0 (sym e ∙ (met_decides m g).1 k), λ p. (met_decides m g).0 (e ∙ d.1 p))

pub hand_means : (m a b : List ℕ) → TouchesEither hand_touches m a b → Means m (λ g. Meets a g ⊎ Meets b g)
hand_means m a b h g l =
    let d = Decides-or (met a g) (met b g) (met_decides a g) (met_decides b g) in
    let e = h (g, l) in
    (λ k. d.0 (sym e ∙ (met_decides m g).1 k), λ p. (met_decides m g).0 (e ∙ d.1 p))
