-- Tests over all groups, and what they decide. Assumes nothing.
use Rattle.std.proofs.Common.{◌≡◌, ℕ, ◌<◌, Bool, true, false, not, ◌&&◌, ◌||◌, eqb, ◌⊎◌, List, [], ◌∷◌, Some, None, Decides, Option, sym, refl, ap, inl, inr, true≢false}
use lib.Bits.{bit_and}
use Rattle.std.proofs.lemmas.Bool.{eqb-true, eq-eqb, both_ways, cases_Bool}
use Rattle.std.proofs.lemmas.Bool.Decides.{Decides-and, Decides-not, Decides-like, same_from_decides}
pub use Rattle.std.proofs.lemmas.Bool.{false_from_ne_true as not_true}
use Rattle.clause.specs.Meaning.{Meets, BothImply}
use Rattle.clause.specs.Groups.{met, lowest, is_none, nobody, within}
use Rattle.clause.proofs.Least.{least_none, none_least}

pub met_decides : (cs : List ℕ) (g : ℕ) → Decides (met cs g) (Meets cs g)
met_decides [] g = (λ _. tt, λ _. refl)
met_decides (c ∷ cs) g =
    Decides-and (not (eqb (bit_and c g) 0)) (met cs g)
    (Decides-not (eqb (bit_and c g) 0) (eqb-true (bit_and c g) 0, eq-eqb (bit_and c g) 0)) (met_decides cs g)

pub none_is : (o : Option ℕ) → is_none o ≡ true → o ≡ None
none_is None e = refl
none_is (Some g) e = absurd (true≢false (sym e))

pub nobody_decides : (p : ℕ → Bool) → Decides (nobody p) ((g : ℕ) → g < 65536 → p g ≡ true → ⊥)
nobody_decides p = (
  λ e g l h. both_ways (p g) (least_none p 65536 (none_is (lowest p) e) g l) h,
  λ h. ap is_none (none_least p 65536 (λ g l. not_true (p g) (h g l))),
)

but_not : (a b : Bool) → ((a && not b) ≡ true → ⊥) → a ≡ true → b ≡ true
but_not true true h e = refl
but_not true false h e = absurd (h refl)
but_not false b h e = absurd (true≢false (sym e))

not_but : (a b : Bool) → (a ≡ true → b ≡ true) → (a && not b) ≡ true → ⊥
not_but true true h e = true≢false (sym e)
not_but true false h e = true≢false (sym (h refl))
not_but false b h e = true≢false (sym e)

pub within_decides : (p q : ℕ → Bool) → Decides (within p q) ((g : ℕ) → g < 65536 → p g ≡ true → q g ≡ true)
within_decides p q =
    Decides-like (within p q)
    (λ h g l. but_not (p g) (q g) (h g l)) (λ h g l. not_but (p g) (q g) (h g l))
    (nobody_decides (λ g. p g && not (q g)))

-- a test that decides what holds of all groups is that test
pub within_is : (r : Bool) (p q : ℕ → Bool) (P Q : ℕ → Type 0) → ((g : ℕ) → Decides (p g) (P g)) → ((g : ℕ) → Decides (q g) (Q g))
    → Decides r ((g : ℕ) → g < 65536 → P g → Q g) → r ≡ within p q
within_is r p q P Q dp dq d =
    same_from_decides r (within p q) d
    (Decides-like (within p q) (λ h g l x. (dq g).0 (h g l ((dp g).1 x))) (λ h g l x. (dq g).1 (h g l ((dp g).0 x))) (within_decides p q))

pub both_imply_is : (r : Bool) (a b goal : List ℕ) → Decides r (BothImply a b goal) → r ≡ within (λ g. met a g && met b g) (met goal)
both_imply_is r a b goal d =
    within_is r (λ g. met a g && met b g) (met goal) (λ g. Meets a g × Meets b g) (Meets goal)
    (λ g. Decides-and (met a g) (met b g) (met_decides a g) (met_decides b g)) (met_decides goal)
    (Decides-like r (λ h g l m. h g l m.0 m.1) (λ h g l m k. h g l (m, k)) d)

-- nobody who gains has one of two hands: told hand by hand
pub hand_by_hand : (n o h k : ℕ → Bool) → (within (λ g. n g && h g) o && within (λ g. n g && k g) o) ≡ nobody (λ g. (n g && not (o g)) && (h g || k g))
hand_by_hand n o h k =
    same_from_decides _ _
    (Decides-and (within (λ g. n g && h g) o) (within (λ g. n g && k g) o) (within_decides (λ g. n g && h g) o) (within_decides (λ g. n g && k g) o))
    (Decides-like (nobody (λ g. (n g && not (o g)) && (h g || k g)))
    (λ f. (λ g l e. one (n g) (o g) (h g) (k g) (f g l) e, λ g l e. two (n g) (o g) (h g) (k g) (f g l) e))
    (λ f g l e. none (n g) (o g) (h g) (k g) (f.0 g l) (f.1 g l) e)
    (nobody_decides (λ g. (n g && not (o g)) && (h g || k g))))
  where
    one : (n o h k : Bool) → (((n && not o) && (h || k)) ≡ true → ⊥) → (n && h) ≡ true → o ≡ true
    one true true true k f e = refl
    one true false true k f e = absurd (f refl)
    one true o false k f e = absurd (true≢false (sym e))
    one false o h k f e = absurd (true≢false (sym e))

    two : (n o h k : Bool) → (((n && not o) && (h || k)) ≡ true → ⊥) → (n && k) ≡ true → o ≡ true
    two true true h true f e = refl
    two true false true true f e = absurd (f refl)
    two true false false true f e = absurd (f refl)
    two true o h false f e = absurd (true≢false (sym e))
    two false o h k f e = absurd (true≢false (sym e))

    none : (n o h k : Bool) → ((n && h) ≡ true → o ≡ true) → ((n && k) ≡ true → o ≡ true) → ((n && not o) && (h || k)) ≡ true → ⊥
    none true true h k f q e = true≢false (sym e)
    none true false true k f q e = true≢false (sym (f refl))
    none true false false true f q e = true≢false (sym (q refl))
    none true false false false f q e = true≢false (sym e)
    none false o h k f q e = true≢false (sym e)

pub and_yes : (x y r : Bool) → true ≡ x → r ≡ y → r ≡ (x && y)
and_yes true y r e f = f
and_yes false y r e f = absurd (true≢false e)

pub and_no : (x y r : Bool) → false ≡ x → r ≡ false → r ≡ (x && y)
and_no true y r e f = absurd (true≢false (sym e))
and_no false y r e f = f

-- a group meets a formula or does not
pub decided : (cs : List ℕ) (g : ℕ) → Meets cs g ⊎ (Meets cs g → ⊥)
decided cs g =
    elim (cases_Bool (met cs g)) [
      | inl e ↦ inl ((met_decides cs g).0 e)
      | inr e ↦ inr (λ m. both_ways (met cs g) e ((met_decides cs g).1 m))
    ]

-- so it meets one that it does not miss
pub stable : (cs : List ℕ) (g : ℕ) → ((Meets cs g → ⊥) → ⊥) → Meets cs g
stable cs g h = elim (decided cs g) [ inl m ↦ m | inr n ↦ absurd (h n) ]
