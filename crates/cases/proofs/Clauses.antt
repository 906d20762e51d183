-- The rows of groups and clauses hold.
use Rattle.std.proofs.Common.{◌≡◌, ℕ, zero, suc, ◌/◌, ◌%◌, ◌^◌, ◌<◌, ◌≤◌, true, not, ◌&&◌, eqb, [], ◌∷◌, get_or, refl, subst₂, inl, inr, arith, lit<, lit≤}
use mathlib.Core.Bool.{false≢true}
use lib.Bits.{bit_and, and_shifted}
use Rattle.clause.specs.Groups.{least}
use Rattle.clause.specs.Meaning.{Meets}
use Rattle.clause.specs.Parties.{InBoth}
use Rattle.clause.specs.Parts.{Over, Least}
use Rattle.lowest.specs.First.{Lowest}
use Rattle.cases.specs.Table.{two}
use Rattle.cases.specs.Clauses.{sixteen, beyond, Tested, Reducing, Stated, Parted, FoundLeast, Clauses}
use Rattle.cases.proofs.Apart.{differ, every, each}

tested : Tested
unfolding least
tested =
    record {
      meets_each = refl;
      misses_second = refl;
      misses_first = refl;
      meets_truth = refl;
      least_of_many = refl;
      least_at_last = refl;
      none_below = refl;
      least_zero = refl;
      earlier_found = refl;
      none_is_none = refl;
      one_is_not_none = refl;
      earlier_second = refl;
      earlier_first = refl;
      earlier_left = refl;
      earlier_right = refl;
    }

reducing : Reducing
reducing =
    record {
      contains = refl;
      contained = refl;
      contains_not_itself = refl;
      beside = refl;
      some_first = refl;
      some_last = refl;
      some_none = refl;
      is_minimal = refl;
      not_minimal = refl;
      placed_between = refl;
      placed_once = refl;
      rising_once = refl;
      all_reduced = refl;
      each_with_each = refl;
      with_none = refl;
    }

all_meet : Meets sixteen 65535
all_meet = (
  differ refl,
  (
    differ refl,
    (
      differ refl,
      (
        differ refl,
        (
          differ refl,
          (
            differ refl,
            (
              differ refl,
              (
                differ refl,
                (differ refl, (differ refl, (differ refl, (differ refl, (differ refl, (differ refl, (differ refl, (differ refl, tt)))))))),
              ),
            ),
          ),
        ),
      ),
    ),
  ),
)

-- no group has a seventeenth party
none_beyond : {A : Type 0} (g : ℕ) → g < 65536 → Meets beyond g → A
none_beyond g h m = absurd (m.0 (and_shifted 1 16 g h))

stated : Stated
stated =
    record {
      shares = differ refl;
      shares_nothing = λ s. s refl;
      meets_each = (differ refl, (differ refl, tt));
      misses_second = λ m. m.1.0 refl;
      misses_first = λ m. m.0 refl;
      implies = λ g h m. m.1;
      implies_not = λ i. (i 1 (lit< tt) (differ refl, tt)).1.0 refl;
      implies_to_the_last = λ i. (i 65535 (lit< tt) all_meet).0 refl;
      implies_of_groups = λ g h m. none_beyond g h m;
      both_imply = λ g h a b. (a.0, b);
      both_imply_not = λ i. (i 1 (lit< tt) (differ refl, tt) (differ refl, tt)).0 refl;
      both_imply_to_the_last = λ i. (i 65535 (lit< tt) all_meet tt).0 refl;
      both_imply_of_groups = λ g h a b. none_beyond g h b;
      implies_left = λ g h m. inl m;
      implies_right = λ g h m. inr m;
      implies_neither = λ i. elim (i 1 (lit< tt) (differ refl, tt)) [ inl m ↦ m.1.0 refl | inr m ↦ m.0 refl ];
      implies_either_to_the_last = λ i. elim (i 65535 (lit< tt) all_meet) [ inl m ↦ m.0 refl | inr m ↦ m.0 refl ];
      implies_either_of_groups = λ g h m. none_beyond g h m;
      alike = (λ g h m. (m.1.0, (m.0, tt)), λ g h m. (m.1.0, (m.0, tt)));
      not_alike = λ a. (a.1 2 (lit< tt) tt).0 refl;
      not_alike_either = λ a. (a.0 2 (lit< tt) tt).0 refl;
      means = λ g h. (λ m. (m.0, m.1.0), λ p. (p.0, (p.1, tt)));
      means_less = λ m. ((m 2 (lit< tt)).1 tt).0 refl;
      means_more = λ m. (m 1 (lit< tt)).0 (differ refl, tt);
      means_to_the_last = λ m. let h : 65535 < 65535 = (m 65535 (lit< tt)).0 tt in omega arith;
      means_of_groups = λ g h. (λ m. h, λ p. tt);
    }

-- no party is in both where none of the sixteen is
none_in_both : (c g : ℕ) → every (λ k. not (eqb (c / 2 ^ k % 2) 1 && eqb (g / 2 ^ k % 2) 1)) 16 ≡ true → InBoth c g → ⊥
none_in_both c g e b = no_both b.2 b.3 (each (λ k. not (eqb (c / 2 ^ k % 2) 1 && eqb (g / 2 ^ k % 2) 1)) 16 e b.0 b.1)
  where
    no_both : {m n : ℕ} → m ≡ 1 → n ≡ 1 → not (eqb m 1 && eqb n 1) ≡ true → ⊥
    no_both {m} {n} p q t = false≢true (subst₂ (λ (x y : ℕ). not (eqb x 1 && eqb y 1) ≡ true) p q t)

parted : Parted
parted =
    record {
      member = refl;
      no_member_below = differ refl;
      no_member_above = differ refl;
      member_of_more = refl;
      in_both = (3, lit< tt, refl, refl);
      in_neither = none_in_both 5 10 refl;
      last_party = (15, lit< tt, refl, refl);
      no_later_party = none_in_both 65536 65536 refl;
      sharing = λ law. law 65540 12 (lit< tt);
      sharing_to_the_last = λ law. law 1 65535 (lit< tt);
    }

-- the places below two
at_two : (P : ℕ → Type 0) → P 0 → P 1 → (k : ℕ) → k < 2 → P k
at_two P p q zero h = p
at_two P p q (suc zero) h = q
at_two P p q (suc (suc k)) h = absurd (omega arith)

found_least : FoundLeast
found_least =
    record {
      part = refl;
      no_part = differ refl;
      over = (1, lit< tt, refl);
      not_over = λ o. at_two (λ k. bit_and (get_or (8 ∷ 1 ∷ []) k 0) 6 ≡ get_or (8 ∷ 1 ∷ []) k 0 → ⊥) (differ refl) (differ refl) o.0 o.1 o.2;
      over_none = λ o. let h : o.0 < 0 = o.1 in omega arith;
      least = five-is-least;
      not_inside = λ l. at_two (λ k. get_or (6 ∷ 5 ∷ 1 ∷ []) k 0 ≡ 1 → ⊥) (differ refl) (differ refl) l.place l.inside l.is;
      not_beside = λ l. l.beside (0, lit< tt, refl);
      not_least = λ l. let h : 5 ≤ 1 = l.least 1 (lit< tt) (λ o. let z : o.0 < 0 = o.1 in omega arith) in omega arith;
      found = five-is-least;
      found_none = at_two (λ k. Over two (get_or (6 ∷ 3 ∷ 1 ∷ []) k 0)) (0, lit< tt, refl) (0, lit< tt, refl);
      found_some = λ f. beside_two (f 1 (lit< tt));
      lowest = three-is-lowest;
      not_held = λ l. let h : 3 ≤ 2 = l.holds in omega arith;
      not_lowest = λ l. l.least 3 (lit< tt) (lit≤ tt);
      lowest_is_last = record { parties = lit< tt; holds = lit≤ tt; least = λ k h p. omega arith };
      lowest_is_group = λ l. let h : 65536 < 65536 = l.parties in omega arith;
      first = three-is-lowest;
      not_first = λ l. l.least 3 (lit< tt) (lit≤ tt);
      first_of_none = λ g h p. omega arith;
      not_none = λ n. n 65535 (lit< tt) (lit≤ tt);
      fitting = record { inside = refl; meets = ((differ refl, tt), (differ refl, tt)) };
      fits_not_first = λ f. f.meets.0.0 refl;
      fits_not_second = λ f. f.meets.1.0 refl;
      fits_not_inside = λ f. differ {m = 3} {n = 7} refl f.inside;
      missing = record { meets = ((differ refl, tt), (differ refl, tt)); misses = λ m. m.0 refl };
      misses_none = λ m. m.misses (differ refl, tt);
      missing_first = λ m. m.meets.0.0 refl;
      missing_second = λ m. m.meets.1.0 refl;
    }
  where
    beside_two : Over two 5 → ⊥
    beside_two o = one_place o.0 o.1 o.2
      where
        one_place : (k : ℕ) → k < 1 → bit_and (get_or two k 0) 5 ≡ get_or two k 0 → ⊥
        one_place zero h e = differ {m = 0} {n = 2} refl e
        one_place (suc k) h e = absurd (omega arith)

    five-is-least : Least (6 ∷ 5 ∷ 1 ∷ []) 2 two 5
    five-is-least =
        record {
          place = 1;
          inside = lit< tt;
          is = refl;
          beside = beside_two;
          least = at_two (λ k. (Over two (get_or (6 ∷ 5 ∷ 1 ∷ []) k 0) → ⊥) → 5 ≤ get_or (6 ∷ 5 ∷ 1 ∷ []) k 0) (λ n. lit≤ tt) (λ n. lit≤ tt);
        }

    three-is-lowest : Lowest (λ g. 3 ≤ g) 3
    three-is-lowest = record { parties = lit< tt; holds = lit≤ tt; least = λ k h p. omega arith }

pub clauses : Clauses
clauses = record { tested = tested; reducing = reducing; stated = stated; parted = parted; found_least = found_least }
