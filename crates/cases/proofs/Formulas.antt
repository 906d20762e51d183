-- The rows of formulas hold.
use Rattle.std.proofs.Common.{◌≡◌, ◌≤◌, ◌∙◌, ℕ, zero, suc, ◌<◌, List, [], ◌∷◌, get_or, take, Some, sym, refl, ap, subst, ap₂, arith, lit<, lit≤}
use lib.Bits.{bit_and}
use Rattle.answer.specs.declared.Refusal.{Refusal}
use Rattle.answer.specs.declared.Answer.TheVariants.{Refused}
use Rattle.answer.specs.Told.{told, question_of}
use Rattle.clause.specs.Meaning.{Meets, Means}
use Rattle.formula.specs.Kept.{Behind, Unused, Sixteen}
use Rattle.cases.specs.Table.{one_two}
use Rattle.cases.specs.Formulas.{eight, Sized, KeptForms, HeldForms, Shown, Formulas}
use Rattle.cases.proofs.Apart.{differ}

sized : Sized
sized =
    record {
      eight_fit = refl;
      nine_do_not = refl;
      fitting_eight = refl;
      fitting_nine = refl;
      list_of_64 = refl;
      list_of_65 = refl;
      and_drops = refl;
      or_drops = refl;
      party_three = refl;
      party_zero = refl;
    }

kept_forms : KeptForms
kept_forms =
    record {
      beside = refl;
      containing = refl;
      falling = refl;
      same = refl;
      beside_each = refl;
      beside_first = refl;
      beside_last = refl;
      in_order = refl;
      out_of_order = refl;
      first_contained = refl;
      eight_kept = refl;
      nine_not = refl;
      falling_not = refl;
      truth_kept = refl;
      falling_none = refl;
      stands_behind = above_both;
      contains_first = λ b. let h : 1 < 1 = (b 0 0 (lit< tt)).1 in omega arith;
      below_last = λ b. let h : 4 < 2 = (b 1 0 (lit< tt)).0 in omega arith;
      unused = behind;
      one_unused = λ u. differ {m = 1} {n = 0} refl (u 0 (lit≤ tt));
      two_unused = λ u. differ {m = 2} {n = 0} refl (u 1 (lit≤ tt));
      rising = pair (λ a b. a < b) (1 ∷ 2 ∷ 0 ∷ []) (lit< tt);
      falling_at_last = λ r. let h : 2 < 0 = r 1 2 (lit< tt) (lit< tt) in omega arith;
      level = λ r. let h : 2 < 2 = r 0 1 (lit< tt) (lit< tt) in omega arith;
      parties_apart = pair (λ a b. bit_and a b < a) (2 ∷ 5 ∷ 7 ∷ []) (lit< tt);
      contained = λ a. let h : 2 < 2 = a 0 1 (lit< tt) (lit< tt) in omega arith;
      sixteen = inside;
      seventeen = λ s. let h : 65536 < 65536 = s 0 in omega arith;
      seventeen_behind = λ s. let h : 65536 < 65536 = s 1 in omega arith;
    }
  where
    above_both : Behind (1 ∷ 2 ∷ []) 4
    above_both zero d h = (lit< tt, lit< tt)
    above_both (suc zero) d h = (lit< tt, lit< tt)
    above_both (suc (suc k)) d h = absurd (omega arith)

    behind : Unused (1 ∷ 0 ∷ []) 1
    behind zero h = absurd (omega arith)
    behind (suc zero) h = refl
    behind (suc (suc i)) h = refl

    -- of two places in use, the one that comes first is 0 and the other 1
    pair : (R : ℕ → ℕ → Type 0) (cs : List ℕ) → R (get_or cs 0 0) (get_or cs 1 0) → (i j : ℕ) → i < j → j < 2 → R (get_or cs i 0) (get_or cs j 0)
    pair R cs r zero zero h k = absurd (omega arith)
    pair R cs r zero (suc zero) h k = r
    pair R cs r zero (suc (suc j)) h k = absurd (omega arith)
    pair R cs r (suc i) zero h k = absurd (omega arith)
    pair R cs r (suc i) (suc zero) h k = absurd (omega arith)
    pair R cs r (suc i) (suc (suc j)) h k = absurd (omega arith)

    inside : Sixteen (65535 ∷ [])
    inside zero = lit< tt
    inside (suc i) = lit< tt

held_forms : HeldForms
held_forms =
    record {
      in_use = λ f p q. ap₂ (λ (n : ℕ) (cs : List ℕ). take n cs) p q;
      clauses_in_row = λ f e. ap Some e;
      clauses_in_none = refl;
      kept_fits = λ law cs s k. ((law cs s).0 k).0;
      kept_reduced = λ law cs s k. ((law cs s).0 k).1;
      reduced_kept = λ law cs s l e. (law cs s).1 (l, e);
      formed = λ f e. subst (λ (cs : List ℕ). Means cs (Meets one_two)) (sym e) (λ g h. (λ m. m, λ m. m));
      misformed = λ f e m. ((subst (λ (cs : List ℕ). Means cs (λ g. Unit {0})) e m 2 (lit< tt)).1 tt).0 refl;
      needless = λ n. n refl eight (lit≤ tt) (λ g h. (λ m. m, λ m. m));
      at_one = λ e. absurd (differ {m = 1} {n = 2} refl e);
    }

shown : Shown
shown =
    record {
      last_party = λ p e. (e, lit< tt);
      another_party = λ p e n. differ {m = 14} {n = 15} refl (sym e ∙ n.0);
      no_sixteenth = λ p n. let h : 16 < 16 = n.1 in omega arith;
      sixteen_refused = (refl, lit≤ tt);
      at_three_only = λ n. let q : 4 ≡ 3 = ap number n.0 in omega arith;
      fifteen_not_refused = λ n. let h : 16 ≤ 15 = n.1 in omega arith;
      truth_printed = refl;
      one_printed = refl;
      two_printed = refl;
    }
  where
    number : Refusal → ℕ
    number q = question_of (told (Refused q))

pub formulas : Formulas
formulas = record { sized = sized; kept_forms = kept_forms; held_forms = held_forms; shown = shown }
