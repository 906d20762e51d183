use Rattle.std.proofs.Common.{◌≡◌, ℕ, ◌+◌, ◌<◌, ◌≤◌, min, List, get_or, Some, None, Option, sym, refl, subst, inl, inr, arith, below_more, MatchOption}
use Rattle.std.proofs.lemmas.Bool.{cases_order}
use Rattle.clause.specs.Parts.{Over, Least, Found}

module _ (list : List ℕ) (n : ℕ) (chosen : List ℕ) where
  -- a clause that contains a chosen one changes nothing
  pub found_over : (o : Option ℕ) → Found list n chosen o → Over chosen (get_or list n 0) → Found list (n + 1) chosen o
  found_over None f h = below_more (λ k. Over chosen (get_or list k 0)) n f h
  found_over (Some c) f h =
      record {
        place = f.place;
        inside = omega arith;
        is = f.is;
        beside = f.beside;
        least = below_more (λ k. (Over chosen (get_or list k 0) → ⊥) → c ≤ get_or list k 0) n f.least (λ no'. absurd (no' h));
      }

  -- one that is no less than the least
  found_keep : (c : ℕ) → Least list n chosen c → c ≤ get_or list n 0 → Least list (n + 1) chosen c
  found_keep c f h =
      record {
        place = f.place;
        inside = omega arith;
        is = f.is;
        beside = f.beside;
        least = below_more (λ k. (Over chosen (get_or list k 0) → ⊥) → c ≤ get_or list k 0) n f.least (λ _. h);
      }

  -- the first
  found_first : Found list n chosen None → (Over chosen (get_or list n 0) → ⊥) → Least list (n + 1) chosen (get_or list n 0)
  found_first f h =
      record {
        place = n;
        inside = omega arith;
        is = refl;
        beside = h;
        least = below_more (λ k. (Over chosen (get_or list k 0) → ⊥) → get_or list n 0 ≤ get_or list k 0) n (λ k l no'. absurd (no' (f k l))) (λ _. omega arith);
      }

  -- one that is less
  found_less : (c : ℕ) → Least list n chosen c → get_or list n 0 < c → (Over chosen (get_or list n 0) → ⊥) → Least list (n + 1) chosen (get_or list n 0)
  found_less c f l h =
      record {
        place = n;
        inside = omega arith;
        is = refl;
        beside = h;
        least = below_more (λ k. (Over chosen (get_or list k 0) → ⊥) → get_or list n 0 ≤ get_or list k 0) n (λ k lt no'. omega (arith, f.least k lt no')) (λ _. omega arith);
      }

  -- the lesser of it and what was found
  pub found_lesser : (o : Option ℕ) (r : ℕ) → Found list n chosen o → (Over chosen (get_or list n 0) → ⊥) → MatchOption o (r ≡ get_or list n 0) (λ c. r ≡ min c (get_or list n 0)) → Least list (n + 1) chosen r
  found_lesser None r f h e = subst (Least list (n + 1) chosen) (sym e) (found_first f h)
  found_lesser (Some c) r f h e =
      elim (cases_order c (get_or list n 0)) [
        | inl s ↦ let q : c ≡ r = omega (arith, e, s) in subst (Least list (n + 1) chosen) q (found_keep c f (omega (arith, s)))
        | inr o ↦ elim o [
          | inl l ↦ let q : c ≡ r = omega (arith, e, l) in subst (Least list (n + 1) chosen) q (found_keep c f (omega (arith, l)))
          | inr l ↦ let q : get_or list n 0 ≡ r = omega (arith, e, l) in subst (Least list (n + 1) chosen) q (found_less c f l h)
        ]
      ]
