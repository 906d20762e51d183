-- Joining what was parted.
use Rattle.std.proofs.Common.{◌≡◌, ℕ, zero, suc, Bool, true, false, eqb, List, [], ◌∷◌, sym, refl, ap, ◌∙◌, subst, arith}
use Rattle.std.specs.List.{join_with_byte}
use Rattle.std.proofs.lemmas.Bool.{eqb-false, cond-true, cond-false}
use Rattle.std.proofs.lemmas.List.Splits.{join_with_byte-slice_split}
use Rattle.words.specs.Parted.{parted, before, joined, Without, AllWithout}
use Rattle.words.proofs.Parts.{parted_is}

joined_is : (sep : ℕ) (ws : List (List ℕ)) → joined sep ws ≡ join_with_byte sep ws
joined_is sep [] = refl
joined_is sep (w ∷ []) = refl
joined_is sep (w ∷ v ∷ ws) = rw (joined_is sep (v ∷ ws)) refl

without_nil : (sep : ℕ) → Without sep []
without_nil sep k l e = omega (arith, l)

without_cons : (sep b : ℕ) (w : List ℕ) → (b ≡ sep → ⊥) → Without sep w → Without sep (b ∷ w)
without_cons sep b w h g zero l e = h e
without_cons sep b w h g (suc k) l e = g k (omega (arith, l)) e

all_before : (sep b : ℕ) (ws : List (List ℕ)) → (b ≡ sep → ⊥) → AllWithout sep ws → AllWithout sep (before b ws)
all_before sep b [] h a = (without_cons sep b [] h (without_nil sep), tt)
all_before sep b (w ∷ ws) h a = (without_cons sep b w h a.0, a.1)

pub all_without : (sep : ℕ) (bs : List ℕ) → AllWithout sep (parted sep bs)
all_without sep [] = (without_nil sep, tt)
all_without sep (b ∷ bs) = go (all_without sep bs) (eqb b sep) refl
  where
    go : AllWithout sep (parted sep bs) → (x : Bool) → eqb b sep ≡ x → AllWithout sep (parted sep (b ∷ bs))
    go ih true p = subst (AllWithout sep) (sym (cond-true _ _ _ p)) (without_nil sep, ih)
    go ih false p =
        subst (AllWithout sep) (sym (cond-false _ _ _ p)) (all_before sep b (parted sep bs) (eqb-false b sep p) ih)

pub joins_parts : (sep : ℕ) (bs : List ℕ) → joined sep (parted sep bs) ≡ bs
joins_parts sep bs =
    joined_is sep (parted sep bs) ∙ (ap (join_with_byte sep) (sym (parted_is sep bs)) ∙ join_with_byte-slice_split sep bs)
