-- Parting a row of bytes, by one cut or by all.
use Rattle.std.proofs.Common.{◌≡◌, ℕ, false, eqb, List, [], ◌∷◌, ◌++◌, Some, None, Option, sym, refl, ap, ◌∙◌, arith, Bor}
use Rattle.std.specs.List.{slice_split, onto_first, All}
use Rattle.std.proofs.lemmas.Bool.{eq-eqb}
use Rattle.std.proofs.lemmas.Grind.{common_steps}
use Rattle.std.proofs.lemmas.List.Splits.{slice_split_at, slice_split_none}
use Rattle.words.specs.Parted.{parted, before, parts_of, Without, Cut}

before_is : (b : ℕ) (ws : List (List ℕ)) → onto_first b ws ≡ before b ws
before_is b [] = refl
before_is b (w ∷ ws) = refl

-- the library's word for the parts
pub parted_is : (sep : ℕ) (bs : List ℕ) → slice_split (λ b. eqb b sep) bs ≡ parted sep bs
parted_is sep [] = refl
parted_is sep (b ∷ bs) =
    let ih = parted_is sep bs in
    rw ih (rw before_is refl)

none_passes : (sep : ℕ) (word : List ℕ) → Without sep word → All (λ b. eqb b sep ≡ false) word
none_passes sep word h = λ k d l. let n = h k l in grind (arith, common_steps)

pub cut_parts : (sep : ℕ) (line word : List ℕ) (o : Option (Bor (List ℕ))) → Cut sep line word o → parted sep line ≡ word ∷ parts_of sep o
cut_parts sep line word None c =
    ap (parted sep) (sym c.0) ∙ (sym (parted_is sep word) ∙ slice_split_none (λ b. eqb b sep) word (none_passes sep word c.1))
cut_parts sep line word (Some r) c =
    ap (parted sep) c.0
    ∙ (sym (parted_is sep (word ++ (sep ∷ r.now)))
    ∙ (slice_split_at (λ b. eqb b sep) word sep r.now (none_passes sep word c.1) (eq-eqb sep sep refl) ∙ ap (λ (ws : List (List ℕ)). word ∷ ws) (parted_is sep r.now)))
