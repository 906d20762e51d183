-- Words taken from a line, one at a time.
use Rattle.std.proofs.Common.{◌≡◌, ℕ, ◌<◌, eqb, List, [], ◌∷◌, length, Some, None, Option, sym, refl, ◌∙◌, subst, arith, Bor}
use Rattle.std.proofs.lemmas.List.Splits.{length-slice_split}
use Rattle.words.specs.Parted.{parted, Cut}
use Rattle.words.proofs.Parts.{cut_parts, parted_is}
use Rattle.lines.specs.Forms.{Words, Form, ends}
use Rattle.lines.specs.Rest.{left_of}
use Rattle.lines.specs.Left.{Took}

pub took : (ws : Words) (line : List ℕ) (v : Bor (List ℕ)) (o : Option (Bor (List ℕ))) → ws ≡ parted 32 line → Cut 32 line v.now o
    → Took ws (Some v) (left_of o)
took ws line v o e c = subst (λ (x : Words). Took x (Some v) (left_of o)) (sym (e ∙ cut_parts 32 line v.now o c)) (refl, refl)

ends_none : (c : Form) (ws : Words) → 0 < length ws → ends c ws ≡ None
ends_none c [] h = absurd (omega arith)
ends_none c (w ∷ ws) h = refl

-- a row of bytes has at least one part
pub ends_more : (c : Form) (sep : ℕ) (bs : List ℕ) → ends c (parted sep bs) ≡ None
ends_more c sep bs =
    ends_none c (parted sep bs) (subst (λ (ws : Words). 0 < length ws) (parted_is sep bs) (omega (arith, length-slice_split (λ b. eqb b sep) bs)))
