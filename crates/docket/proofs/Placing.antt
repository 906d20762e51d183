-- What stands at a place.
use Rattle.std.proofs.Common.{◌≡◌, ℕ, ◌<◌, List, length, drop, ◌∙◌, arith}
use Rattle.std.proofs.lemmas.Bool.{eq-eqb, ne_eqb, le-ltb, cond-true, cond-false}
use Rattle.docket.specs.Bits.{unpack}
use Rattle.docket.specs.Reading.{over, read_at, placed_at, entry_at}

pub at_end : (bytes : List ℕ) (place : ℕ) → place ≡ length bytes → read_at bytes place ≡ over
at_end bytes place h = cond-false _ _ _ (le-ltb (length bytes) place (omega arith)) ∙ cond-true _ _ _ (eq-eqb place (length bytes) h)

pub at_entry : (bytes : List ℕ) (place : ℕ) → place < length bytes → read_at bytes place ≡ placed_at place (entry_at (unpack (drop place bytes)))
at_entry bytes place h =
    cond-false _ _ _ (le-ltb (length bytes) place (omega arith)) ∙ cond-false _ _ _ (ne_eqb place (length bytes) (λ e. omega (arith, e, h)))
