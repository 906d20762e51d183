-- Modes, by their bytes.
use Rattle.std.specs.Prelude.{ℕ, cond, List, [], ◌∷◌, Some, None, Option, ◌==◌}
use Rattle.key.specs.declared.mode.Mode.{Mode}
use Rattle.key.specs.declared.mode.Mode.TheVariants.{Releases, Endorsements, Both}

-- d, e or de (bytes 100 and 101), and no other word
abbrev pub mode_of : List ℕ → Option Mode
mode_of [] = None
mode_of (a ∷ []) = cond (a == 100) (Some Releases) (cond (a == 101) (Some Endorsements) None)
mode_of (a ∷ b ∷ []) = cond (a == 100) (cond (b == 101) (Some Both) None) None
mode_of (a ∷ b ∷ c ∷ r) = None
