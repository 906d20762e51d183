-- The worked cases, one row each.
use Rattle.std.specs.Prelude.{◌≡◌, ℕ, Bool, true, false, List, [], ◌∷◌, Err}
use Rattle.std.specs.List.{AllByRecursion}
use Rattle.answer.specs.declared.Denial.TheVariants.{NotCovered, OutsideMode, BelowLow, Steered}
use Rattle.answer.specs.Told.{Told, granted, refused}
use Rattle.clause.specs.Groups.{met, within}
use Rattle.formula.specs.Forms.{reduces, fitting, both, either}
use Rattle.label.specs.declared.kind.Kind.TheVariants.{Release, Endorse}
use Rattle.label.specs.Labels.{Marks}
use Rattle.key.specs.declared.mode.Mode.TheVariants.{Releases, Both}
use Rattle.key.specs.Requests.{Asked, Limits}
use Rattle.key.specs.Meanings.{Meaning, Verdict, grant, plain, robust, bounded}

pub data Row : Type 0 where
  -- reducing the list answers so
  reducing : List ℕ → Told → Row
  -- whether the first formula implies the second
  implying : List ℕ → List ℕ → Bool → Row
  -- the "and" and the "or" of two formulas
  conjoining : List ℕ → List ℕ → Told → Row
  disjoining : List ℕ → List ℕ → Told → Row
  -- the key's answer to the request
  asking : Meaning → Asked → Verdict → Row

abbrev pub Holds : Row → Type 0
Holds (reducing list x) = reduces list ≡ x
Holds (implying a b x) = within (met a) (met b) ≡ x
Holds (conjoining a b x) = fitting (both a b) ≡ x
Holds (disjoining a b x) = fitting (either a b) ≡ x
Holds (asking key r x) = key r ≡ x

abbrev pub label : List ℕ → List ℕ → Marks
label s h = record { sight = s; hand = h }

-- the record's label, the new formula, the task's label
abbrev pub release : Marks → List ℕ → Marks → Asked
release held new task = record { kind = Release; held = held; new = new; task = task }

abbrev pub endorse : Marks → List ℕ → Marks → Asked
endorse held new task = record { kind = Endorse; held = held; new = new; task = task }

abbrev pub one : List ℕ
one = 1 ∷ []

abbrev pub two : List ℕ
two = 2 ∷ []

abbrev pub three : List ℕ
three = 3 ∷ []

abbrev pub four : List ℕ
four = 4 ∷ []

abbrev pub one_two : List ℕ
one_two = 1 ∷ 2 ∷ []

abbrev pub bounds : Limits
bounds = record { high = label one_two three; low = label three one_two }

-- a key, and the requests put to it
abbrev pub rows : List Row
rows =
    reducing (3 ∷ 1 ∷ []) (granted one)
    ∷ reducing [] (granted [])
    ∷ reducing (0 ∷ 5 ∷ []) (granted (0 ∷ []))
    ∷ reducing (1 ∷ 2 ∷ 4 ∷ 8 ∷ 16 ∷ 32 ∷ 64 ∷ 128 ∷ 256 ∷ []) (refused 2 [])
    ∷ reducing (1 ∷ 2 ∷ 4 ∷ 8 ∷ 16 ∷ 32 ∷ 64 ∷ 128 ∷ 3 ∷ []) (granted (1 ∷ 2 ∷ 4 ∷ 8 ∷ 16 ∷ 32 ∷ 64 ∷ 128 ∷ []))
    ∷ implying one_two three true
    ∷ implying three one_two false
    ∷ implying [] one false
    ∷ conjoining one two (granted one_two)
    ∷ disjoining one two (granted three)
    ∷ asking (plain one) (release (label one_two []) two (label [] [])) grant
    ∷ asking (plain one) (release (label one_two []) three (label [] [])) (Err NotCovered)
    ∷ asking (robust Both (plain one_two)) (release (label one_two one) three (label [] one)) (Err (Steered 1))
    ∷ asking (robust Both (plain one_two)) (release (label one_two one) two (label [] one)) grant
    ∷ asking (robust Both (plain one_two)) (release (label one_two four) three (label [] four)) (Err (Steered 5))
    ∷ asking (robust Both (plain one)) (release (label one []) [] (label [] [])) (Err (Steered 0))
    ∷ asking (robust Both (plain one)) (endorse (label [] three) one (label [] one)) grant
    ∷ asking (robust Both (plain one)) (endorse (label [] three) one (label [] three)) (Err (Steered 2))
    ∷ asking (bounded Releases bounds (plain one)) (release (label one_two one) two (label [] one)) grant
    ∷ asking (bounded Releases bounds (plain one_two)) (release (label one_two one) [] (label [] one)) (Err BelowLow)
    ∷ asking (bounded Releases bounds (plain one)) (endorse (label one_two one) [] (label [] one)) (Err OutsideMode)
    ∷ []

abbrev pub Worked : Type 0
Worked = AllByRecursion Holds rows
