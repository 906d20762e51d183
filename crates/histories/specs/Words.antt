-- The words of a line, by their bytes.
use Rattle.std.specs.Prelude.{◌≡◌, refl, ℕ, true, false, List, [], ◌∷◌, map, IsSome, is_some, Some, None, codes, Option}
use Rattle.std.specs.Borrow.{Bor}
use Rattle.key.specs.declared.mode.Mode.{Mode}
use Rattle.key.specs.declared.mode.Mode.TheVariants.{Releases, Endorsements, Both}
use Rattle.words.specs.declared.clauses.ClausesWord.{ClausesWord}
use Rattle.words.specs.declared.clauses.FormulaWord.TheVariants.{True, Clauses}
use Rattle.words.specs.Hex.{hex_digit, hex_four}
use Rattle.words.specs.Decimal.{digit_of, decimal}
use Rattle.words.specs.Parted.{before, parted, joined, Without, Cut, AllWithout, PartsJoin}
use Rattle.words.specs.Clauses.{hex_all, or_none}
use Rattle.words.specs.Formulas.{formula_of, clauses_in, written, written_in}
use Rattle.words.specs.Modes.{mode_of}
use Rattle.histories.specs.Short.{one}

-- bytes that a word is part of
abbrev pub part : List ℕ → Bor (List ℕ)
part bytes = record { ref_ptr = (0, 0); now = bytes }

-- a word of clauses
abbrev pub clauses_word : (bytes : List ℕ) → IsSome (hex_all (parted 46 bytes)) → ClausesWord
clauses_word bytes lawful = record { part = part bytes; lawful = lawful }

-- digits, and the bytes right before and behind them
abbrev pub hex_digits : List (ℕ × Option ℕ)
hex_digits = (47, None) ∷ (48, Some 0) ∷ (57, Some 9) ∷ (58, None) ∷ (96, None) ∷ (97, Some 10) ∷ (102, Some 15) ∷ (103, None) ∷ []

abbrev pub digits : List (ℕ × Option ℕ)
digits = (47, None) ∷ (48, Some 0) ∷ (57, Some 9) ∷ (58, None) ∷ []

abbrev pub clauses : List (List ℕ × Option ℕ)
clauses =
    (codes "09af", Some 2479)
    ∷ (codes "1234", Some 4660)
    ∷ (codes "", None)
    ∷ (codes "1", None)
    ∷ (codes "12", None)
    ∷ (codes "123", None)
    ∷ (codes "12345", None)
    ∷ (codes "x123", None)
    ∷ (codes "1x23", None)
    ∷ (codes "12x3", None)
    ∷ (codes "123A", None)
    ∷ []

abbrev pub numbers : List (List ℕ × Option ℕ)
numbers =
    (codes "", None)
    ∷ (codes "7", Some 7)
    ∷ (codes "007", Some 7)
    ∷ (codes "9123456780", Some 9123456780)
    ∷ (codes "01234567890", None)
    ∷ (codes "1a", None)
    ∷ (codes "a1", None)
    ∷ []

abbrev pub formulas : List (List ℕ × Option (List ℕ))
formulas =
    (codes "T", Some [])
    ∷ (codes "0001.0006", Some (1 ∷ 6 ∷ []))
    ∷ (codes "0006", Some (6 ∷ []))
    ∷ (codes "0001.", None)
    ∷ (codes "x001.0002", None)
    ∷ (codes "", None)
    ∷ (codes "t", None)
    ∷ (codes "TT", None)
    ∷ []

abbrev pub modes : List (List ℕ × Option Mode)
modes =
    (codes "d", Some Releases)
    ∷ (codes "e", Some Endorsements)
    ∷ (codes "de", Some Both)
    ∷ (codes "ed", None)
    ∷ (codes "dd", None)
    ∷ (codes "x", None)
    ∷ (codes "", None)
    ∷ (codes "dee", None)
    ∷ []

pub record Words : Type 0 where
  pub hex_digits_row : map (λ row. hex_digit row.0) hex_digits ≡ map (λ row. row.1) hex_digits
  pub decimal_digits : map (λ row. digit_of row.0) digits ≡ map (λ row. row.1) digits
  pub four : map (λ row. hex_four row.0) clauses ≡ map (λ row. row.1) clauses
  pub decimals : map (λ row. decimal row.0) numbers ≡ map (λ row. row.1) numbers
  pub formula_words : map (λ row. formula_of row.0) formulas ≡ map (λ row. row.1) formulas
  pub mode_words : map (λ row. mode_of row.0) modes ≡ map (λ row. row.1) modes
  -- two spaces have an empty word between them
  pub words : parted 32 (codes "ab  c") ≡ codes "ab" ∷ [] ∷ codes "c" ∷ []
  pub first_byte : before 97 (codes "b" ∷ codes "c" ∷ []) ≡ codes "ab" ∷ codes "c" ∷ []
  pub only_byte : before 97 [] ≡ codes "a" ∷ []
  pub one_word : parted 32 [] ≡ [] ∷ []
  pub together : joined 32 (codes "ab" ∷ [] ∷ codes "c" ∷ []) ≡ codes "ab  c"
  pub together_one : joined 32 (codes "ab" ∷ []) ≡ codes "ab"
  pub together_none : joined 32 [] ≡ []
  pub without : Without 32 (codes "a")
  pub not_without : Without 32 (codes "a ") → ⊥
  pub cut : Cut 32 (codes "a b") (codes "a") (Some (part (codes "b")))
  pub cut_late : Cut 32 (codes "a b") (codes "a b") None → ⊥
  pub cut_last : Cut 32 (codes "a") (codes "a") None
  pub cut_short : Cut 32 (codes "ab") (codes "a") None → ⊥
  pub cut_other : Cut 32 (codes "a b") (codes "a") (Some (part (codes "c"))) → ⊥
  pub cut_long : Cut 32 (codes "a b c") (codes "a b") (Some (part (codes "c"))) → ⊥
  pub all_without : AllWithout 32 (codes "a" ∷ codes "a" ∷ [])
  pub last_with : AllWithout 32 (codes "a" ∷ codes " " ∷ []) → ⊥
  pub first_with : AllWithout 32 (codes " " ∷ codes "a" ∷ []) → ⊥
  pub parts_join : PartsJoin → joined 32 (parted 32 (codes "ab  c")) ≡ codes "ab  c"
  pub parts_without : PartsJoin → AllWithout 32 (parted 32 (codes "ab  c"))
  -- what a formula word writes
  pub all_hex : hex_all (codes "0001" ∷ codes "0006" ∷ []) ≡ Some (1 ∷ 6 ∷ [])
  pub none_hex : hex_all [] ≡ Some []
  pub or_none_row : or_none (Some one) ≡ one
  pub or_none_none : or_none None ≡ []
  pub is_some_row : is_some (hex_all (codes "0001" ∷ [])) ≡ true
  pub is_none : is_some (hex_all (codes "001" ∷ [])) ≡ false
  pub writes_truth : written True ≡ []
  pub stands : clauses_in (clauses_word (codes "0001.0006") refl) ≡ 1 ∷ 6 ∷ []
  pub writes_clauses : written (Clauses (clauses_word (codes "0001.0006") refl)) ≡ 1 ∷ 6 ∷ []
  pub writes_in : written_in (Some (Clauses (clauses_word (codes "0001") refl))) ≡ Some one
  pub writes_in_none : written_in None ≡ None
