-- Lines: what they write, and a history of them with what is printed.
use Rattle.std.specs.Prelude.{◌≡◌, refl, ℕ, zero, suc, List, [], ◌∷◌, ◌++◌, map, length, replicate, IsSome, Some, None, Ok, Err, codes, Option}
use Rattle.answer.specs.declared.Refusal.TheVariants.{LongList, LargeFormula}
use Rattle.answer.specs.Told.{granted}
use Rattle.answer.specs.Text.{text}
use Rattle.formula.specs.Of.{clauses_of}
use Rattle.label.specs.declared.label.Label.{Label}
use Rattle.label.specs.declared.kind.Kind.TheVariants.{Release, Endorse}
use Rattle.key.specs.declared.mode.Mode.{Mode}
use Rattle.key.specs.declared.mode.Mode.TheVariants.{Releases, Endorsements, Both}
use Rattle.key.specs.declared.plain.Plain.{Plain as PlainKey}
use Rattle.key.specs.declared.bounded.Bounds.{Bounds}
use Rattle.key.specs.declared.bounded.Bounded.{Bounded as BoundedKey}
use Rattle.key.specs.declared.robust.Robust.{Robust as RobustKey}
use Rattle.key.specs.Requests.{Limits, limits}
use Rattle.key.specs.Meanings.{plain, robust, bounded}
use Rattle.rules.specs.State.{State, blank}
use Rattle.rules.specs.Step.{Ruled, refuse, done}
use Rattle.words.specs.declared.clauses.FormulaWord.{FormulaWord}
use Rattle.words.specs.declared.clauses.FormulaWord.TheVariants.{True, Clauses}
use Rattle.lines.specs.declared.call.Call.TheVariants.{Enter, Open, Close, Take, Put, Drop, Show, Change}
use Rattle.lines.specs.declared.call.BoundsWords.{BoundsWords}
use Rattle.lines.specs.declared.call.LabelWords.{LabelWords}
use Rattle.lines.specs.declared.call.KeyWords.{KeyWords}
use Rattle.lines.specs.declared.line_key.LineKey.TheVariants.{Plain as PlainLine, Robust as RobustLine, Bounded as BoundedLine, BoundedRobust as BoundedRobustLine}
use Rattle.lines.specs.Forms.{Form, enters, opens, closes, takes, puts, drops, shows, releases, endorses, plains, robusts, boundeds, form_of}
use Rattle.lines.specs.Rest.{left_of}
use Rattle.lines.specs.Left.{Took, Taken, Ended, pair_said, LabelTaken, robust_say, bounded_say, key_say, BoundsTaken, KeyTaken, changes, change_form, say, say_in}
use Rattle.lines.specs.Obey.{line_ruled, values}
use Rattle.lines.specs.Keys.{line_meaning, refusing, LabelRead, bounding, BoundsRead, BoundedRead, KeyRead}
use Rattle.words.specs.Hex.{hex_four}
use Rattle.words.specs.Parted.{parted}
use Rattle.words.specs.Clauses.{hex_all}
use Rattle.histories.specs.Short.{one, two, three, one_two, label}
use Rattle.histories.specs.Words.{part, clauses_word}

-- what is printed of lines, each obeyed where the one before it left off
abbrev pub followed : Ruled → List (List ℕ) → List (List ℕ)
followed r [] = text r.answer ∷ []
followed r (l ∷ ls) = text r.answer ∷ followed (line_ruled r.state l) ls

-- lines, each with what is printed behind its number
abbrev pub day : List (List ℕ × List ℕ)
day =
    (codes "enter 5 0 500 0001.0002 0001", codes "ok")
    ∷ (codes "open 2 1", codes "ok")
    ∷ (codes "release 2 5 0003 1 0001.0002 d", codes "16 0001")
    ∷ (codes "release 2 5 0002 2 0001 d 0001.0002 0003 0006 0002", codes "ok")
    ∷ (codes "show 5 0002", codes "ok 500")
    ∷ (codes "show 5 0001", codes "11")
    ∷ (codes "endorse 2 5 0003 0 T", codes "ok")
    ∷ (codes "take 2 5 2", codes "ok")
    ∷ (codes "put 2 40", codes "6")
    ∷ (codes "drop 2 40", codes "6")
    ∷ (codes "close 2", codes "ok")
    ∷ (codes "take 2 40 1", codes "5")
    ∷ (codes "open 9 1", codes "3")
    ∷ (codes "show 5", codes "21")
    ∷ (codes "", codes "21")
    ∷ []

-- the record's label is above high, and then the task's
abbrev pub above : List (List ℕ × List ℕ)
above =
    (codes "enter 5 0 500 0001.0002 0001", codes "ok")
    ∷ (codes "open 2 1", codes "ok")
    ∷ (codes "release 2 5 0002 2 0001 d 0001 0003 0006 0002", codes "14")
    ∷ (codes "release 2 5 0002 2 0001 d 0001.0002 0001 0006 0002", codes "14")
    ∷ []

-- formulas are reduced from left to right, before the call is asked anything
abbrev pub nine : List ℕ
nine = codes "0001.0002.0004.0008.0010.0020.0040.0080.0100"

-- so many clauses 0001, and one more
abbrev pub repeated : ℕ → List ℕ
repeated zero = codes "0001"
repeated (suc n) = codes "0001." ++ repeated n

abbrev pub refusals : List (List ℕ × List ℕ)
refusals =
    (codes "release 9 99 T 0 T", codes "3")
    ∷ (codes "release 9 99 " ++ (nine ++ codes " 0 T"), codes "2")
    ∷ (codes "release 9 99 " ++ (repeated 64 ++ (codes " 0 " ++ nine)), codes "1")
    ∷ (codes "release 9 99 " ++ (nine ++ (codes " 0 " ++ repeated 64)), codes "2")
    ∷ (codes "endorse 9 99 T 0 " ++ repeated 64, codes "1")
    ∷ (codes "endorse 9 99 T 2 " ++ (nine ++ (codes " d T T T " ++ repeated 64)), codes "2")
    ∷ (codes "endorse 9 99 T 2 T d " ++ (nine ++ (codes " T T " ++ repeated 64)), codes "2")
    ∷ (codes "endorse 9 99 T 2 T d T " ++ (nine ++ (codes " T " ++ repeated 64)), codes "2")
    ∷ (codes "endorse 9 99 T 2 T d T T " ++ (nine ++ (codes " " ++ repeated 64)), codes "2")
    ∷ (codes "endorse 9 99 T 2 T d T T T " ++ repeated 64, codes "1")
    ∷ (codes "enter 99 0 1 " ++ (nine ++ (codes " " ++ repeated 64)), codes "2")
    ∷ (codes "enter 99 0 1 T " ++ repeated 64, codes "1")
    ∷ (codes "enter 99 0 1 T T", codes "3")
    ∷ []

-- a line, and the form that it has
abbrev pub forms : List (List ℕ × Option Form)
forms =
    (codes "enter 5 1 500 0001 0002", Some (enters 5 1 500 one two))
    ∷ (codes "open 2 1", Some (opens 2 1))
    ∷ (codes "close 2", Some (closes 2))
    ∷ (codes "take 2 5 1", Some (takes 2 5 1))
    ∷ (codes "put 2 5", Some (puts 2 5))
    ∷ (codes "drop 2 5", Some (drops 2 5))
    ∷ (codes "show 5 00ff", Some (shows 5 255))
    ∷ (codes "release 2 5 0003 0 0001", Some (releases 2 5 three (plains one)))
    ∷ (codes "release 2 5 0003 1 0001 d", Some (releases 2 5 three (robusts Releases (plains one))))
    ∷ (codes "endorse 2 5 0003 2 0001 e 0002 0003 T 0001.0002", Some (endorses 2 5 three (boundeds Endorsements two three [] one_two (plains one))))
    ∷ (codes "endorse 2 5 0003 03 0001 d de 0002 0003 T 0001.0002", Some (endorses 2 5 three (boundeds Both two three [] one_two (robusts Releases (plains one)))))
    ∷ (codes "release 2 5 0003 4 0001", None)
    ∷ (codes "release 2 5 0003 0 0001 d", None)
    ∷ (codes "release 2 5 0003 1 0001", None)
    ∷ (codes "open  2 1", None)
    ∷ (codes "open 2 1 ", None)
    ∷ (codes "opens 2 1", None)
    ∷ (codes "show 5 255", None)
    ∷ (codes "take 2 5", None)
    ∷ []

-- a line of 4,096 bytes has a form, and one of 4,097 none
abbrev pub longest : List ℕ
longest = codes "enter 0005 0 1 " ++ (repeated 815 ++ codes " T")

abbrev pub word : (bytes : List ℕ) → IsSome (hex_all (parted 46 bytes)) → FormulaWord
word bytes lawful = Clauses (clauses_word bytes lawful)

abbrev pub label_words : LabelWords
label_words = record { sight = word (codes "0001") refl; hand = word (codes "0002") refl }

abbrev pub bounds_words : BoundsWords
bounds_words = record { mode = Both; high = label_words; low = record { sight = True; hand = word (codes "0003") refl } }

abbrev pub plain_words : FormulaWord
plain_words = word (codes "0002") refl

-- a key that has these wraps
abbrev pub key_words : Option Mode → Option BoundsWords → KeyWords
key_words robust bounds = record { plain = plain_words; robust = robust; bounds = bounds }

-- what is made of a form: the limits that were read
abbrev pub read_limits : Limits → Ruled
read_limits b = record { state = blank; answer = granted (b.high.sight ++ (b.high.hand ++ (9 ∷ (b.low.sight ++ b.low.hand)))) }

pub record Lines : Type 0 where
  pub day : followed (done blank) (map (λ row. row.0) day) ≡ codes "ok" ∷ map (λ row. row.1) day
  pub above : followed (done blank) (map (λ row. row.0) above) ≡ codes "ok" ∷ map (λ row. row.1) above
  pub refusals : followed (done blank) (map (λ row. row.0) refusals) ≡ codes "ok" ∷ map (λ row. row.1) refusals
  pub forms : map (λ row. form_of row.0) forms ≡ map (λ row. row.1) forms
  pub longest_length : length longest ≡ 4096
  pub longest_form : form_of longest ≡ Some (enters 5 0 1 (replicate 816 1) [])
  pub too_long : form_of (codes "enter 00005 0 1 " ++ (repeated 815 ++ codes " T")) ≡ None
  pub no_values : values None ≡ []
  pub one_value : values (Some 7) ≡ 7 ∷ []
  -- the words that are left, and one taken
  pub left_words : left_of (Some (part (codes "2 1"))) ≡ codes "2" ∷ codes "1" ∷ []
  pub left_none : left_of None ≡ []
  pub took : Took (codes "2" ∷ codes "1" ∷ []) (Some (part (codes "2"))) (codes "1" ∷ [])
  pub took_other : Took (codes "2" ∷ codes "1" ∷ []) (Some (part (codes "1"))) (codes "1" ∷ []) → ⊥
  pub took_all : Took (codes "2" ∷ codes "1" ∷ []) (Some (part (codes "2"))) [] → ⊥
  pub took_none : Took [] None []
  pub took_from_none : Took [] (Some (part [])) [] → ⊥
  pub took_nothing : Took (codes "2" ∷ []) None [] → ⊥
  pub left_some : Took [] None (codes "2" ∷ []) → ⊥
  pub taken : Taken hex_four (codes "00ff" ∷ codes "1" ∷ []) (Some 255) (codes "1" ∷ [])
  pub taken_other : Taken hex_four (codes "00ff" ∷ []) (Some 254) [] → ⊥
  pub taken_none : Taken hex_four (codes "ff" ∷ []) None []
  pub not_taken : Taken hex_four (codes "00ff" ∷ []) None [] → ⊥
  pub ended : Ended [] (Some tt)
  pub not_ended : Ended (codes "1" ∷ []) None
  pub ended_early : Ended (codes "1" ∷ []) (Some tt) → ⊥
  pub ended_late : Ended [] None → ⊥
  -- the forms that the code holds
  pub plain_said : key_say (key_words None None) ≡ plains two
  pub robust_said : key_say (key_words (Some Both) None) ≡ robusts Both (plains two)
  pub bounded_said : key_say (key_words None (Some bounds_words)) ≡ boundeds Both one two [] three (plains two)
  pub bounded_robust_said : key_say (key_words (Some Releases) (Some bounds_words)) ≡ boundeds Both one two [] three (robusts Releases (plains two))
  pub enter_said : say (Enter 5 1 500 (record { sight = True; hand = plain_words })) ≡ enters 5 1 500 [] two
  pub open_said : say (Open 2 1) ≡ opens 2 1
  pub close_said : say (Close 2) ≡ closes 2
  pub take_said : say (Take 2 5 1) ≡ takes 2 5 1
  pub put_said : say (Put 2 5) ≡ puts 2 5
  pub drop_said : say (Drop 2 5) ≡ drops 2 5
  pub show_said : say (Show 5 255) ≡ shows 5 255
  pub release_said : say (Change Release 2 5 True (key_words None None)) ≡ releases 2 5 [] (plains two)
  pub endorse_said : say (Change Endorse 2 5 True (key_words None None)) ≡ endorses 2 5 [] (plains two)
  pub said : say_in (Some (Close 2)) ≡ Some (closes 2)
  pub said_none : say_in None ≡ None
  pub pair_puts : pair_said puts (Some (2, 5)) ≡ Some (puts 2 5)
  pub pair_none : pair_said drops None ≡ None
  pub robust_none : robust_say None (plains two) ≡ plains two
  pub bounded_none : bounded_say None (plains two) ≡ plains two
  pub changes_release : changes Release 2 5 three (plains two) ≡ releases 2 5 three (plains two)
  pub changes_endorse : changes Endorse 2 5 three (plains two) ≡ endorses 2 5 three (plains two)
  pub change_release : change_form Release (codes "2" ∷ codes "5" ∷ codes "0003" ∷ codes "0" ∷ codes "0001" ∷ []) ≡ Some (releases 2 5 three (plains one))
  pub change_endorse : change_form Endorse (codes "2" ∷ codes "5" ∷ codes "0003" ∷ codes "0" ∷ codes "0001" ∷ []) ≡ Some (endorses 2 5 three (plains one))
  pub label_taken : LabelTaken (codes "0001" ∷ codes "0002" ∷ codes "x" ∷ []) (Some label_words) (codes "x" ∷ [])
  pub label_not_taken : LabelTaken (codes "0001" ∷ codes "x" ∷ []) None []
  pub label_taken_late : LabelTaken (codes "0001" ∷ []) (Some label_words) [] → ⊥
  pub label_missed : LabelTaken (codes "0001" ∷ codes "0002" ∷ []) None [] → ⊥
  pub bounds_taken : BoundsTaken (codes "de" ∷ codes "0001" ∷ codes "0002" ∷ codes "T" ∷ codes "0003" ∷ codes "x" ∷ []) (Some bounds_words) (codes "x" ∷ [])
  pub bounds_not_taken : BoundsTaken (codes "de" ∷ codes "0001" ∷ []) None []
  pub bounds_taken_late : BoundsTaken (codes "de" ∷ codes "0001" ∷ []) (Some bounds_words) [] → ⊥
  pub bounds_missed : BoundsTaken (codes "de" ∷ codes "0001" ∷ codes "0002" ∷ codes "T" ∷ codes "0003" ∷ []) None [] → ⊥
  pub key_taken : KeyTaken (codes "1" ∷ codes "0002" ∷ codes "de" ∷ codes "x" ∷ []) (Some (key_words (Some Both) None)) (codes "x" ∷ [])
  pub key_not_taken : KeyTaken (codes "7" ∷ codes "0002" ∷ []) None []
  pub key_taken_late : KeyTaken (codes "7" ∷ codes "0002" ∷ []) (Some (key_words None None)) [] → ⊥
  pub key_missed : KeyTaken (codes "0" ∷ codes "0002" ∷ []) None [] → ⊥

pub record Read : Type 0 where
  -- what is read goes on, and what is refused refuses the line
  pub refused_so : (t : State) → refusing t LargeFormula ≡ refuse t 2
  pub label_read : (l : Label) → clauses_of l.sight.0 ≡ one → clauses_of l.hand.0 ≡ two → LabelRead one two (Ok l)
  pub label_misread : (l : Label) → clauses_of l.sight.0 ≡ two → clauses_of l.hand.0 ≡ one → LabelRead one two (Ok l) → ⊥
  pub label_refused : LabelRead one (replicate 65 1) (Err LongList)
  pub label_refused_first : LabelRead (replicate 65 1) one (Err LongList)
  pub label_refused_not : LabelRead one one (Err LongList) → ⊥
  pub bounding_words : (t : State) → bounding t bounds_words read_limits ≡ read_limits (record { high = label one two; low = label [] three })
  pub bounds_read : (b : Bounds) → limits b ≡ record { high = label one two; low = label [] three } → BoundsRead bounds_words (Ok b)
  pub bounds_misread : (b : Bounds) → limits b ≡ record { high = label [] three; low = label one two } → BoundsRead bounds_words (Ok b) → ⊥
  pub bounds_refused_not : BoundsRead bounds_words (Err LongList) → ⊥
  pub bounded_read : (k : BoundedKey PlainKey) → k.mode ≡ Both → limits k.bounds ≡ record { high = label one two; low = label [] three } → BoundedRead k.below bounds_words (Ok k)
  pub bounded_misread : (k : BoundedKey PlainKey) → k.mode ≡ Releases → BoundedRead k.below bounds_words (Ok k) → ⊥
  pub bounded_refused_not : (k : PlainKey) → BoundedRead k bounds_words (Err LongList) → ⊥
  pub key_read : (k : PlainKey) → clauses_of k.formula ≡ one → KeyRead (plains one) (Ok (PlainLine k))
  pub key_refused : KeyRead (plains (replicate 65 1)) (Err LongList)
  pub key_refused_not : KeyRead (plains one) (Err LongList) → ⊥
  -- what the keys of a line mean
  pub plain_meant : (k : PlainKey) → clauses_of k.formula ≡ one → line_meaning (PlainLine k) ≡ plain one
  pub robust_meant : (k : RobustKey PlainKey) → clauses_of k.below.formula ≡ one → line_meaning (RobustLine k) ≡ robust k.mode (plain one)
  pub bounded_meant : (k : BoundedKey PlainKey) → clauses_of k.below.formula ≡ one → line_meaning (BoundedLine k) ≡ bounded k.mode (limits k.bounds) (plain one)
  pub bounded_robust_meant :
      (k : BoundedKey (RobustKey PlainKey)) → clauses_of k.below.below.formula ≡ one
      → line_meaning (BoundedRobustLine k) ≡ bounded k.mode (limits k.bounds) (robust k.below.mode (plain one))
