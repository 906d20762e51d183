use Rattle.std.proofs.Common.{◌≡◌, ℕ, ◌+◌, ◌<◌, ◌≤◌, List, [], ◌∷◌, ◌++◌, map, length, get_or, take, Ok, Err, Result, sym, ap, ◌∙◌, append_assoc}
use mathlib.Core.List.{map-append}
use lib.Bits.{bit_or}
use Rattle.std.proofs.lemmas.List.{take_more, take_all}
use Rattle.clause.specs.Meaning.{Meets, Means}
use Rattle.clause.specs.Unions.{unions}
use Rattle.clause.proofs.Joining.{unions_push, means_append, means_through, means_back}
use Rattle.formula.specs.declared.kept.Formula.{Formula}
use Rattle.formula.specs.Of.{clauses_of}
use Rattle.formula.specs.Forms.{Formed}
use Rattle.answer.specs.declared.Refusal.{Refusal}

-- what is formed from a list that means P is formed from P
pub formed_as : (list : List ℕ) (P : ℕ → Type 0) (r : Result Formula Refusal) → Means list P → Formed (Meets list) r → Formed P r
formed_as list P (Ok f) m h = means_through list _ P m h
formed_as list P (Err q) m h = λ two ys short n. h two ys short (means_back list ys P m n)

pub more_rows : (items xs ys : List ℕ) (i j : ℕ) → i < length xs → length ys ≤ j → items ≡ unions (take i xs) ys ++ map (bit_or (get_or xs i 0)) (take j ys) → items ≡ unions (take (i + 1) xs) ys
more_rows items xs ys i j h l e =
    e ∙ ap (λ t. unions (take i xs) ys ++ map (bit_or (get_or xs i 0)) t) (take_all j ys l)
    ∙ sym (ap (λ t. unions t ys) (take_more xs i 0 h) ∙ unions_push (take i xs) (get_or xs i 0) ys)

pub formed_and : (a b : Formula) (r : Result Formula Refusal) (list : List ℕ) → Formed (Meets list) r → list ≡ clauses_of a ++ clauses_of b → Formed (λ g. Meets (clauses_of a) g × Meets (clauses_of b) g) r
formed_and a b r list h e = formed_as list _ r (simp e (means_append (clauses_of a) (clauses_of b))) h
