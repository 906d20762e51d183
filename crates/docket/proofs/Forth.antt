-- What is written is read back.
use Rattle.std.proofs.Common.{◌≡◌, ℕ, ◌^◌, ◌<◌, ◌≤◌, true, cond, ◌&&◌, ◌||◌, eqb, leb, List, [], ◌∷◌, ◌++◌, length, take, drop, sym, refl, ap, ◌∙◌, inl, inr, arith, length-append}
use Rattle.std.proofs.lemmas.List.{take_at, drop_at}
use Rattle.std.proofs.lemmas.Bool.{le-leb, eqb-true, leb-true, and_parts, or_cases, cond-true}
use Rattle.answer.specs.Told.{Told, granted, refused}
use Rattle.formula.specs.Keeping.{kept, ordered}
use Rattle.docket.specs.Bits.{bits, number}
use Rattle.docket.specs.Entries.{asked, brings, carries_answer, words, answer_bits, formula_bits}
use Rattle.docket.specs.Reading.{Reading, field, lawful, words_at, question_at, answer_at, formula_at}
use Rattle.docket.specs.Laws.{Sets, values_of}
use Rattle.docket.proofs.Rows.{length_bits}
use Rattle.docket.proofs.Numbers.{number_bits}

pub field_here : (w v : ℕ) (rest : List ℕ) (next : ℕ → List ℕ → Reading) → v < 2 ^ w → field w (bits w v ++ rest) next ≡ next v rest
field_here w v rest next h =
    let l = length_bits w v in
    let la = length-append (bits w v) rest in
    let t : leb w (length (bits w v ++ rest)) ≡ true = le-leb _ _ (omega (arith, l, la)) in
    let n : number (take w (bits w v ++ rest)) ≡ v = ap number (take_at (bits w v) rest w l) ∙ number_bits w v h in
    cond-true _ _ _ t ∙ (ap (λ (k : ℕ). next k (drop w (bits w v ++ rest))) n ∙ ap (next v) (drop_at (bits w v) rest w l))

pub words_here : (vs rest : List ℕ) (next : List ℕ → List ℕ → Reading) → Sets vs → words_at (length vs) (words vs ++ rest) next ≡ next vs rest
words_here [] rest next s = refl
words_here (v ∷ vs) rest next s =
    field_here 16 v (words vs ++ rest) (λ v V. words_at (length vs) V (λ vs W. next (v ∷ vs) W)) s.0
    ∙ words_here vs rest (λ vs W. next (v ∷ vs) W) s.1

asked_small : (q : ℕ) → asked q ≡ true → q < 32
asked_small q p =
    elim (or_cases (eqb q 5) (eqb q 6 || (leb 12 q && leb q 16)) p) [
      | inl e ↦ omega (arith, eqb-true q 5 e)
      | inr r ↦ elim (or_cases (eqb q 6) (leb 12 q && leb q 16) r) [
        | inl e ↦ omega (arith, eqb-true q 6 e)
        | inr e ↦ omega (arith, leb-true q 16 (and_parts (leb 12 q) (leb q 16) e).1)
      ]
    ]

pub answer_here : (a : Told) (rest : List ℕ) (next : Told → List ℕ → Reading) → carries_answer a ≡ true → Sets (values_of a)
    → answer_at (answer_bits a ++ rest) next ≡ next a rest
answer_here (granted []) rest next c s = field_here 1 1 rest (λ b V. cond (eqb b 1) (next (granted []) V) (question_at V next)) (omega arith)
answer_here (granted (v ∷ vs)) rest next c s = absurd (omega (arith, eqb-true (length (v ∷ vs)) 0 c))
answer_here (refused q vs) rest next c s =
    let h = and_parts (asked q) (eqb (length vs) (brings q)) c in
    let n : length vs ≡ brings q = eqb-true (length vs) (brings q) h.1 in
    field_here 1 0 (bits 5 q ++ (words vs ++ rest)) (λ b V. cond (eqb b 1) (next (granted []) V) (question_at V next)) (omega arith)
    ∙ (field_here 5 q (words vs ++ rest) (λ q V. lawful (asked q) (words_at (brings q) V (λ vs W. next (refused q vs) W))) (asked_small q h.0)
    ∙ (cond-true _ _ _ h.0
    ∙ (ap (λ (k : ℕ). words_at k (words vs ++ rest) (λ vs W. next (refused q vs) W)) (sym n) ∙ words_here vs rest (λ vs W. next (refused q vs) W) s)))

pub kept_small : (cs : List ℕ) → kept cs ≡ true → length cs ≤ 8
kept_small cs k = leb-true (length cs) 8 (and_parts (leb (length cs) 8) (ordered cs) k).0

pub formula_here : (cs rest : List ℕ) (next : List ℕ → List ℕ → Reading) → kept cs ≡ true → Sets cs → formula_at (formula_bits cs ++ rest) next ≡ next cs rest
formula_here cs rest next k s =
    let n = kept_small cs k in
    field_here 4 (length cs) (words cs ++ rest) (λ n V. lawful (leb n 8) (words_at n V (λ cs W. lawful (kept cs) (next cs W)))) (omega arith)
    ∙ (cond-true _ _ _ (le-leb (length cs) 8 n) ∙ (words_here cs rest (λ cs W. lawful (kept cs) (next cs W)) s ∙ cond-true _ _ _ k))
