-- An entry read part by part: what each step leaves to read, and where reading stops.
use Rattle.std.proofs.lemmas.Nat.{pow_pos}
use Rattle.std.proofs.lemmas.List.{append_assoc}
use Rattle.std.proofs.Common.{◌≡◌, ℕ, zero, suc, ◌+◌, ◌*◌, ◌%◌, ◌^◌, ◌<◌, ◌≤◌, true, eqb, leb, List, [], ◌∷◌, ◌++◌, length, Some, None, Option, Ok, Err, sym, refl, ap, ◌∙◌, arith, length-append, ◌&&◌, ltb}
use Rattle.std.proofs.lemmas.Bool.{ltb-true, and_parts, le-leb, lt-leb, cond-true, cond-false}
use Rattle.std.specs.Option.{ok_or}
use Rattle.std.specs.Result.{MatchResult}
use Rattle.answer.specs.declared.Refusal.TheVariants.{Unlawful}
use Rattle.answer.specs.Told.{Told}
use Rattle.formula.specs.declared.kept.Formula.{Formula}
use Rattle.formula.specs.Of.{clauses_of}
use Rattle.formula.specs.Keeping.{kept, keeping, clauses_in}
use Rattle.formula.proofs.Keeping.{keeping_some, keeping_none}
use Rattle.label.specs.declared.kind.Kind.{Kind}
use Rattle.label.specs.declared.kind.Kind.TheVariants.{Release, Endorse}
use Rattle.label.specs.Kinds.{kind_bit}
use Rattle.docket.specs.Bits.{bits}
use Rattle.docket.specs.Entries.{Plain, carries_answer, words, answer_bits, formula_bits, pad_size, size_of, entry_bits}
use Rattle.docket.specs.Reading.{Reading, field, lawful, words_at, formula_at, pad_at, kind_of, made, number_of, new_at, told_at, record_at, task_at, entry_at}
use Rattle.docket.specs.Laws.{Sets, values_of, Carried}
use Rattle.docket.proofs.Rows.{length_bits}
use Rattle.docket.proofs.Packing.{length_answer, length_formula, sizes, pad_most}
use Rattle.docket.proofs.Forth.{field_here, words_here, answer_here, formula_here}

-- n clauses, of which fewer stand there
words_short : (n : ℕ) (vs U : List ℕ) (next : List ℕ → List ℕ → Reading) → Sets vs → length vs < n → length U < 16 → words_at n (words vs ++ U) next ≡ Err 19
words_short zero vs U next s h l = absurd (omega arith)
words_short (suc n) [] U next s h l = cond-false _ _ _ (lt-leb 16 (length U) l)
words_short (suc n) (v ∷ vs) U next s h l =
    field_here 16 v (words vs ++ U) (λ v V. words_at n V (λ vs W. next (v ∷ vs) W)) s.0
    ∙ words_short n vs U (λ vs W. next (v ∷ vs) W) s.1 (omega arith) l

-- a formula of which n clauses are wanted, and vs are read
module _ (n : ℕ) (U V W vs : List ℕ) (count : U ≡ bits 4 n ++ V) (clauses : V ≡ words vs ++ W) (few : n ≤ 8) (small : Sets vs) where
  wanted : (next : List ℕ → List ℕ → Reading) → formula_at U next ≡ words_at n (words vs ++ W) (λ cs W. lawful (kept cs) (next cs W))
  wanted next =
      ap (λ (x : List ℕ). formula_at x next) count
      ∙ (field_here 4 n V (λ n V. lawful (leb n 8) (words_at n V (λ cs W. lawful (kept cs) (next cs W)))) (omega arith)
      ∙ (cond-true _ _ _ (le-leb n 8 few) ∙ ap (λ (x : List ℕ). words_at n x (λ cs W. lawful (kept cs) (next cs W))) clauses))

  pub formula_short : length vs < n → length W < 16 → (next : List ℕ → List ℕ → Reading) → formula_at U next ≡ Err 19
  formula_short h l next = wanted next ∙ words_short n vs W (λ cs W. lawful (kept cs) (next cs W)) small h l

  pub formula_judged : length vs ≡ n → (f : Option Formula) → clauses_in f ≡ keeping vs
      → MatchResult (ok_or f Unlawful) (λ f. U ≡ formula_bits (clauses_of f) ++ W) (λ q. (next : List ℕ → List ℕ → Reading) → formula_at U next ≡ Err (number_of q))
  formula_judged e (Some f) k =
      let same : clauses_of f ≡ vs = (keeping_some (clauses_of f) vs k).1 in
      count
      ∙ (ap (λ (x : List ℕ). bits 4 n ++ x) clauses
      ∙ (ap (λ (m : ℕ). bits 4 m ++ (words vs ++ W)) (sym e) ∙ ap (λ (x : List ℕ). formula_bits x ++ W) (sym same)))
  formula_judged e None k = λ next.
      wanted next
      ∙ (ap (λ (m : ℕ). words_at m (words vs ++ W) (λ cs W. lawful (kept cs) (next cs W))) (sym e)
      ∙ (words_here vs W (λ cs W. lawful (kept cs) (next cs W)) small ∙ cond-false _ _ _ (keeping_none vs k)))

-- the kind, the task and the record of an entry
module _ {k t r : ℕ} {U U1 U2 U3 : List ℕ} (e1 : U ≡ bits 1 k ++ U1) (s1 : k < 2) (e2 : U1 ≡ bits 3 t ++ U2) (s2 : t < 8) (e3 : U2 ≡ bits 6 r ++ U3) (s3 : r < 64) where
  pub at_answer : entry_at U ≡ told_at k t r U3
  at_answer =
      ap entry_at (e1 ∙ ap (λ (x : List ℕ). bits 1 k ++ x) (e2 ∙ ap (λ (x : List ℕ). bits 3 t ++ x) e3))
      ∙ (field_here 1 k (bits 3 t ++ (bits 6 r ++ U3)) task_at s1
      ∙ (field_here 3 t (bits 6 r ++ U3) (record_at k) s2 ∙ field_here 6 r U3 (told_at k t) s3))

  -- and its answer
  module _ (a : Told) (U4 : List ℕ) (e4 : U3 ≡ answer_bits a ++ U4) (carried : carries_answer a ≡ true) (groups : Sets (values_of a)) where
    pub at_formula : entry_at U ≡ new_at k t r a U4
    at_formula = at_answer ∙ (ap (told_at k t r) e4 ∙ answer_here a U4 (new_at k t r) carried groups)

    -- and its formula
    module _ (cs U5 : List ℕ) (e5 : U4 ≡ formula_bits cs ++ U5) (form : kept cs ≡ true) (clauses : Sets cs) where
      at_padding : entry_at U ≡ pad_at (made k t r a cs) U5
      at_padding = at_formula ∙ (ap (new_at k t r a) e5 ∙ formula_here cs U5 (λ cs V. pad_at (made k t r a cs) V) form clauses)

      -- and the bits to the byte's end, as many as pad the entry
      module _ {w p : ℕ} (U6 : List ℕ) (e6 : U5 ≡ bits w p ++ U6) (s6 : p < 2 ^ w) (wide : w ≡ length U5 % 8) (whole : length U % 8 ≡ 0) where
        lengths : (w ≡ pad_size a) × (length U ≡ 8 * size_of (made k t r a cs) + length U6)
        lengths =
            let l1 = ap length e1 ∙ length-append (bits 1 k) U1 in
            let l2 = ap length e2 ∙ length-append (bits 3 t) U2 in
            let l3 = ap length e3 ∙ length-append (bits 6 r) U3 in
            let l4 = ap length e4 ∙ length-append (answer_bits a) U4 in
            let l5 = ap length e5 ∙ length-append (formula_bits cs) U5 in
            let l6 = ap length e6 ∙ length-append (bits w p) U6 in
            let pad : w ≡ pad_size a = omega (arith, l1, l2, l3, l4, l5, length_answer a, length_formula cs, sizes a, pad_most a) in
            (pad, omega (arith, pad, l1, l2, l3, l4, l5, l6, length_answer a, length_formula cs, length_bits w p, sizes a))

        pub judged : (entry_at U ≡ lawful (eqb p 0) (Ok (made k t r a cs))) × (length U ≡ 8 * size_of (made k t r a cs) + length U6)
        judged =
            let next : ℕ → List ℕ → Reading = λ p V. lawful (eqb p 0) (Ok (made k t r a cs)) in (
              at_padding
                  ∙ (ap (λ (i : ℕ). field i U5 next) (sym lengths.0)
                  ∙ (ap (λ (x : List ℕ). field w x next) e6 ∙ field_here w p U6 next s6)),
              lengths.1,
            )

kind_small : (a : Kind) → kind_bit a < 2
kind_small Release = omega arith
kind_small Endorse = omega arith

kind_back : (a : Kind) → kind_of (kind_bit a) ≡ a
kind_back Release = refl
kind_back Endorse = refl

-- an entry's bits are read as the entry, whatever stands behind them
pub reads_back_bits : (e : Plain) (rest : List ℕ) → Carried e → entry_at (entry_bits e ++ rest) ≡ Ok e
reads_back_bits e rest h =
    let a = e.answer in
    let cs = e.new in
    let P : List ℕ = bits (pad_size a) 0 in
    let f = and_parts (ltb e.task 8) (ltb e.«record» 64 && carries_answer a) h.fields in
    let g = and_parts (ltb e.«record» 64) (carries_answer a) f.1 in
    let behind : (answer_bits a ++ (formula_bits cs ++ P)) ++ rest ≡ answer_bits a ++ (formula_bits cs ++ (P ++ rest)) =
    append_assoc (answer_bits a) (formula_bits cs ++ P) rest ∙ ap (λ (y : List ℕ). answer_bits a ++ y) (append_assoc (formula_bits cs) P rest) in
    let same : made (kind_bit e.kind) e.task e.«record» a cs ≡ e = ap (λ (k : Kind). record e { kind = k }) (kind_back e.kind) in
    at_padding {k = kind_bit e.kind} {t = e.task} {r = e.«record»} {U = entry_bits e ++ rest} refl (kind_small e.kind) refl (ltb-true e.task 8 f.0) refl (ltb-true e.«record» 64 g.0)
    a _ behind g.1 h.groups cs (P ++ rest) refl h.form h.clauses
    ∙ (field_here (pad_size a) 0 rest (λ p V. lawful (eqb p 0) (Ok (made (kind_bit e.kind) e.task e.«record» a cs))) (pow_pos (pad_size a))
    ∙ ap (λ (x : Plain). Ok x) same)
