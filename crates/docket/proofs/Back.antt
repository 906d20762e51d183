-- What is read was written.
use Rattle.std.proofs.Common.{◌≡◌, ℕ, zero, suc, ◌^◌, ◌<◌, ◌≤◌, Bool, true, false, cond, ◌&&◌, eqb, ltb, leb, List, [], ◌∷◌, ◌++◌, length, take, drop, Ok, Err, sym, refl, ap, ◌∙◌, subst, inl, inr, arith, take-append-drop}
use Rattle.std.proofs.ByRecursion.{All-drop}
use Rattle.std.proofs.lemmas.List.{append_assoc}
use Rattle.std.proofs.lemmas.Bool.{eq-eqb, eqb-true, eqb-false, leb-true, lt-ltb, and_from, cases_Bool, cond-true, cond-false}
use Rattle.answer.specs.Told.{Told, granted, refused}
use Rattle.formula.specs.Keeping.{kept}
use Rattle.label.specs.Kinds.{kind_bit}
use Rattle.docket.specs.Bits.{bits, number}
use Rattle.docket.specs.Entries.{Plain, asked, brings, carries_answer, words, answer_bits, formula_bits, pad_size, entry_bits}
use Rattle.docket.specs.Reading.{Reading, field, lawful, words_at, question_at, answer_at, formula_at, pad_at, kind_of, made, new_at, told_at, record_at, task_at, entry_at}
use Rattle.docket.specs.Laws.{Sets, values_of, Carried}
use Rattle.docket.proofs.Numbers.{Bits, bits_taken, taken_small}

err_ok : (q : ℕ) (e : Plain) → ◌≡◌ {A = Reading} (Err q) (Ok e) → ⊥
err_ok q e p = cc

-- what an accepted row begins with: the bits of a value, and behind them bits that are read on
record Begun {A : Type 0} (row : A → List ℕ) (Fine : A → Type 0) (next : A → List ℕ → Reading) (U : List ℕ) (e : Plain) : Type 0 where
  value : A
  rest : List ℕ
  fine : Fine value
  whole : U ≡ row value ++ rest
  rest_bits : Bits rest
  more : next value rest ≡ Ok e

abbrev Below : ℕ → ℕ → Type 0
Below w v = v < 2 ^ w

field_inv : (w : ℕ) (U : List ℕ) (next : ℕ → List ℕ → Reading) (e : Plain) → Bits U → field w U next ≡ Ok e → Begun (bits w) (Below w) next U e
field_inv w U next e b q =
    elim (cases_Bool (leb w (length U))) [
      | inl p ↦
          let enough : w ≤ length U = leb-true w (length U) p in
          record {
            value = number (take w U);
            rest = drop w U;
            fine = taken_small w U b enough;
            whole = sym (take-append-drop w U) ∙ ap (λ (x : List ℕ). x ++ drop w U) (sym (bits_taken w U b enough));
            rest_bits = All-drop (λ b. b < 2) w U b;
            more = sym (cond-true _ _ _ p) ∙ q;
          }
      | inr p ↦ absurd (err_ok 19 e (sym (cond-false _ _ _ p) ∙ q))
    ]

lawful_inv : (b : Bool) (r : Reading) (e : Plain) → lawful b r ≡ Ok e → (b ≡ true) × (r ≡ Ok e)
lawful_inv true r e p = (refl, p)
lawful_inv false r e p = absurd (err_ok 20 e p)

abbrev Counted : ℕ → List ℕ → Type 0
Counted n vs = (length vs ≡ n) × Sets vs

words_inv : (n : ℕ) (U : List ℕ) (next : List ℕ → List ℕ → Reading) (e : Plain) → Bits U → words_at n U next ≡ Ok e → Begun words (Counted n) next U e
words_inv zero U next e b p = record { value = []; rest = U; fine = (refl, tt); whole = refl; rest_bits = b; more = p }
words_inv (suc n) U next e b p =
    let h = field_inv 16 U (λ v V. words_at n V (λ vs W. next (v ∷ vs) W)) e b p in
    let r = words_inv n h.rest (λ vs W. next (h.value ∷ vs) W) e h.rest_bits h.more in
    record {
      value = h.value ∷ r.value;
      rest = r.rest;
      fine = (ap suc r.fine.0, (h.fine, r.fine.1));
      whole = h.whole ∙ ap (λ (x : List ℕ). bits 16 h.value ++ x) r.whole;
      rest_bits = r.rest_bits;
      more = r.more;
    }

question_row : (U V W X vs : List ℕ) (b q : ℕ) → U ≡ bits 1 b ++ V → b ≡ 0 → V ≡ bits 5 q ++ W → W ≡ words vs ++ X → U ≡ answer_bits (refused q vs) ++ X
question_row U V W X vs b q e z f g = rw (e, z, f, g) refl

abbrev Answered : Told → Type 0
Answered a = (carries_answer a ≡ true) × Sets (values_of a)

answer_inv : (U : List ℕ) (next : Told → List ℕ → Reading) (e : Plain) → Bits U → answer_at U next ≡ Ok e → Begun answer_bits Answered next U e
answer_inv U next e b p = go (eqb h.value 1) refl
  where
    h : Begun (bits 1) (Below 1) (λ b V. cond (eqb b 1) (next (granted []) V) (question_at V next)) U e
    h = field_inv 1 U (λ b V. cond (eqb b 1) (next (granted []) V) (question_at V next)) e b p

    go : (x : Bool) → eqb h.value 1 ≡ x → Begun answer_bits Answered next U e
    go true x =
        record {
          value = granted [];
          rest = h.rest;
          fine = (refl, tt);
          whole = h.whole ∙ ap (λ (k : ℕ). bits 1 k ++ h.rest) (eqb-true h.value 1 x);
          rest_bits = h.rest_bits;
          more = sym (cond-true _ _ _ x) ∙ h.more;
        }
    go false x =
        let no : h.value ≡ 1 → ⊥ = eqb-false h.value 1 x in
        let sm : h.value < 2 = h.fine in
        let z : h.value ≡ 0 = omega (arith, no) in
        let g = field_inv 5 h.rest (λ q V. lawful (asked q) (words_at (brings q) V (λ vs W. next (refused q vs) W))) e h.rest_bits (sym (cond-false _ _ _ x) ∙ h.more) in
        let q = g.value in
        let m = lawful_inv (asked q) (words_at (brings q) g.rest (λ vs W. next (refused q vs) W)) e g.more in
        let ws = words_inv (brings q) g.rest (λ vs W. next (refused q vs) W) e g.rest_bits m.1 in
        record {
          value = refused q ws.value;
          rest = ws.rest;
          fine = (and_from (asked q) (eqb (length ws.value) (brings q)) m.0 (eq-eqb (length ws.value) (brings q) ws.fine.0), ws.fine.1);
          whole = question_row U h.rest g.rest ws.rest ws.value h.value q h.whole z g.whole ws.whole;
          rest_bits = ws.rest_bits;
          more = ws.more;
        }

abbrev Kept : List ℕ → Type 0
Kept cs = (kept cs ≡ true) × Sets cs

formula_inv : (U : List ℕ) (next : List ℕ → List ℕ → Reading) (e : Plain) → Bits U → formula_at U next ≡ Ok e → Begun formula_bits Kept next U e
formula_inv U next e b p =
    let judged : List ℕ → List ℕ → Reading = λ cs W. lawful (kept cs) (next cs W) in
    let h = field_inv 4 U (λ n V. lawful (leb n 8) (words_at n V (λ cs W. lawful (kept cs) (next cs W)))) e b p in
    let m = lawful_inv (leb h.value 8) (words_at h.value h.rest judged) e h.more in
    let ws = words_inv h.value h.rest judged e h.rest_bits m.1 in
    let j = lawful_inv (kept ws.value) (next ws.value ws.rest) e ws.more in
    record {
      value = ws.value;
      rest = ws.rest;
      fine = (j.0, ws.fine.1);
      whole =
          h.whole
          ∙ (ap (λ (y : List ℕ). bits 4 h.value ++ y) ws.whole ∙ ap (λ (k : ℕ). bits 4 k ++ (words ws.value ++ ws.rest)) (sym ws.fine.0));
      rest_bits = ws.rest_bits;
      more = j.1;
    }

kind_bit_lem : (k : ℕ) → k < 2 → kind_bit (kind_of k) ≡ k
kind_bit_lem zero h = refl
kind_bit_lem (suc zero) h = refl
kind_bit_lem (suc (suc k)) h = absurd (omega arith)

-- an accepted row begins with the entry's bits
pub record Whole (U : List ℕ) (e : Plain) : Type 0 where
  pub rest : List ℕ
  pub carried : Carried e
  pub whole : U ≡ entry_bits e ++ rest

join : (U U1 U2 U3 U4 U5 U6 cs : List ℕ) (b k t r p : ℕ) (a : Told) → U ≡ bits 1 b ++ U1 → b ≡ kind_bit (kind_of k) → U1 ≡ bits 3 t ++ U2 → U2 ≡ bits 6 r ++ U3
    → U3 ≡ answer_bits a ++ U4 → U4 ≡ formula_bits cs ++ U5 → U5 ≡ bits (pad_size a) p ++ U6 → p ≡ 0 → U ≡ entry_bits (made k t r a cs) ++ U6
join U U1 U2 U3 U4 U5 U6 cs b k t r p a e1 kind e2 e3 e4 e5 e6 z =
    let A : List ℕ = answer_bits a in
    let F : List ℕ = formula_bits cs in
    let P : List ℕ = bits (pad_size a) 0 in
    rw (e1, kind, e2, e3, e4, e5, e6, z)
    (ap (λ (y : List ℕ). bits 1 (kind_bit (kind_of k)) ++ (bits 3 t ++ (bits 6 r ++ y)))
    (sym (append_assoc A (F ++ P) U6 ∙ ap (λ (y : List ℕ). A ++ y) (append_assoc F P U6))))

pub was_written : (U : List ℕ) (e : Plain) → Bits U → entry_at U ≡ Ok e → Whole U e
was_written U e b p =
    let h1 = field_inv 1 U task_at e b p in
    let k = h1.value in
    let h2 = field_inv 3 h1.rest (record_at k) e h1.rest_bits h1.more in
    let t = h2.value in
    let h3 = field_inv 6 h2.rest (told_at k t) e h2.rest_bits h2.more in
    let r = h3.value in
    let h4 = answer_inv h3.rest (new_at k t r) e h3.rest_bits h3.more in
    let a = h4.value in
    let h5 = formula_inv h4.rest (λ cs V. pad_at (made k t r a cs) V) e h4.rest_bits h4.more in
    let x = made k t r a h5.value in
    let h6 = field_inv (pad_size a) h5.rest (λ p V. lawful (eqb p 0) (Ok x)) e h5.rest_bits h5.more in
    let z = lawful_inv (eqb h6.value 0) (Ok x) e h6.more in
    let same : x ≡ e = let q = z.1 in cc in
    subst (Whole U) {x = x} same
    (record {
      rest = h6.rest;
      carried =
          record {
            fields =
                and_from (ltb t 8) (ltb r 64 && carries_answer a) (lt-ltb t 8 h2.fine)
                (and_from (ltb r 64) (carries_answer a) (lt-ltb r 64 h3.fine) h4.fine.0);
            form = h5.fine.0;
            groups = h4.fine.1;
            clauses = h5.fine.1;
          };
      whole =
          join U h1.rest h2.rest h3.rest h4.rest h5.rest h6.rest h5.value k k t r h6.value a
          h1.whole (sym (kind_bit_lem k h1.fine)) h2.whole h3.whole h4.whole h5.whole h6.whole (eqb-true h6.value 0 z.0);
    })
