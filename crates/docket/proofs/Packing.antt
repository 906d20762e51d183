-- Bits and the bytes that they fill.
use Rattle.std.proofs.Common.{◌≡◌, ℕ, zero, suc, ◌+◌, ◌*◌, ◌<◌, ◌≤◌, Bool, true, false, cond, ◌&&◌, eqb, ltb, List, [], ◌∷◌, ◌++◌, length, take, drop, sym, refl, ap, ◌∙◌, arith, length-append, length-drop, take-append-drop}
use Rattle.std.proofs.ByRecursion.{All-drop}
use Rattle.std.proofs.lemmas.Bool.{and_parts, eqb-true}
use Rattle.std.proofs.lemmas.List.{take_at, nil_from_length, append_assoc}
use Rattle.answer.specs.Told.{Told, granted, refused}
use Rattle.docket.specs.Bits.{bits, unpack, number, packed}
use Rattle.docket.specs.Entries.{Plain, asked, brings, carries_answer, carries, words, answer_bits, answer_size, formula_bits, pad_size, head_size, entry_bits, size_of, entry_bytes}
use Rattle.docket.specs.Laws.{Bytes}
use Rattle.docket.proofs.Rows.{length_bits}
use Rattle.docket.proofs.Numbers.{Bits, Bits-append, bits_bits, bits_taken, number_bits}

pub length_packed : (n : ℕ) (U : List ℕ) → length (packed n U) ≡ n
length_packed zero U = refl
length_packed (suc n) U = ap suc (length_packed n (drop 8 U))

pub unpack_packed : (n : ℕ) (U : List ℕ) → Bits U → length U ≡ 8 * n → unpack (packed n U) ≡ U
unpack_packed zero U b l = sym (nil_from_length U (omega arith))
unpack_packed (suc n) U b l =
    let back = unpack_packed n (drop 8 U) (All-drop (λ b. b < 2) 8 U b) (omega (arith, length-drop 8 U)) in
    ap (λ (x : List ℕ). x ++ unpack (packed n (drop 8 U))) (bits_taken 8 U b (omega arith)) ∙ (ap (λ (x : List ℕ). take 8 U ++ x) back ∙ take-append-drop 8 U)

pub packed_unpack : (bs : List ℕ) → Bytes bs → packed (length bs) (unpack bs) ≡ bs
packed_unpack [] h = refl
packed_unpack (b ∷ bs) h =
    let x : number (take 8 (unpack (b ∷ bs))) ≡ b = ap number (take_at (bits 8 b) (unpack bs) 8 refl) ∙ number_bits 8 b h.0 in
    let y : packed (length bs) (drop 8 (unpack (b ∷ bs))) ≡ bs = packed_unpack bs h.1 in
    cc

-- bytes whose bits are a row are that row packed
pub packed_is : (n : ℕ) (bs U : List ℕ) → Bytes bs → length bs ≡ n → unpack bs ≡ U → bs ≡ packed n U
packed_is n bs U h l e = sym (packed_unpack bs h) ∙ (ap (λ (k : ℕ). packed k (unpack bs)) l ∙ ap (packed n) e)

pub length_words : (vs : List ℕ) → length (words vs) ≡ 16 * length vs
length_words [] = refl
length_words (v ∷ vs) = omega (arith, length_words vs)

pub words_push : (vs : List ℕ) (v : ℕ) → words (vs ++ v ∷ []) ≡ words vs ++ bits 16 v
words_push [] v = refl
words_push (w ∷ vs) v = ap (λ (x : List ℕ). bits 16 w ++ x) (words_push vs v) ∙ sym (append_assoc (bits 16 w) (words vs) (bits 16 v))

Bits-words : (vs : List ℕ) → Bits (words vs)
Bits-words [] = tt
Bits-words (v ∷ vs) = Bits-append (bits 16 v) (words vs) (bits_bits 16 v) (Bits-words vs)

pub length_answer : (a : Told) → length (answer_bits a) ≡ answer_size a
length_answer (granted vs) = refl
length_answer (refused q vs) = omega (arith, length_words vs)

Bits-answer : (a : Told) → Bits (answer_bits a)
Bits-answer (granted vs) = bits_bits 1 1
Bits-answer (refused q vs) = search (Bits-append, bits_bits, Bits-words)

pub length_formula : (cs : List ℕ) → length (formula_bits cs) ≡ 4 + 16 * length cs
length_formula cs = omega (arith, length_words cs)

pub sizes : (a : Told) → 14 + answer_size a + pad_size a ≡ 8 * head_size a
sizes (granted vs) = refl
sizes (refused q vs) = omega arith

pub length_entry_bits : (e : Plain) → length (entry_bits e) ≡ 8 * size_of e
length_entry_bits e =
    let a = e.answer in
    let cs = e.new in
    omega (
      arith,
      length-append (answer_bits a) (formula_bits cs ++ bits (pad_size a) 0),
      length_answer a,
      length-append (formula_bits cs) (bits (pad_size a) 0),
      length_formula cs,
      length_bits (pad_size a) 0,
      sizes a,
    )

Bits-entry : (e : Plain) → Bits (entry_bits e)
Bits-entry e = search (Bits-append, bits_bits, Bits-words, Bits-answer) depth 12

pub unpack_entry : (e : Plain) → unpack (entry_bytes e) ≡ entry_bits e
unpack_entry e = unpack_packed (size_of e) (entry_bits e) (Bits-entry e) (length_entry_bits e)

pub length_entry : (e : Plain) → length (entry_bytes e) ≡ size_of e
length_entry e = length_packed (size_of e) (entry_bits e)

pub head_positive : (a : Told) → 2 ≤ head_size a
head_positive (granted vs) = omega arith
head_positive (refused q vs) = omega arith

pub brings_one : (q : ℕ) → brings q ≤ 1
brings_one q = go (eqb q 16)
  where
    go : (b : Bool) → cond b 1 0 ≤ 1
    go true = omega arith
    go false = omega arith

head_small : (a : Told) → carries_answer a ≡ true → head_size a ≤ 5
head_small (granted vs) c = omega arith
head_small (refused q vs) c =
    omega (arith, eqb-true (length vs) (brings q) (and_parts (asked q) (eqb (length vs) (brings q)) c).1, brings_one q)

-- the longest entry that can be carried
pub size_most : (e : Plain) → carries e ≡ true → length e.new ≤ 8 → size_of e ≤ 21
size_most e c few =
    let f = and_parts (ltb e.task 8) (ltb e.«record» 64 && carries_answer e.answer) c in
    let g = and_parts (ltb e.«record» 64) (carries_answer e.answer) f.1 in
    omega (arith, head_small e.answer g.1, few)

pub pad_most : (a : Told) → pad_size a ≤ 4
pad_most (granted vs) = omega arith
pad_most (refused q vs) = omega arith
