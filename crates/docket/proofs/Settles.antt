-- Which answers rest on the bits at hand.
use Rattle.std.proofs.Common.{◌≡◌, ℕ, zero, suc, ◌+◌, ◌*◌, ◌≤◌, Bool, true, false, cond, eqb, leb, List, [], ◌∷◌, ◌++◌, length, take, drop, replicate, Ok, Err, sym, refl, ap, ◌∙◌, inl, inr, arith, length-append, length-drop}
use Rattle.std.proofs.lemmas.List.{take-append-le, drop-append-le}
use Rattle.std.proofs.lemmas.Bool.{le-leb, leb-true, cases_eq, cond-true, cond-false}
use Rattle.answer.specs.Told.{Told, granted, refused}
use Rattle.formula.specs.Keeping.{kept}
use Rattle.docket.specs.Bits.{unpack, number}
use Rattle.docket.specs.Entries.{Plain, asked, brings, pad_size}
use Rattle.docket.specs.Reading.{Reading, field, lawful, words_at, answer_at, pad_at, made, new_at, told_at, record_at, task_at, entry_at, refusal, placed_at, read_at}
use Rattle.docket.specs.Laws.{MissingWhereMoreMatters}
use Rattle.docket.proofs.Rows.{length_unpack, unpack_append}
use Rattle.docket.proofs.Packing.{pad_most, brings_one}
use Rattle.docket.proofs.Placing.{at_entry}

-- a reading of at most m bits: where they stand none is missing, and where none is missing the bits behind do not matter
record Steady (m : ℕ) (f : List ℕ → Reading) : Type 0 where
  enough : (U : List ℕ) → m ≤ length U → f U ≡ Err 19 → ⊥
  settled : (U V : List ℕ) → (f U ≡ Err 19 → ⊥) → f (U ++ V) ≡ f U

more : (m n : ℕ) (f : List ℕ → Reading) → m ≤ n → Steady m f → Steady n f
more m n f l h = record { enough = λ U k. h.enough U (omega arith); settled = h.settled }

field_steady : (w m : ℕ) (next : ℕ → List ℕ → Reading) → ((v : ℕ) → Steady m (next v)) → Steady (w + m) (λ U. field w U next)
field_steady w m next h = record { enough = enough; settled = settled }
  where
    enough : (U : List ℕ) → w + m ≤ length U → field w U next ≡ Err 19 → ⊥
    enough U l p =
        let s = h (number (take w U)) in
        let t : leb w (length U) ≡ true = le-leb w (length U) (omega arith) in
        s.enough (drop w U) (omega (arith, length-drop w U)) (sym (cond-true _ _ _ t) ∙ p)

    settled : (U V : List ℕ) → (field w U next ≡ Err 19 → ⊥) → field w (U ++ V) next ≡ field w U next
    settled U V nay = go (leb w (length U)) refl
      where
        go : (x : Bool) → leb w (length U) ≡ x → field w (U ++ V) next ≡ field w U next
        go true p =
            let s = h (number (take w U)) in
            let l : w ≤ length U = leb-true w (length U) p in
            let here : field w U next ≡ next (number (take w U)) (drop w U) = cond-true _ _ _ p in
            let there : leb w (length (U ++ V)) ≡ true = le-leb w (length (U ++ V)) (omega (arith, l, length-append U V)) in
            cond-true _ _ _ there
            ∙ (ap (λ (y : List ℕ). next (number y) (drop w (U ++ V))) (take-append-le w U V l)
            ∙ (ap (next (number (take w U))) (drop-append-le w U V l) ∙ (s.settled (drop w U) V (λ e. nay (here ∙ e)) ∙ sym here)))
        go false p = absurd (nay (cond-false _ _ _ p))

-- lawful content, with what it tells
lawful_steady : (m : ℕ) (b : Bool) (f : List ℕ → Reading) → (b ≡ true → Steady m f) → Steady m (λ U. lawful b (f U))
lawful_steady m true f h = h refl
lawful_steady m false f h =
    record { enough = λ U l p. let z : ◌≡◌ {A = ℕ} 20 19 = cc in omega arith; settled = λ U V nay. refl }

cond_steady : (m : ℕ) (b : Bool) (f g : List ℕ → Reading) → Steady m f → Steady m g → Steady m (λ U. cond b (f U) (g U))
cond_steady m true f g hf hg = hf
cond_steady m false f g hf hg = hg

words_steady : (n m : ℕ) (next : List ℕ → List ℕ → Reading) → ((vs : List ℕ) → Steady m (next vs)) → Steady (16 * n + m) (λ U. words_at n U next)
words_steady zero m next h = more m (16 * zero + m) (next []) (omega arith) (h [])
words_steady (suc n) m next h =
    more (16 + (16 * n + m)) (16 * suc n + m) _ (omega arith)
    (field_steady 16 (16 * n + m) _ (λ v. words_steady n m _ (λ vs. h (v ∷ vs))))

pad_steady : (e : Plain) → Steady 4 (pad_at e)
pad_steady e =
    more (pad_size e.answer + 0) 4 _ (omega (arith, pad_most e.answer))
    (field_steady (pad_size e.answer) 0 _
    (λ p. lawful_steady 0 (eqb p 0) (λ W. Ok e) (λ t. record { enough = λ U l q. cc; settled = λ U V nay. refl })))

new_steady : (k t r : ℕ) (a : Told) → Steady 136 (new_at k t r a)
new_steady k t r a =
    field_steady 4 132 _
    (λ n. lawful_steady 132 (leb n 8) _
    (λ p. more (16 * n + 4) 132 _ (omega (arith, leb-true n 8 p))
    (words_steady n 4 _ (λ cs. lawful_steady 4 (kept cs) _ (λ h. pad_steady (made k t r a cs))))))

answer_steady : (next : Told → List ℕ → Reading) → ((a : Told) → Steady 136 (next a)) → Steady 158 (λ U. answer_at U next)
answer_steady next h =
    field_steady 1 157 _
    (λ b. cond_steady 157 (eqb b 1) _ _ (more 136 157 _ (omega arith) (h (granted [])))
    (field_steady 5 152 _
    (λ q. lawful_steady 152 (asked q) _
    (λ _. more (16 * brings q + 136) 152 _ (omega (arith, brings_one q)) (words_steady (brings q) 136 _ (λ vs. h (refused q vs)))))))

steady : Steady 168 entry_at
steady =
    field_steady 1 167 task_at
    (λ k. field_steady 3 164 (record_at k)
    (λ t. field_steady 6 158 (told_at k t) (λ r. answer_steady (new_at k t r) (new_steady k t r))))

placed_19 : (place : ℕ) (r : Reading) → placed_at place r ≡ refusal 19 → r ≡ Err 19
placed_19 place (Ok e) p = absurd cc
placed_19 place (Err q) p = let e : q ≡ 19 = cc in ap (λ (n : ℕ). Err n) e

-- whether a reading misses bits
misses : (r : Reading) (P : Type 0) → ((r ≡ Err 19 → ⊥) → P → ⊥) → P → r ≡ Err 19
misses (Ok e) P h p = absurd (h (λ q. cc) p)
misses (Err q) P h p =
    elim (cases_eq q 19) [
      | inl e ↦ ap (λ (n : ℕ). Err n) e
      | inr n ↦ absurd (h (λ s. let e : q ≡ 19 = cc in n e) p)
    ]

pub missing : MissingWhereMoreMatters
missing bytes place inside = (
  λ p.
      let m : List ℕ = replicate 21 0 in
      let short : entry_at (unpack D) ≡ Err 19 = placed_19 place (entry_at (unpack D)) (sym here ∙ p) in (
        m,
        λ q.
            steady.enough (unpack D ++ unpack m) (omega (arith, length-append (unpack D) (unpack m), length_unpack m))
            (placed_19 place (entry_at (unpack D ++ unpack m)) (sym (there m) ∙ (q ∙ p))),
      ),
  λ w.
      let V : List ℕ = unpack w.0 in
      let e = misses (entry_at (unpack D)) (read_at (bytes ++ w.0) place ≡ read_at bytes place → ⊥)
      (λ nay change. change (there w.0 ∙ (ap (placed_at place) (steady.settled (unpack D) V nay) ∙ sym here))) w.1 in
      here ∙ ap (placed_at place) e,
)
  where
    D : List ℕ
    D = drop place bytes

    here : read_at bytes place ≡ placed_at place (entry_at (unpack D))
    here = at_entry bytes place inside

    there : (more : List ℕ) → read_at (bytes ++ more) place ≡ placed_at place (entry_at (unpack D ++ unpack more))
    there more =
        at_entry (bytes ++ more) place (omega (arith, inside, length-append bytes more))
        ∙ ap (λ (U : List ℕ). placed_at place (entry_at U))
        (ap unpack (drop-append-le place bytes more (omega arith)) ∙ unpack_append D more)
