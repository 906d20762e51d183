-- Entries written one after another.
use Rattle.std.proofs.Common.{◌≡◌, ℕ, ◌+◌, ◌≤◌, List, [], ◌∷◌, ◌++◌, length, take, drop, sym, refl, ap, ◌∙◌, subst, add-zero, add_assoc, arith, length-append, length-drop, take-append-drop}
use Rattle.std.specs.List.{AllByRecursion}
use Rattle.std.proofs.lemmas.List.{append_assoc, take_at, drop_at, drop-drop, length-take-le}
use Rattle.std.proofs.lemmas.Bool.{le-leb, cond-true}
use Rattle.docket.specs.Entries.{Plain, carries, size_of, entry_bytes}
use Rattle.docket.specs.Writing.{room_for, written}
use Rattle.docket.specs.Laws.{Carried, docket_bytes, docket_size, written_all, ReadsOn, WrittenReadsBack}
use Rattle.docket.proofs.Packing.{length_entry}
use Rattle.docket.proofs.Whole.{docket_reads_back}

length_docket : (es : List Plain) → length (docket_bytes es) ≡ docket_size es
length_docket [] = refl
length_docket (e ∷ es) = omega (arith, length-append (entry_bytes e) (docket_bytes es), length_entry e, length_docket es)

-- the buffer after one entry
module _ (e : Plain) (place : ℕ) (bytes : List ℕ) (h : Carried e) (room : place + size_of e ≤ length bytes) where
  front : List ℕ
  front = take place bytes ++ entry_bytes e

  one : written e place bytes ≡ front ++ drop (place + size_of e) bytes
  unfolding front
  one =
      cond-true (carries e) _ _ h.fields
      ∙ (cond-true (room_for e place bytes) _ _ (le-leb (place + size_of e) (length bytes) room)
      ∙ sym (append_assoc (take place bytes) (entry_bytes e) (drop (place + size_of e) bytes)))

  length_front : length front ≡ place + size_of e
  unfolding front
  length_front =
      omega (arith, length-append (take place bytes) (entry_bytes e), length-take-le place bytes (omega arith), length_entry e)

  one_length : length (written e place bytes) ≡ length bytes
  one_length =
      ap length one
      ∙ omega (arith, length-append front (drop (place + size_of e) bytes), length_front, length-drop (place + size_of e) bytes)

  one_front : take (place + size_of e) (written e place bytes) ≡ take place bytes ++ entry_bytes e
  unfolding front
  one_front = ap (take (place + size_of e)) one ∙ take_at front (drop (place + size_of e) bytes) (place + size_of e) length_front

  one_back : (n : ℕ) → drop (place + size_of e + n) (written e place bytes) ≡ drop (place + size_of e + n) bytes
  one_back n =
      sym (drop-drop n (place + size_of e) (written e place bytes))
      ∙ (ap (λ (x : List ℕ). drop n (drop (place + size_of e) x)) one
      ∙ (ap (drop n) (drop_at front (drop (place + size_of e) bytes) (place + size_of e) length_front) ∙ drop-drop n (place + size_of e) bytes))

filed : (es : List Plain) (place : ℕ) (bytes : List ℕ) → AllByRecursion Carried es → place + docket_size es ≤ length bytes
    → written_all es place bytes ≡ take place bytes ++ (docket_bytes es ++ drop (place + docket_size es) bytes)
filed [] place bytes h l = sym (ap (λ (k : ℕ). take place bytes ++ drop k bytes) (add-zero place) ∙ take-append-drop place bytes)
filed (e ∷ es) place bytes h l =
    let B = written e place bytes in
    let n = docket_size es in
    let room : place + size_of e ≤ length bytes = omega arith in
    let D : List ℕ = drop (place + (size_of e + n)) bytes in
    filed es (place + size_of e) B h.1 (omega (arith, one_length e place bytes h.0 room))
    ∙ (ap (λ (x : List ℕ). x ++ (docket_bytes es ++ drop (place + size_of e + n) B)) (one_front e place bytes h.0 room)
    ∙ (ap (λ (x : List ℕ). (take place bytes ++ entry_bytes e) ++ (docket_bytes es ++ x))
    (one_back e place bytes h.0 room n ∙ ap (λ (k : ℕ). drop k bytes) (add_assoc place (size_of e) n))
    ∙ (append_assoc (take place bytes) (entry_bytes e) (docket_bytes es ++ D)
    ∙ ap (λ (x : List ℕ). take place bytes ++ x) (sym (append_assoc (entry_bytes e) (docket_bytes es) D)))))

pub written_reads_back : WrittenReadsBack
written_reads_back es place bytes h l =
    let n = docket_size es in
    let F : List ℕ = take place bytes in
    let D : List ℕ = drop (place + n) bytes in
    let f = filed es place bytes h l in
    let lf : length F ≡ place = length-take-le place bytes (omega arith) in
    let t : take (place + n) (written_all es place bytes) ≡ F ++ docket_bytes es =
    ap (take (place + n)) (f ∙ sym (append_assoc F (docket_bytes es) D))
    ∙ take_at (F ++ docket_bytes es) D (place + n) (omega (arith, length-append F (docket_bytes es), lf, length_docket es)) in (
      f,
      subst (λ (x : List ℕ). ReadsOn x place es) (sym t)
          (subst (λ (k : ℕ). ReadsOn (F ++ docket_bytes es) k es) lf (docket_reads_back es F h)),
    )
