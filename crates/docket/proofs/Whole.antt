-- Entries at their places, and whole dockets.
use Rattle.std.proofs.Common.{◌≡◌, ℕ, ◌+◌, ◌*◌, ◌<◌, ◌≤◌, eqb, ltb, List, [], ◌∷◌, ◌++◌, length, take, drop, Ok, Err, sym, refl, ap, ◌∙◌, subst, inl, inr, arith, length-append, length-drop, take-append-drop}
use Rattle.std.proofs.ByRecursion.{All-take, All-drop}
use Rattle.std.proofs.lemmas.List.{append_assoc, append-nil, take_at, drop_at, drop-drop, drop_all, length-take-le}
use Rattle.std.proofs.lemmas.Bool.{cases_eq, cases_cond, ne_eqb, cond-false}
use Rattle.docket.specs.Bits.{unpack}
use Rattle.docket.specs.Entries.{Plain, size_of, entry_bits, entry_bytes}
use Rattle.docket.specs.Reading.{Reading, entry, over, refusal, entry_at, placed_at, read_at}
use Rattle.docket.specs.Laws.{Carried, BytesAreBits, EntryReadsBack, ReadWasWritten, ToldApart, docket_bytes, ReadsOn, DocketReadsBack, DocketWasWritten}
use Rattle.docket.proofs.Rows.{length_unpack, unpack_append}
use Rattle.docket.proofs.Numbers.{Bits-unpack}
use Rattle.docket.proofs.Forth.{kept_small}
use Rattle.docket.proofs.Taking.{reads_back_bits}
use Rattle.docket.proofs.Back.{was_written}
use Rattle.docket.proofs.Packing.{packed_is, length_entry_bits, unpack_entry, length_entry, head_positive, size_most}
use Rattle.docket.proofs.Placing.{at_end, at_entry}

pub longest : (e : Plain) → Carried e → size_of e ≤ 21
longest e h = size_most e h.fields (kept_small e.new h.form)

pub bytes_are_bits : BytesAreBits
bytes_are_bits e = (unpack_entry e, length_entry e, longest e)

pub reads_back : EntryReadsBack
reads_back e before after h =
    let rest : List ℕ = entry_bytes e ++ after in
    let d : drop (length before) (before ++ rest) ≡ rest = drop_at before rest (length before) refl in
    let u : unpack rest ≡ entry_bits e ++ unpack after =
    unpack_append (entry_bytes e) after ∙ ap (λ (x : List ℕ). x ++ unpack after) (unpack_entry e) in
    at_entry (before ++ rest) (length before)
    (omega (arith, length-append before rest, length-append (entry_bytes e) after, length_entry e, head_positive e.answer))
    ∙ ap (placed_at (length before)) (ap (λ (x : List ℕ). entry_at (unpack x)) d ∙ (ap entry_at u ∙ reads_back_bits e (unpack after) h))

placed_over : (place : ℕ) (r : Reading) → placed_at place r ≡ over → ⊥
placed_over place (Ok e) p = cc
placed_over place (Err q) p = cc

placed_entry : (place : ℕ) (r : Reading) (e : Plain) (n : ℕ) → placed_at place r ≡ entry e n → (r ≡ Ok e) × (n ≡ place + size_of e)
placed_entry place (Ok x) e n p =
    let s : x ≡ e = cc in
    let t : place + size_of x ≡ n = cc in
    (ap (λ (y : Plain). Ok y) s, sym t ∙ ap (λ (y : Plain). place + size_of y) s)
placed_entry place (Err q) e n p = absurd cc

pub over_end : (bytes : List ℕ) (place : ℕ) → read_at bytes place ≡ over → place ≡ length bytes
over_end bytes place p =
    elim (cases_eq place (length bytes)) [
      | inl e ↦ e
      | inr n ↦ elim (cases_cond (ltb (length bytes) place) (refusal 19) _ over (sym p)) [
        | inl q ↦ absurd cc
        | inr q ↦ absurd (placed_over place _ (sym (q ∙ cond-false _ _ _ (ne_eqb place (length bytes) n))))
      ]
    ]

found : (bytes : List ℕ) (place : ℕ) (e : Plain) (n : ℕ) → read_at bytes place ≡ entry e n → (entry_at (unpack (drop place bytes)) ≡ Ok e) × (n ≡ place + size_of e)
found bytes place e n p =
    elim (cases_cond (ltb (length bytes) place) (refusal 19) _ (entry e n) (sym p)) [
      | inl q ↦ absurd cc
      | inr q ↦ elim (cases_cond (eqb place (length bytes)) over _ (entry e n) q) [
        | inl r ↦ absurd cc
        | inr r ↦ placed_entry place _ e n (sym r)
      ]
    ]

pub read_was_written : ReadWasWritten
read_was_written bytes place e next b p =
    let f = found bytes place e next p in
    let D : List ℕ = drop place bytes in
    let s : ℕ = size_of e in
    let w = was_written (unpack D) e (Bits-unpack D) f.0 in
    let lu : length (entry_bits e ++ w.rest) ≡ 8 * length D = sym (ap length w.whole) ∙ length_unpack D in
    let fits : s ≤ length D = omega (arith, lu, length-append (entry_bits e) w.rest, length_entry_bits e) in
    let lt : length (take s D) ≡ s = length-take-le s D fits in
    let row : entry_bits e ++ w.rest ≡ unpack (take s D) ++ unpack (drop s D) =
    sym w.whole ∙ (ap unpack (sym (take-append-drop s D)) ∙ unpack_append (take s D) (drop s D)) in
    let front : unpack (take s D) ≡ entry_bits e =
    sym (take_at (unpack (take s D)) (unpack (drop s D)) (8 * s) (length_unpack (take s D) ∙ ap (λ (k : ℕ). 8 * k) lt))
    ∙ (ap (take (8 * s)) (sym row) ∙ take_at (entry_bits e) w.rest (8 * s) (length_entry_bits e)) in
    record {
      carried = w.carried;
      ends = f.1;
      inside = omega (arith, fits, f.1, length-drop place bytes, head_positive e.answer);
      same = packed_is s (take s D) (entry_bits e) (All-take (λ b. b < 256) s D (All-drop (λ b. b < 256) place bytes b)) lt front;
    }

pub told_apart : ToldApart
told_apart d e hd he p =
    let same : entry_bits d ≡ entry_bits e = sym (unpack_entry d) ∙ (ap unpack p ∙ unpack_entry e) in
    let both : ◌≡◌ {A = Reading} (Ok d) (Ok e) =
    sym (reads_back_bits d [] hd) ∙ (ap (λ (x : List ℕ). entry_at (x ++ [])) same ∙ reads_back_bits e [] he) in
    cc

pub docket_reads_back : DocketReadsBack
docket_reads_back [] before h = at_end (before ++ []) (length before) (ap length (sym (append-nil before)))
docket_reads_back (e ∷ es) before h =
    let b : List ℕ = before ++ entry_bytes e in
    let l : length b ≡ length before + size_of e = length-append before (entry_bytes e) ∙ ap (λ (k : ℕ). length before + k) (length_entry e) in
    let a : b ++ docket_bytes es ≡ before ++ (entry_bytes e ++ docket_bytes es) = append_assoc before (entry_bytes e) (docket_bytes es) in (
      reads_back e before (docket_bytes es) h.0,
      subst (λ (x : List ℕ). ReadsOn x (length before + size_of e) es) a
          (subst (λ (k : ℕ). ReadsOn (b ++ docket_bytes es) k es) l (docket_reads_back es b h.1)),
    )

pub docket_was_written : DocketWasWritten
docket_was_written bytes place [] b r = (tt, drop_all place bytes (omega (arith, over_end bytes place r)))
docket_was_written bytes place (e ∷ es) b r =
    let s = read_was_written bytes place e (place + size_of e) b r.0 in
    let o = docket_was_written bytes (place + size_of e) es b r.1 in
    let D : List ℕ = drop place bytes in (
      (s.carried, o.0),
      sym (take-append-drop (size_of e) D)
          ∙ (ap (λ (x : List ℕ). x ++ drop (size_of e) D) s.same
          ∙ ap (λ (x : List ℕ). entry_bytes e ++ x) (drop-drop (size_of e) place bytes ∙ o.1)),
    )
