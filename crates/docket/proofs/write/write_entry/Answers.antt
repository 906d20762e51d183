use borrow.Rule.Slice.PartMut.{put_mid}
use Rattle.std.proofs.Common.{◌≡◌, ℕ, ◌+◌, ◌-◌, ◌<◌, ◌≤◌, true, false, List, [], ◌++◌, length, take, drop, sym, ap, ◌∙◌, arith}
use Rattle.std.proofs.lemmas.List.{drop-drop, length-take-le}
use Rattle.std.proofs.lemmas.Bool.{le-leb, lt-leb, cond-true, cond-false}
use Rattle.answer.specs.Told.{granted, refused}
use Rattle.docket.specs.Entries.{Plain, plain_of, carries, size_of, entry_bytes}
use Rattle.docket.specs.Laws.{Carried}
use Rattle.docket.specs.Reading.{entry, read_at}
use Rattle.docket.specs.Writing.{room_for, packing, writing, written, next_place}
use Rattle.docket.proofs.Packing.{length_entry}
use Rattle.docket.proofs.Whole.{reads_back}
use Rattle.docket.proofs.write.write_entry.Goals as goal

-- an entry that is carried
module _ (e : Plain) (place : ℕ) (bytes packed : List ℕ) (h : Carried e) (put : granted packed ≡ packing e) where
  same : packed ≡ entry_bytes e
  same = let p : granted packed ≡ granted (entry_bytes e) = put ∙ cond-true (carries e) _ _ h.fields in cc

  size : length packed ≡ size_of e
  size = ap length same ∙ length_entry e

  -- but has no room
  full : length bytes < place + length packed → (refused 17 [] ≡ writing e place bytes) × (bytes ≡ written e place bytes)
  full l =
      let no : room_for e place bytes ≡ false = lt-leb (place + size_of e) (length bytes) (omega (arith, l, size)) in (
        sym (cond-true (carries e) _ _ h.fields ∙ cond-false (room_for e place bytes) _ _ no),
        sym (cond-true (carries e) _ _ h.fields ∙ cond-false (room_for e place bytes) _ _ no),
      )

  -- and has room
  module _ (next : ℕ) (end : next ≡ place + length packed) (room : next ≤ length bytes) where
    fits : room_for e place bytes ≡ true
    fits = le-leb (place + size_of e) (length bytes) (omega (arith, size, end, room))

    told : granted (next_place next) ≡ writing e place bytes
    told =
        ap (λ (k : ℕ). granted (next_place k)) (omega (arith, size, end))
        ∙ sym (cond-true (carries e) _ _ h.fields ∙ cond-true (room_for e place bytes) _ _ fits)

    filed : put_mid place (next - place) bytes packed ≡ take place bytes ++ (entry_bytes e ++ drop (place + size_of e) bytes)
    filed =
        rw same (ap (λ (x : List ℕ). take place bytes ++ (entry_bytes e ++ x))
        (drop-drop (next - place) place bytes ∙ ap (λ (i : ℕ). drop i bytes) (omega (arith, size, end))))

    after : put_mid place (next - place) bytes packed ≡ written e place bytes
    after = filed ∙ sym (cond-true (carries e) _ _ h.fields ∙ cond-true (room_for e place bytes) _ _ fits)

    back : read_at (put_mid place (next - place) bytes packed) place ≡ entry e next
    back =
        let l : length (take place bytes) ≡ place = length-take-le place bytes (omega (arith, end, room)) in
        ap (λ (x : List ℕ). read_at x place) filed
        ∙ (ap (read_at (take place bytes ++ (entry_bytes e ++ drop (place + size_of e) bytes))) (sym l)
        ∙ (reads_back e (take place bytes) (drop (place + size_of e) bytes) h ∙ ap (entry e) (omega (arith, l, size, end))))

pub returns-then-next-bytes-clause-answer : goal.returns-then-next-bytes-clause-answer
returns-then-next-bytes-clause-answer c =
    let p = c.in_ok-packed.ensures in
    (full (plain_of c.args.item.now) c.args.place c.args.bytes.now c.in_ok-packed.packed.items p.carried p.answer (omega arith)).0

pub returns-then-next-bytes-clause-after : goal.returns-then-next-bytes-clause-after
returns-then-next-bytes-clause-after c =
    let p = c.in_ok-packed.ensures in
    (full (plain_of c.args.item.now) c.args.place c.args.bytes.now c.in_ok-packed.packed.items p.carried p.answer (omega arith)).1

pub returns : goal.returns
returns c =
    let e = plain_of c.args.item.now in
    let place = c.args.place in
    let bytes = c.args.bytes.now in
    let packed = c.in_ok-packed.packed.items in
    let p = c.in_ok-packed.ensures in
    let next = c.saturating_add-next.result in
    let room = c.if-next-bytes.false in
    let copied = c.copy_from_slice.ensures.after ∙ c.as_slice.ensures.value in
    record {
      answer = told e place bytes packed p.carried p.answer next (omega arith) room;
      after = rw copied (after e place bytes packed p.carried p.answer next (omega arith) room);
      back = rw copied (back e place bytes packed p.carried p.answer next (omega arith) room);
    }
