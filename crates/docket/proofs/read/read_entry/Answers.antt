use Rattle.std.proofs.Common.{◌≡◌, ℕ, ◌+◌, ◌-◌, ◌*◌, ◌/◌, ◌<◌, ◌≤◌, List, length, drop, Ok, sym, ap, ◌∙◌, arith, length-drop}
use Rattle.std.proofs.ByRecursion.{All-from_get_or}
use Rattle.std.proofs.lemmas.List.{take_all}
use Rattle.std.specs.List.{slice_range}
use Rattle.docket.specs.Bits.{unpack}
use Rattle.docket.specs.Entries.{Plain, plain_of, size_of}
use Rattle.docket.specs.Reading.{Reading, entry, entry_at, placed_at, read_at}
use Rattle.docket.proofs.Rows.{length_unpack}
use Rattle.docket.proofs.Placing.{at_entry}
use Rattle.docket.proofs.Laws.{laws, was}
use Rattle.docket.proofs.read.read_entry.Goals as goal

-- the bytes from the place on, read as an entry and the whole bytes behind it
module _ (bytes rest after : List ℕ) (place whole : ℕ) (e : Plain) (from : rest ≡ slice_range bytes place (length bytes)) (more : 1 ≤ length rest) (size : length (unpack rest) ≡ 8 * size_of e + length after) (is : whole ≡ length after / 8) where
  dropped : rest ≡ drop place bytes
  dropped = from ∙ take_all (length bytes - place) (drop place bytes) (omega (arith, length-drop place bytes))

  sizes : whole + (place + size_of e) ≡ length bytes
  sizes = omega (arith, length_unpack rest, ap length dropped, length-drop place bytes)

  found : ◌≡◌ {A = Reading} (Ok e) (entry_at (unpack rest)) → entry e (length bytes - whole) ≡ read_at bytes place
  found read =
      ap (entry e) (omega (arith, sizes))
      ∙ (ap (placed_at place) (read ∙ ap (λ (x : List ℕ). entry_at (unpack x)) dropped)
      ∙ sym (at_entry bytes place (omega (arith, ap length dropped, length-drop place bytes))))

pub entry-requires : goal.entry-requires
entry-requires c = omega (arith, ap length c.new-bits.ensures, length_unpack c.in-Some.rest.now)

pub overflow_sub-next : goal.overflow_sub-next
overflow_sub-next c =
    omega (
      arith,
      sizes c.args.bytes.now c.in-Some.rest.now c.entry.new.self c.args.place c.whole_bytes.result (plain_of c.in_ok-entry.entry) c.in-Some.ensures.lookup.0.2 c.in-Some.len_at_least
          (sym (ap length c.new-bits.ensures) ∙ c.in_ok-entry.ensures.size) c.whole_bytes.ensures,
    )

pub returns : goal.returns
returns c =
    let bytes = c.args.bytes.now in
    let place = c.args.place in
    let e = plain_of c.in_ok-entry.entry in
    let f =
    found bytes c.in-Some.rest.now c.entry.new.self place c.whole_bytes.result e c.in-Some.ensures.lookup.0.2 c.in-Some.len_at_least
    (sym (ap length c.new-bits.ensures) ∙ c.in_ok-entry.ensures.size) c.whole_bytes.ensures
    (c.in_ok-entry.ensures.answer ∙ ap entry_at c.new-bits.ensures) in
    record {
      answer = f;
      written = was bytes place (entry e (length bytes - c.whole_bytes.result)) (All-from_get_or (λ b. b < 256) bytes 0 (λ i _. let h = c.type_inv.bytes i in omega arith)) f;
      laws = laws;
    }
