use Rattle.std.proofs.Common.{◌≡◌, ℕ, ◌+◌, ◌-◌, ◌*◌, ◌%◌, ◌≤◌, true, List, [], ◌++◌, length, sym, refl, ap, ◌∙◌, arith, length-append}
use Rattle.std.proofs.lemmas.Bool.{cond-true}
use Rattle.std.proofs.lemmas.List.{append_assoc}
use Rattle.answer.specs.Told.{granted, says, nothing}
use Rattle.formula.proofs.Keeping.{kept_clauses, sixteen_clauses}
use Rattle.label.specs.Kinds.{kind_bit}
use Rattle.docket.specs.Bits.{bits, unpack}
use Rattle.docket.specs.Entries.{Plain, plain_of, carries, answer_bits, formula_bits, pad_size, size_of, entry_bits, entry_bytes}
use Rattle.docket.specs.declared.entry.Entry.{Entry}
use Rattle.docket.specs.Laws.{Bytes, Sets, values_of, Carried}
use Rattle.docket.proofs.Packing.{packed_is, length_answer, length_formula, length_entry_bits, sizes, pad_most}
use Rattle.docket.proofs.Rows.{length_unpack}
use Rattle.docket.proofs.Whole.{longest}
use Rattle.docket.proofs.write.entry_bytes.Goals as goal

-- the kind, the task and the record, then the answer, then the formula, then zeros to the byte's end
module _ (e : Plain) (k : ℕ) (n p q h a f : List ℕ) (kind : k ≡ kind_bit e.kind) (none : n ≡ []) (one : p ≡ n ++ bits 1 k) (three : q ≡ p ++ bits 3 e.task) (six : h ≡ q ++ bits 6 e.«record») (answered : a ≡ h ++ answer_bits e.answer) (formed : f ≡ a ++ formula_bits e.new) where
  head : h ≡ bits 1 (kind_bit e.kind) ++ (bits 3 e.task ++ bits 6 e.«record»)
  head = rw (six, three, one, none, kind) refl

  whole : f ++ bits (pad_size e.answer) 0 ≡ entry_bits e
  whole =
      let P : List ℕ = bits (pad_size e.answer) 0 in
      rw (formed, answered, head)
      (ap (λ (x : List ℕ). (bits 1 (kind_bit e.kind) ++ (bits 3 e.task ++ bits 6 e.«record»)) ++ x) (append_assoc (answer_bits e.answer) (formula_bits e.new) P))

  long : length f + pad_size e.answer ≡ 8 * size_of e
  long =
      let l1 = ap length head in
      let l2 = ap length answered ∙ length-append h (answer_bits e.answer) in
      let l3 = ap length formed ∙ length-append a (formula_bits e.new) in
      omega (arith, l1, l2, l3, length_answer e.answer, length_formula e.new, sizes e.answer)

  short : Carried e → length f ≤ 168
  short c = omega (arith, long, longest e c)

  packed_so : (bytes : List ℕ) → unpack bytes ≡ f ++ bits ((8 - length f % 8) % 8) 0 → Bytes bytes → bytes ≡ entry_bytes e
  packed_so bytes row small =
      let pad : (8 - length f % 8) % 8 ≡ pad_size e.answer = omega (arith, long, pad_most e.answer) in
      let u : unpack bytes ≡ entry_bits e = row ∙ (ap (λ (k : ℕ). f ++ bits k 0) pad ∙ whole) in
      packed_is (size_of e) bytes (entry_bits e) small (omega (arith, length_unpack bytes, ap length u, length_entry_bits e)) u

carried : (item : Entry) → true ≡ carries (plain_of item) → Sets (values_of (says nothing item.answer)) → Carried (plain_of item)
carried item fits groups = record { fields = sym fits; form = kept_clauses item.new; groups = groups; clauses = sixteen_clauses item.new }

pub finish-requires : goal.finish-requires
finish-requires c =
    short (plain_of c.args.item.now) c.from.result _ _ _ _ _ _ c.from.ensures c.new-bits.ensures c.put.ensures c.put-2.ensures c.put-3.ensures c.put_answer.ensures.put c.put_formula.ensures
    (carried c.args.item.now c.if-not-is_carried.ensures c.put_answer.ensures.groups)

pub returns : goal.returns
returns c =
    let e = plain_of c.args.item.now in
    record {
      answer =
          ap granted
          (packed_so e c.from.result _ _ _ _ _ _ c.from.ensures c.new-bits.ensures c.put.ensures c.put-2.ensures c.put-3.ensures c.put_answer.ensures.put c.put_formula.ensures
          c.finish.result.items c.finish.ensures.bits c.finish.ensures.bytes)
          ∙ sym (cond-true (carries e) _ _ (sym c.if-not-is_carried.ensures));
      carried = carried c.args.item.now c.if-not-is_carried.ensures c.put_answer.ensures.groups;
    }
