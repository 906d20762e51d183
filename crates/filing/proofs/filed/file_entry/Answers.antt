use Rattle.std.proofs.Common.{◌≡◌, ℕ, ◌≤◌, take, replicate, sym, refl, subst, arith}
use Rattle.formula.proofs.Forming.{eight}
use Rattle.docket.specs.Entries.{plain_of}
use Rattle.filing.specs.Filing.{bytes_of}
use Rattle.filing.proofs.Bytes.{filed_ok, filed_no}
use Rattle.filing.proofs.filed.file_entry.Goals as goal
use Rattle.filing.proofs.filed.file_entry.Goals.{in-Ok, in-Err}

pub invariant_of-result : goal.invariant_of-result
invariant_of-result c =
    let e = plain_of c.args.item.now in
    let few = eight c.args.item.now.new in
    let small : c.match-write_entry.count ≤ 21 =
    elim c.match-write_entry.branch [
      | in-Ok w ↦ subst (λ (n : ℕ). n ≤ 21) (sym w.count-is) (filed_ok e few (replicate 21 0) c.write_entry.new.bytes refl c.write_entry.ensures.after w.in-Ok.next w.in-Ok.ensures.answer).0
      | in-Err w ↦ omega (arith, w.count-is)
    ] in
    record { small = small }

pub returns : goal.returns
returns c =
    let e = plain_of c.args.item.now in
    let few = eight c.args.item.now.new in
    elim c.match-write_entry.branch [
      | in-Ok w ↦
          subst (λ (n : ℕ). take n c.write_entry.new.bytes ≡ bytes_of e) (sym w.count-is)
          (filed_ok e few (replicate 21 0) c.write_entry.new.bytes refl c.write_entry.ensures.after w.in-Ok.next w.in-Ok.ensures.answer).1
      | in-Err w ↦
          subst (λ (n : ℕ). take n c.write_entry.new.bytes ≡ bytes_of e) (sym w.count-is)
          (filed_no e few (replicate 21 0) c.write_entry.new.bytes refl c.write_entry.ensures.after w.in-Err.field-0 w.in-Err.ensures.answer)
    ]
