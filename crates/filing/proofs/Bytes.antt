-- An entry that the docket can carry fits into 21 bytes.
use Rattle.std.proofs.Common.{◌≡◌, ℕ, ◌+◌, ◌≤◌, true, false, List, [], ◌∷◌, ◌++◌, length, take, drop, sym, ap, ◌∙◌, inl, inr, arith}
use Rattle.std.proofs.lemmas.Bool.{cases_Bool, cond-true, cond-false, le-leb}
use Rattle.std.proofs.lemmas.List.{take_at}
use Rattle.answer.specs.declared.Refusal.{Refusal}
use Rattle.answer.specs.declared.Answer.TheVariants.{Refused}
use Rattle.answer.specs.Told.{granted, told}
use Rattle.answer.proofs.Telling.{is_granted, never_granted}
use Rattle.docket.specs.Entries.{Plain, carries, size_of, entry_bits, entry_bytes}
use Rattle.docket.specs.Writing.{room_for, writing, written}
use Rattle.docket.proofs.Packing.{length_packed, size_most}
use Rattle.filing.specs.Filing.{bytes_of}

module _ (e : Plain) (few : length e.new ≤ 8) (zs bytes : List ℕ) (room : length zs ≡ 21) (after : bytes ≡ written e 0 zs) where
  small : carries e ≡ true → size_of e ≤ 21
  small c = size_most e c few

  fits : carries e ≡ true → room_for e 0 zs ≡ true
  fits c = le-leb (0 + size_of e) (length zs) (omega (arith, small c, room))

  granted_so : carries e ≡ true → writing e 0 zs ≡ granted ((0 + size_of e) ∷ [])
  granted_so c = cond-true _ _ _ c ∙ cond-true _ _ _ (fits c)

  written_so : carries e ≡ true → bytes ≡ entry_bytes e ++ drop (0 + size_of e) zs
  written_so c = after ∙ cond-true _ _ _ c ∙ cond-true _ _ _ (fits c)

  pub filed_ok : (next : ℕ) → granted (next ∷ []) ≡ writing e 0 zs → (next ≤ 21) × (take next bytes ≡ bytes_of e)
  filed_ok next g =
      elim (cases_Bool (carries e)) [
        | inl c ↦
            let same : next ≡ 0 + size_of e = let h = g ∙ granted_so c in cc in (
              omega (arith, same, small c),
              ap (λ (b : List ℕ). take next b) (written_so c)
                  ∙ take_at (entry_bytes e) (drop (0 + size_of e) zs) next (length_packed (size_of e) (entry_bits e) ∙ omega (arith, same))
                  ∙ sym (cond-true (carries e) (entry_bytes e) [] c),
            )
        | inr c ↦ absurd (let h : true ≡ false = ap is_granted (g ∙ cond-false _ _ _ c) in let z : ◌≡◌ {A = ℕ} 0 1 = cc in omega arith)
      ]

  pub filed_no : (q : Refusal) → told (Refused q) ≡ writing e 0 zs → [] ≡ bytes_of e
  filed_no q r =
      elim (cases_Bool (carries e)) [
        | inl c ↦ absurd (never_granted q _ (r ∙ granted_so c))
        | inr c ↦ sym (cond-false (carries e) (entry_bytes e) [] c)
      ]
