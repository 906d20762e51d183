use Rattle.std.proofs.Common.{◌≡◌, ℕ, true, eqb, List, [], ◌∷◌, ◌++◌, length, Some, sym, ap, ◌∙◌, arith}
use Rattle.std.proofs.lemmas.Bool.{and_parts, eqb-true}
use Rattle.std.proofs.lemmas.List.{append_assoc}
use Rattle.answer.specs.Told.{Told, granted, refused, says, nothing, question_of, group_of}
use Rattle.docket.specs.Bits.{bits}
use Rattle.docket.specs.Entries.{asked, brings, carries_answer, answer_bits}
use Rattle.docket.proofs.Packing.{brings_one}
use Rattle.docket.proofs.bits_packed.BitsPacked.put_answer.Goals as goal

-- an answer that brings a group brings no more
group_bits : (a : Told) (n g : ℕ) → n ≡ question_of a → Some g ≡ group_of a → carries_answer a ≡ true → bits 1 0 ++ (bits 5 n ++ bits 16 g) ≡ answer_bits a
group_bits (granted vs) n g q s c = absurd cc
group_bits (refused q []) n g i s c = absurd cc
group_bits (refused q (v ∷ [])) n g i s c =
    let e : g ≡ v = cc in
    ap (λ (k : ℕ). bits 1 0 ++ (bits 5 k ++ bits 16 g)) i ∙ ap (λ (k : ℕ). bits 1 0 ++ (bits 5 q ++ bits 16 k)) e
group_bits (refused q (v ∷ w ∷ vs)) n g i s c =
    absurd (omega (arith, eqb-true (length (v ∷ w ∷ vs)) (brings q) (and_parts (asked q) (eqb (length (v ∷ w ∷ vs)) (brings q)) c).1, brings_one q))

pub returns-in-Some-clause-put : goal.returns-in-Some-clause-put
returns-in-Some-clause-put c =
    let was = c.args.self.now in
    let a = says nothing c.args.answer in
    let n = c.from.result in
    let g = c.in-Some.group in
    let is = ap (says nothing) c.in-Err.is in
    c.put-in-Some.ensures
    ∙ (ap (λ (x : List ℕ). x ++ bits 16 g) (c.put-in-Err-2.ensures ∙ ap (λ (x : List ℕ). x ++ bits 5 n) c.put-in-Err.ensures)
    ∙ (append_assoc (was ++ bits 1 0) (bits 5 n) (bits 16 g)
    ∙ (append_assoc was (bits 1 0) (bits 5 n ++ bits 16 g)
    ∙ ap (λ (x : List ℕ). was ++ x) (group_bits a n g (c.from.ensures ∙ (c.number.ensures ∙ ap question_of (sym is))) (c.in-Some.ensures ∙ ap group_of (sym is)) c.requires.1))))
