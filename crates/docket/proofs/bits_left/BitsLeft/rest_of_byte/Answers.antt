use Rattle.std.proofs.Common.{◌≡◌, ℕ, ◌%◌, ◌^◌, ◌<◌, ◌≤◌, ◌++◌, length, Ok, Err, Result, refl, ap, ◌∙◌, subst, arith}
use Rattle.std.specs.Result.{MatchResult, IsOk}
use Rattle.std.proofs.lemmas.Result.{MatchResult-at_ok}
use Rattle.answer.specs.declared.Refusal.{Refusal}
use Rattle.answer.specs.declared.Refusal.TheVariants.{Missing}
use Rattle.docket.specs.Bits.{bits}
use Rattle.docket.proofs.Held.{length_left}
use Rattle.docket.proofs.bits_left.BitsLeft.rest_of_byte.Goals as goal

-- no more bits are taken than are held
there : (r : Result ℕ Refusal) (P : ℕ → Type 0) (w n : ℕ) → w ≤ n → MatchResult r P (λ q. (q ≡ Missing) × (n < w)) → IsOk r
there (Ok v) P w n h m = refl
there (Err q) P w n h m = absurd (let l = m.1 in omega arith)

pub unwrap-requires : goal.unwrap-requires
unwrap-requires c =
    let l = c.take.inside in
    there c.take-2.result _ (l.count % 8) (length c.args.self.now)
    (omega (arith, ap length c.take.view_is, length_left l.count l.held l.bytes.now)) c.take-2.ensures.taken

pub returns : goal.returns
returns c =
    let l = c.take.inside in
    let v = c.unwrap.result in
    let w : l.count % 8 ≡ length c.args.self.now % 8 = omega (arith, ap length c.take.view_is, length_left l.count l.held l.bytes.now) in
    let taken = MatchResult-at_ok _ _ v c.unwrap.ensures c.take-2.ensures.taken in
    let small = MatchResult-at_ok _ _ v c.unwrap.ensures c.take-2.ensures.small in
    record {
      taken = taken ∙ ap (λ (k : ℕ). bits k v ++ c.take-2.new.self) w;
      small = subst (λ (k : ℕ). v < 2 ^ k) w small;
    }
