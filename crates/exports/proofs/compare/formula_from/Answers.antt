use Rattle.std.proofs.Common.{take, ◌≡◌, ℕ, ◌%◌, leb, List, [], length, map, ap, ◌∙◌, sym, arith}
use Rattle.std.specs.Int.{w16, from_be_bytes}
use Rattle.std.proofs.lemmas.Bool.{cond-true, cond-false, lt-leb, eq-eqb}
use Rattle.std.proofs.lemmas.List.{take_all, length-map, length-take-le}
use Rattle.answer.specs.Told.{refused}
use Rattle.formula.specs.Forms.{reduces}
use Rattle.exports.specs.Comparing.{clauses_from, evenly, formula_from}
use Rattle.exports.proofs.Clauses.{length_clauses, in_pairs}
use Rattle.exports.proofs.compare.formula_from.Goals as goal

even : (bytes : List ℕ) → length bytes % 2 ≡ 0 → reduces (clauses_from bytes) ≡ formula_from bytes
even bytes z = sym (cond-true (evenly bytes) (reduces (clauses_from bytes)) (refused 19 []) (eq-eqb (length bytes % 2) 0 z))

pub returns-then-bytes : goal.returns-then-bytes
returns-then-bytes c =
    let bytes = c.args.bytes.now in
    sym (cond-false (leb (length (clauses_from bytes)) 64) _ (refused 1 []) (lt-leb (length (clauses_from bytes)) 64 (omega (arith, length_clauses bytes, c.if-bytes.true))))
    ∙ even bytes c.if-bytes-ne0.false

pub push-requires : goal.push-requires
push-requires c =
    let pairs = c.as_chunks.result.0.now in
    let i = c.loop-pair.pair-index in
    omega (arith, ap length c.loop-pair.invariant ∙ length-map (take i pairs) (from_be_bytes w16) ∙ length-take-le i pairs (omega arith), ap length c.as_chunks.ensures.front, c.if-bytes.false)

pub returns : goal.returns
returns c =
    let bytes = c.args.bytes.now in
    let pairs = c.as_chunks.result.0.now in
    let all : c.as_slice.result.now ≡ clauses_from bytes = c.as_slice.ensures.value ∙ c.loop-pair.invariant
    ∙ ap (map (from_be_bytes w16)) (take_all c.loop-pair.pair-index pairs (omega arith) ∙ c.as_chunks.ensures.front) ∙ in_pairs bytes in
    c.reduce.ensures.answer ∙ ap reduces all ∙ even bytes c.if-bytes-ne0.false
