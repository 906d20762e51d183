-- A key of another kind.
use Rattle.std.specs.Prelude.{ℕ, cond, length, Err, nat_lt}
use Rattle.answer.specs.declared.Denial.TheVariants.{BelowLow}
use Rattle.key.specs.Meanings.{Meaning, grant}

-- it grants where the new formula has fewer clauses than its limit
abbrev pub few_clauses : ℕ → Meaning
few_clauses n r = cond (nat_lt (length r.new) n) grant (Err BelowLow)
