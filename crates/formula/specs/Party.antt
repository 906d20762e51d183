-- Parties and groups of one party.
use Rattle.std.specs.Prelude.{◌≡◌, ℕ, ◌^◌, ◌<◌, ◌≤◌, Result, MatchResult}
use Rattle.answer.specs.declared.Refusal.{Refusal}
use Rattle.answer.specs.declared.Refusal.TheVariants.{NoSuchNumber}
use Rattle.formula.specs.declared.party.Party.{Party}

-- the group of party k alone
abbrev pub alone : ℕ → ℕ
alone k = 2 ^ k

-- the party of that number; from 16 on there is none
abbrev pub PartyOf : ℕ → Result Party Refusal → Type 0
PartyOf n r = MatchResult r (λ p. (p.number ≡ n) × (n < 16)) (λ q. (q ≡ NoSuchNumber) × (16 ≤ n))
