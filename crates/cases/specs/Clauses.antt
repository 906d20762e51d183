-- Groups, clauses, and lists of them.
use Rattle.std.specs.Prelude.{◌≡◌, ℕ, ◌<◌, ◌≤◌, true, false, ◌↔◌, List, [], ◌∷◌, Some, None, nat_eq, nat_lt}
use Rattle.clause.specs.Groups.{met, next_least, least, is_none, earlier}
use Rattle.clause.specs.Meaning.{Shares, Meets, Implies, BothImply, ImpliesEither, Alike, Means}
use Rattle.clause.specs.Parties.{Member, InBoth, Sharing}
use Rattle.clause.specs.Parts.{Part, Over, Least, Found}
use Rattle.clause.specs.Reduced.{wider, some, minimal, placed, arranged, reduced}
use Rattle.clause.specs.Unions.{unions}
use Rattle.lowest.specs.First.{Lowest, First, Fitting, Missing}
use Rattle.cases.specs.Table.{one, two, three, four, one_two}

-- each party by itself: only the group of all sixteen meets these
abbrev pub sixteen : List ℕ
sixteen = 1 ∷ 2 ∷ 4 ∷ 8 ∷ 16 ∷ 32 ∷ 64 ∷ 128 ∷ 256 ∷ 512 ∷ 1024 ∷ 2048 ∷ 4096 ∷ 8192 ∷ 16384 ∷ 32768 ∷ []

-- a seventeenth party, which no group has
abbrev pub beyond : List ℕ
beyond = 65536 ∷ []

-- no group meets this
abbrev pub falsity : List ℕ
falsity = 0 ∷ []

pub record Tested : Type 0 where
  -- a group meets a formula when it meets each clause
  pub meets_each : met (1 ∷ 6 ∷ []) 3 ≡ true
  pub misses_second : met (1 ∷ 6 ∷ []) 1 ≡ false
  pub misses_first : met (1 ∷ 6 ∷ []) 4 ≡ false
  pub meets_truth : met [] 0 ≡ true
  -- the least number below a bound, if there is one
  pub least_of_many : least (λ g. nat_lt 2 g) 9 ≡ Some 3
  pub least_at_last : least (λ g. nat_lt 2 g) 4 ≡ Some 3
  pub none_below : least (λ g. nat_lt 2 g) 3 ≡ None
  pub least_zero : least (λ g. nat_eq g 0) 1 ≡ Some 0
  pub earlier_found : next_least true 7 (Some 3) ≡ Some 3
  pub none_is_none : is_none None ≡ true
  pub one_is_not_none : is_none (Some 0) ≡ false
  pub earlier_second : earlier (Some 5) (Some 3) ≡ Some 3
  pub earlier_first : earlier (Some 2) (Some 9) ≡ Some 2
  pub earlier_left : earlier (Some 5) None ≡ Some 5
  pub earlier_right : earlier None (Some 3) ≡ Some 3

pub record Reducing : Type 0 where
  -- 0006 contains 0002 and differs from it
  pub contains : wider 6 2 ≡ true
  pub contained : wider 2 6 ≡ false
  pub contains_not_itself : wider 6 6 ≡ false
  pub beside : wider 6 1 ≡ false
  pub some_first : some (nat_eq 3) (3 ∷ 1 ∷ []) ≡ true
  pub some_last : some (nat_eq 3) (1 ∷ 3 ∷ []) ≡ true
  pub some_none : some (nat_eq 3) [] ≡ false
  pub is_minimal : minimal (6 ∷ 2 ∷ []) 2 ≡ true
  pub not_minimal : minimal (6 ∷ 2 ∷ []) 6 ≡ false
  pub placed_between : placed 4 (1 ∷ 7 ∷ []) ≡ 1 ∷ 4 ∷ 7 ∷ []
  pub placed_once : placed 7 (1 ∷ 7 ∷ []) ≡ 1 ∷ 7 ∷ []
  pub rising_once : arranged (5 ∷ 3 ∷ 5 ∷ []) ≡ 3 ∷ 5 ∷ []
  pub all_reduced : reduced (7 ∷ 8 ∷ 1 ∷ 6 ∷ 1 ∷ []) ≡ 1 ∷ 6 ∷ 8 ∷ []
  pub each_with_each : unions (1 ∷ 2 ∷ []) (4 ∷ 8 ∷ []) ≡ 5 ∷ 9 ∷ 6 ∷ 10 ∷ []
  pub with_none : unions [] one ≡ []

-- the same as statements: what is so, and what is not
pub record Stated : Type 0 where
  -- 0005 and 0006 share party 2, and 0005 and 0002 nothing
  pub shares : Shares 5 6
  pub shares_nothing : Shares 5 2 → ⊥
  pub meets_each : Meets (1 ∷ 6 ∷ []) 3
  pub misses_second : Meets (1 ∷ 6 ∷ []) 1 → ⊥
  pub misses_first : Meets (1 ∷ 6 ∷ []) 4 → ⊥
  pub implies : Implies one_two two
  pub implies_not : Implies three one_two → ⊥
  -- all 65,536 groups count, and no others
  pub implies_to_the_last : Implies sixteen falsity → ⊥
  pub implies_of_groups : Implies beyond falsity
  pub both_imply : BothImply one two one_two
  pub both_imply_not : BothImply one three two → ⊥
  pub both_imply_to_the_last : BothImply sixteen [] falsity → ⊥
  pub both_imply_of_groups : BothImply [] beyond falsity
  pub implies_left : ImpliesEither one one two
  pub implies_right : ImpliesEither two one two
  pub implies_neither : ImpliesEither three one_two four → ⊥
  pub implies_either_to_the_last : ImpliesEither sixteen falsity falsity → ⊥
  pub implies_either_of_groups : ImpliesEither beyond falsity falsity
  pub alike : Alike one_two (2 ∷ 1 ∷ [])
  pub not_alike : Alike one [] → ⊥
  pub not_alike_either : Alike [] one → ⊥
  pub means : Means one_two (λ g. Shares 1 g × Shares 2 g)
  pub means_less : Means one (λ g. Unit {0}) → ⊥
  pub means_more : Means one (λ g. ⊥) → ⊥
  pub means_to_the_last : Means [] (λ g. g < 65535) → ⊥
  pub means_of_groups : Means [] (λ g. g < 65536)

pub record Parted : Type 0 where
  -- party 3 is worth 0008
  pub member : Member 3 8
  pub no_member_below : Member 2 8 → ⊥
  pub no_member_above : Member 4 8 → ⊥
  pub member_of_more : Member 1 7
  pub in_both : InBoth 12 10
  pub in_neither : InBoth 5 10 → ⊥
  pub last_party : InBoth 32768 32768
  pub no_later_party : InBoth 65536 65536 → ⊥
  -- a clause of any parties and a group share a party, by the bits or by number
  pub sharing : Sharing → Shares 65540 12 ↔ InBoth 65540 12
  pub sharing_to_the_last : Sharing → Shares 1 65535 ↔ InBoth 1 65535

pub record FoundLeast : Type 0 where
  -- 0006 contains 0002
  pub part : Part 2 6
  pub no_part : Part 6 2 → ⊥
  pub over : Over (8 ∷ 2 ∷ []) 6
  pub not_over : Over (8 ∷ 1 ∷ []) 6 → ⊥
  pub over_none : Over [] 0 → ⊥
  -- of 0006 and 0005, the least that does not contain 0002 is 0005, whatever follows
  pub least : Least (6 ∷ 5 ∷ 1 ∷ []) 2 two 5
  pub not_inside : Least (6 ∷ 5 ∷ 1 ∷ []) 2 two 1 → ⊥
  pub not_beside : Least (6 ∷ 5 ∷ 1 ∷ []) 1 two 6 → ⊥
  pub not_least : Least (5 ∷ 1 ∷ []) 2 [] 5 → ⊥
  pub found : Found (6 ∷ 5 ∷ 1 ∷ []) 2 two (Some 5)
  pub found_none : Found (6 ∷ 3 ∷ 1 ∷ []) 2 two None
  pub found_some : Found (6 ∷ 5 ∷ []) 2 two None → ⊥
  -- the lowest group of which something holds
  pub lowest : Lowest (λ g. 3 ≤ g) 3
  pub not_held : Lowest (λ g. 3 ≤ g) 2 → ⊥
  pub not_lowest : Lowest (λ g. 3 ≤ g) 4 → ⊥
  pub lowest_is_last : Lowest (λ g. 65535 ≤ g) 65535
  pub lowest_is_group : Lowest (λ g. 65536 ≤ g) 65536 → ⊥
  pub first : First (λ g. 3 ≤ g) (Some 3)
  pub not_first : First (λ g. 3 ≤ g) (Some 4) → ⊥
  pub first_of_none : First (λ g. 65536 ≤ g) None
  pub not_none : First (λ g. 65535 ≤ g) None → ⊥
  -- a group inside 0007 that meets 0001 and 0002
  pub fitting : Fitting 7 one two 3
  pub fits_not_first : Fitting 7 one two 2 → ⊥
  pub fits_not_second : Fitting 7 one two 1 → ⊥
  pub fits_not_inside : Fitting 3 one two 7 → ⊥
  -- a group that meets 0001 and 0002 and misses 0004
  pub missing : Missing four one two 3
  pub misses_none : Missing two one two 3 → ⊥
  pub missing_first : Missing four one two 2 → ⊥
  pub missing_second : Missing four one two 1 → ⊥

pub record Clauses : Type 0 where
  pub tested : Tested
  pub reducing : Reducing
  pub stated : Stated
  pub parted : Parted
  pub found_least : FoundLeast
