-- The rows hold, each by computing over all groups.
use Rattle.std.proofs.Common.{ℕ, [], get_or, refl}
use Rattle.answer.specs.Told.{granted}
use Rattle.clause.specs.Groups.{least}
use Rattle.cases.specs.Table.{reducing, Holds, rows, Worked}

abbrev HoldsAt : ℕ → Type 0
HoldsAt i = Holds (get_or rows i (reducing [] (granted [])))

row_0 : HoldsAt 0
unfolding least
row_0 = refl

row_1 : HoldsAt 1
unfolding least
row_1 = refl

row_2 : HoldsAt 2
unfolding least
row_2 = refl

row_3 : HoldsAt 3
unfolding least
row_3 = refl

row_4 : HoldsAt 4
unfolding least
row_4 = refl

row_5 : HoldsAt 5
unfolding least
row_5 = refl

row_6 : HoldsAt 6
unfolding least
row_6 = refl

row_7 : HoldsAt 7
unfolding least
row_7 = refl

row_8 : HoldsAt 8
unfolding least
row_8 = refl

row_9 : HoldsAt 9
unfolding least
row_9 = refl

row_10 : HoldsAt 10
unfolding least
row_10 = refl

row_11 : HoldsAt 11
unfolding least
row_11 = refl

row_12 : HoldsAt 12
unfolding least
row_12 = refl

row_13 : HoldsAt 13
unfolding least
row_13 = refl

row_14 : HoldsAt 14
unfolding least
row_14 = refl

row_15 : HoldsAt 15
unfolding least
row_15 = refl

row_16 : HoldsAt 16
unfolding least
row_16 = refl

row_17 : HoldsAt 17
unfolding least
row_17 = refl

row_18 : HoldsAt 18
unfolding least
row_18 = refl

row_19 : HoldsAt 19
unfolding least
row_19 = refl

row_20 : HoldsAt 20
unfolding least
row_20 = refl

pub worked : Worked
worked = (row_0, (row_1, (row_2, (row_3, (row_4, (row_5, (row_6, (row_7, (row_8, (row_9, (row_10, (row_11, (row_12, (row_13, (row_14, (row_15, (row_16, (row_17, (row_18, (row_19, (row_20, tt)))))))))))))))))))))
