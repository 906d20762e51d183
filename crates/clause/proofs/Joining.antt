use Rattle.std.proofs.Common.{◌≡◌, ℕ, ◌⊎◌, List, [], ◌∷◌, ◌++◌, map, sym, ap, ◌∙◌, inl, inr, append_assoc, append-nil}
use lib.Bits.{bit_and, bit_or, or_comm}
use Rattle.std.proofs.ByRecursion.{All-append}
use Rattle.std.proofs.lemmas.Bool.{cases_eq}
use Rattle.clause.specs.Meaning.{Shares, Meets, Means}
use Rattle.clause.specs.Unions.{unions}
use Rattle.clause.proofs.Bitsets.{wider, missed_or, or_holds}

pub meets_append : (xs ys : List ℕ) (g : ℕ) → Meets (xs ++ ys) g → Meets xs g × Meets ys g
meets_append [] ys g m = (tt, m)
meets_append (x ∷ xs) ys g m = let r = meets_append xs ys g m.1 in ((m.0, r.0), r.1)

pub means_append : (xs ys : List ℕ) → Means (xs ++ ys) (λ g. Meets xs g × Meets ys g)
means_append xs ys g h = (meets_append xs ys g, λ m. All-append (λ c. Shares c g) xs ys m.0 m.1)

-- a group meets a union when it meets one of the parts
shares_left : (x y g : ℕ) → Shares x g → Shares (bit_or x y) g
shares_left x y g s e = s (wider x (bit_or x y) g (or_holds x y) e)

shares_right : (x y g : ℕ) → Shares y g → Shares (bit_or x y) g
shares_right x y g s e = shares_left y x g s (ap (λ z. bit_and z g) (or_comm y x) ∙ e)

row_left : (x : ℕ) (ys : List ℕ) (g : ℕ) → Shares x g → Meets (map (bit_or x) ys) g
row_left x [] g s = tt
row_left x (y ∷ ys) g s = (shares_left x y g s, row_left x ys g s)

row_right : (x : ℕ) (ys : List ℕ) (g : ℕ) → Meets ys g → Meets (map (bit_or x) ys) g
row_right x [] g m = tt
row_right x (y ∷ ys) g m = (shares_right x y g m.0, row_right x ys g m.1)

row_from : (x : ℕ) (ys : List ℕ) (g : ℕ) → bit_and x g ≡ 0 → Meets (map (bit_or x) ys) g → Meets ys g
row_from x [] g e m = tt
row_from x (y ∷ ys) g e m = (λ z. m.0 (missed_or x y g e z), row_from x ys g e m.1)

unions_left : (xs ys : List ℕ) (g : ℕ) → Meets xs g → Meets (unions xs ys) g
unions_left [] ys g m = tt
unions_left (x ∷ xs) ys g m =
    All-append (λ c. Shares c g) (map (bit_or x) ys) (unions xs ys) (row_left x ys g m.0) (unions_left xs ys g m.1)

unions_right : (xs ys : List ℕ) (g : ℕ) → Meets ys g → Meets (unions xs ys) g
unions_right [] ys g m = tt
unions_right (x ∷ xs) ys g m =
    All-append (λ c. Shares c g) (map (bit_or x) ys) (unions xs ys) (row_right x ys g m) (unions_right xs ys g m)

unions_from : (xs ys : List ℕ) (g : ℕ) → Meets (unions xs ys) g → Meets xs g ⊎ Meets ys g
unions_from [] ys g m = inl tt
unions_from (x ∷ xs) ys g m =
    let r = meets_append (map (bit_or x) ys) (unions xs ys) g m in
    elim (cases_eq (bit_and x g) 0) [
      | inl e ↦ inr (row_from x ys g e r.0)
      | inr n ↦ elim (unions_from xs ys g r.1) [ inl a ↦ inl (n, a) | inr b ↦ inr b ]
    ]

pub means_unions : (xs ys : List ℕ) → Means (unions xs ys) (λ g. Meets xs g ⊎ Meets ys g)
means_unions xs ys g _ =
    (unions_from xs ys g, λ s. elim s [ inl a ↦ unions_left xs ys g a | inr b ↦ unions_right xs ys g b ])

-- a row more
pub unions_push : (xs : List ℕ) (x : ℕ) (ys : List ℕ) → unions (xs ++ x ∷ []) ys ≡ unions xs ys ++ map (bit_or x) ys
unions_push [] x ys = append-nil (map (bit_or x) ys)
unions_push (z ∷ xs) x ys = ap (λ l. map (bit_or z) ys ++ l) (unions_push xs x ys) ∙ sym (append_assoc (map (bit_or z) ys) (unions xs ys) (map (bit_or x) ys))

-- what means the same as a list that means P means P
pub means_through : (list xs : List ℕ) (P : ℕ → Type 0) → Means list P → Means xs (Meets list) → Means xs P
means_through list xs P a b g h = (λ m. (a g h).0 ((b g h).0 m), λ p. (b g h).1 ((a g h).1 p))

pub means_back : (list xs : List ℕ) (P : ℕ → Type 0) → Means list P → Means xs P → Means xs (Meets list)
means_back list xs P a b g h = (λ m. (a g h).1 ((b g h).0 m), λ p. (b g h).1 ((a g h).0 p))
