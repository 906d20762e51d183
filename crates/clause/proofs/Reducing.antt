use Rattle.std.proofs.Common.{◌≡◌, ℕ, zero, suc, ◌+◌, ◌%◌, ◌<◌, ◌≤◌, ◌⊎◌, List, [], ◌∷◌, map, length, get_or, sym, ap, ◌∙◌, subst, inl, inr, arith, below_more}
use lib.ListN.{length-map}
use lib.Bits.{bit_and, and_comm, and_self, and_le_l, and_le_r, and_mod}
use Rattle.std.proofs.lemmas.Bool.{cases_eq}
use Rattle.clause.specs.Meaning.{Meets, Implies, Alike}
use Rattle.clause.specs.Parts.{Part, Over}
use Rattle.clause.proofs.Bitsets.{part_trans}
use Rattle.clause.proofs.Implying.{implied, refuted}
use Rattle.clause.proofs.Pigeons.{pigeons}

-- v holds n minimal clauses of the list, rising, and each clause of the list that contains none of them is larger
pub record Chosen (list : List ℕ) (v : ℕ → ℕ) (n : ℕ) : Type 0 where
  pub rising : (i j : ℕ) → i < j → j < n → v i < v j
  pub apart : (i j : ℕ) → i < j → j < n → bit_and (v i) (v j) < v i
  pub from : (i : ℕ) → i < n → (k : ℕ) × (k < length list) × (get_or list k 0 ≡ v i)
  pub minimal : (i : ℕ) → i < n → (k : ℕ) → k < length list → Part (get_or list k 0) (v i) → get_or list k 0 ≡ v i
  pub above : (k : ℕ) → k < length list → ((i : ℕ) → i < n → Part (v i) (get_or list k 0) → ⊥) → (i : ℕ) → i < n → v i < get_or list k 0

pub chosen_none : (list : List ℕ) (v : ℕ → ℕ) → Chosen list v 0
chosen_none list v = record { rising = λ i j l h. omega arith; apart = λ i j l h. omega arith; from = λ i h. absurd (omega arith); minimal = λ i h. absurd (omega arith); above = λ k l f i h. omega arith }

module _ (list : List ℕ) (v v' : ℕ → ℕ) (n c : ℕ) (old : (i : ℕ) → i < n → v' i ≡ v i) (at : v' n ≡ c) where
  pub chosen_more : Chosen list v n
      → (k : ℕ) → k < length list → get_or list k 0 ≡ c
      → ((i : ℕ) → i < n → Part (v i) c → ⊥)
      → ((k : ℕ) → k < length list → ((i : ℕ) → i < n → Part (v i) (get_or list k 0) → ⊥) → c ≤ get_or list k 0)
      → Chosen list v' (n + 1)
  chosen_more ch place inside is beside least =
      let below : (i : ℕ) → i < n → v i < c =
      λ i h. subst (λ x. v i < x) is (ch.above place inside (λ i h p. beside i h (subst (Part (v i)) is p)) i h) in
      let rising' : (j : ℕ) → j < n + 1 → (i : ℕ) → i < j → v' i < v' j =
      below_more (λ j. (i : ℕ) → i < j → v' i < v' j) n
      (λ j h i l. omega (arith, old i (omega arith), old j h, ch.rising i j l h))
      (λ i l. omega (arith, old i l, at, below i l)) in
      let apart' : (j : ℕ) → j < n + 1 → (i : ℕ) → i < j → bit_and (v' i) (v' j) < v' i =
      below_more (λ j. (i : ℕ) → i < j → bit_and (v' i) (v' j) < v' i) n
      (λ j h i l. let e = old i (omega arith) in let f = old j h in simp (e, f) (ch.apart i j l h))
      (λ i l. let e = old i l in simp (e, at) (omega (arith, and_le_l (v i) c, beside i l))) in
      let small : (k : ℕ) → k < length list → Part (get_or list k 0) c → get_or list k 0 ≡ c =
      λ k l p. omega (
        arith,
        subst (λ x. x ≤ c) p (and_le_r (get_or list k 0) c),
        least k l (λ i h q. beside i h (part_trans (v i) (get_or list k 0) c q p)),
      ) in
      record {
        rising = λ i j l h. rising' j h i l;
        apart = λ i j l h. apart' j h i l;
        from = below_more (λ i. (k : ℕ) × (k < length list) × (get_or list k 0 ≡ v' i)) n
            (λ i h. let w = ch.from i h in (w.0, w.1, w.2 ∙ sym (old i h))) (place, inside, is ∙ sym at);
        minimal = below_more (λ i. (k : ℕ) → k < length list → Part (get_or list k 0) (v' i) → get_or list k 0 ≡ v' i) n
            (λ i h k l p. ch.minimal i h k l (subst (Part (get_or list k 0)) (old i h) p) ∙ sym (old i h))
            (λ k l p. small k l (subst (Part (get_or list k 0)) at p) ∙ sym at);
        above = λ k l none.
            let none' : (i : ℕ) → i < n → Part (v i) (get_or list k 0) → ⊥ =
            λ i h p. none i (omega arith) (subst (λ x. Part x (get_or list k 0)) (sym (old i h)) p) in
            let ne : c ≡ get_or list k 0 → ⊥ =
            λ e. none n (omega arith) (subst (λ x. Part x (get_or list k 0)) (sym at) (ap (λ x. bit_and x (get_or list k 0)) e ∙ and_self (get_or list k 0) ∙ sym e)) in
            below_more (λ i. v' i < get_or list k 0) n
            (λ i h. omega (arith, old i h, ch.above k l none' i h))
            (omega (arith, at, ne, least k l none'));
      }

-- a clause contains one of the list, or none
pub over_cases : (xs : List ℕ) (d : ℕ) → Over xs d ⊎ ((k : ℕ) → k < length xs → Part (get_or xs k 0) d → ⊥)
over_cases [] d = inr (λ k l. absurd (omega arith))
over_cases (x ∷ xs) d =
    elim (cases_eq (bit_and x d) x) [
      | inl p ↦ inl (0, omega arith, p)
      | inr n ↦ elim (over_cases xs d) [
        | inl w ↦ inl (suc w.0, omega arith, w.2)
        | inr f ↦ inr (go x xs d n f)
      ]
    ]
  where
    go : (x : ℕ) (xs : List ℕ) (d : ℕ) → (Part x d → ⊥) → ((k : ℕ) → k < length xs → Part (get_or xs k 0) d → ⊥) → (k : ℕ) → k < length (x ∷ xs) → Part (get_or (x ∷ xs) k 0) d → ⊥
    go x xs d n f zero l = n
    go x xs d n f (suc k) l = f k (omega arith)

-- where one formula implies another, each clause of the second contains one of the first
pub over_from : (xs ys : List ℕ) → ((k : ℕ) → get_or xs k 0 < 65536) → ((k : ℕ) → get_or ys k 0 < 65536) → Implies xs ys → (j : ℕ) → j < length ys → Over xs (get_or ys j 0)
over_from xs ys fx fy imp j l =
    elim (over_cases xs (get_or ys j 0)) [
      | inl w ↦ w
      | inr f ↦ absurd (refuted xs ys j l (fy j) (λ k h. (fx k, f k h)) imp)
    ]

pub part_antisym : (a b : ℕ) → Part a b → Part b a → a ≡ b
part_antisym a b p q = sym p ∙ and_comm a b ∙ q

-- a formula that means the same has each minimal clause
pub has_minimal : (list ys : List ℕ) → ((k : ℕ) → get_or list k 0 < 65536) → ((k : ℕ) → get_or ys k 0 < 65536) → (v : ℕ → ℕ) (n : ℕ) → Chosen list v n → Alike list ys → (i : ℕ) → i < n → (j : ℕ) × (j < length ys) × (get_or ys j 0 ≡ v i)
has_minimal list ys fl fy v n ch same i h =
    let w = ch.from i h in
    let o : Over ys (v i) = subst (Over ys) w.2 (over_from ys list fy fl same.1 w.0 w.1) in
    let y : ℕ = get_or ys o.0 0 in
    let u = over_from list ys fl fy same.0 o.0 o.1 in
    let x : ℕ = get_or list u.0 0 in
    let e : x ≡ v i = ch.minimal i h u.0 u.1 (part_trans x y (v i) u.2 o.2) in
    (o.0, o.1, part_antisym y (v i) o.2 (subst (λ z. Part z y) e u.2))

-- so no shorter list of clauses means the same
pub no_room : (list ys : List ℕ) → ((k : ℕ) → get_or list k 0 < 65536) → ((k : ℕ) → get_or ys k 0 < 65536) → (v : ℕ → ℕ) (n : ℕ) → Chosen list v n → length ys < n → Alike list ys → ⊥
no_room list ys fl fy v n ch short same =
    let held : (i : ℕ) → i ≤ length ys → (j : ℕ) × (j < length ys) × (get_or ys j 0 ≡ v i) =
    λ i h. has_minimal list ys fl fy v n ch same i (omega arith) in
    pigeons (length ys) (λ i h. (held i h).0) (λ i h. (held i h).1)
    (λ i j h k l e.
    let q : v i ≡ v j = sym (held i h).2 ∙ ap (λ z. get_or ys z 0) e ∙ (held j k).2 in
    omega (arith, ch.rising i j l (omega arith)))

-- a group sees sixteen bits of a clause
pub low_bits : (y g : ℕ) → g < 65536 → bit_and (y % 65536) g ≡ bit_and y g
low_bits y g h =
    let a : bit_and y g % 65536 ≡ bit_and (y % 65536) (g % 65536) = and_mod y g 16 in
    let b : g % 65536 ≡ g = omega arith in
    sym (ap (bit_and (y % 65536)) b) ∙ sym a ∙ omega (arith, and_le_r y g)

lowered : List ℕ → List ℕ
lowered = map (λ y. y % 65536)

meets_lowered : (ys : List ℕ) (g : ℕ) → g < 65536 → (Meets ys g → Meets (lowered ys) g) × (Meets (lowered ys) g → Meets ys g)
unfolding lowered
meets_lowered [] g h = (λ m. m, λ m. m)
meets_lowered (y ∷ ys) g h =
    let r = meets_lowered ys g h in
    let e = low_bits y g h in
    (λ m. (λ z. m.0 (sym e ∙ z), r.0 m.1), λ m. (λ z. m.0 (e ∙ z), r.1 m.1))

lowered_fits : (ys : List ℕ) (k : ℕ) → get_or (lowered ys) k 0 < 65536
unfolding lowered
lowered_fits [] k = omega arith
lowered_fits (y ∷ ys) zero = omega arith
lowered_fits (y ∷ ys) (suc k) = lowered_fits ys k

lowered_length : (ys : List ℕ) → length (lowered ys) ≡ length ys
unfolding lowered
lowered_length ys = length-map ys (λ y. y % 65536)

pub none_shorter : (list ys : List ℕ) → ((k : ℕ) → get_or list k 0 < 65536) → (v : ℕ → ℕ) (n : ℕ) → Chosen list v n → length ys < n → Alike list ys → ⊥
none_shorter list ys fl v n ch short same =
    no_room list (lowered ys) fl (lowered_fits ys) v n ch (omega (arith, lowered_length ys))
    ((λ g h m. (meets_lowered ys g h).0 (same.0 g h m)), (λ g h m. same.1 g h ((meets_lowered ys g h).1 m)))

-- the chosen mean the same as the list once no clause is left
pub chosen_alike : (list xs : List ℕ) (v : ℕ → ℕ) (n : ℕ) → length xs ≡ n → ((i : ℕ) → i < n → get_or xs i 0 ≡ v i) → Chosen list v n → ((k : ℕ) → k < length list → Over xs (get_or list k 0)) → Alike list xs
chosen_alike list xs v n len is ch over = (
  implied list xs (λ j l.
      let w = ch.from j (omega arith) in
      let e : get_or xs j 0 ≡ get_or list w.0 0 = is j (omega arith) ∙ sym w.2 in
      (w.0, w.1, ap (bit_and (get_or list w.0 0)) e ∙ and_self (get_or list w.0 0))),
  implied xs list (λ j l.
      over j l),
)
