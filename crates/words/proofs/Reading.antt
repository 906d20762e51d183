-- Reading the clauses of a word, part after part.
use Rattle.std.proofs.Common.{◌≡◌, ℕ, ◌<◌, ◌&&◌, true, false, List, [], ◌∷◌, ◌++◌, length, Some, None, Ok, Err, Option, Result, sym, refl, ap, ◌∙◌, subst, arith, length-append}
use Rattle.std.specs.Option.{IsSome, is_some}
use Rattle.std.specs.Iterator.{AlwaysYields}
use Rattle.std.specs.Result.{is_ok, OnOk, OnErr}
use Rattle.std.specs.List.{list_all}
use Rattle.std.proofs.lemmas.List.{append_assoc, append-nil}
use Rattle.std.proofs.lemmas.Iterator.{YieldsList}
use Rattle.std.proofs.lemmas.Bool.{cond-false, lt-leb}
use Rattle.answer.specs.Told.{refused}
use Rattle.formula.specs.Forms.{reduces}
use Rattle.words.specs.Hex.{hex_four}
use Rattle.words.specs.Clauses.{hex_all, cons_some, or_none}

is_some_cons : (x : Option ℕ) (o : Option (List ℕ)) → is_some (cons_some x o) ≡ (is_some x && is_some o)
is_some_cons None o = refl
is_some_cons (Some c) None = refl
is_some_cons (Some c) (Some cs) = refl

-- each part is a clause where all are
pub all_clauses : (ws : List (List ℕ)) → list_all (λ w. is_some (hex_four w)) ws ≡ is_some (hex_all ws)
all_clauses [] = refl
all_clauses (w ∷ ws) = rw (all_clauses ws, is_some_cons) refl

-- what was read, and what the rest writes
abbrev pub after : List ℕ → Option (List ℕ) → Option (List ℕ)
after done None = None
after done (Some cs) = Some (done ++ cs)

-- the clauses of a lawful word: those that were read, and those of the parts that are left
pub record Reads (list : List ℕ) (rest : List (List ℕ)) (all : Option (List ℕ)) : Type 0 where
  pub same : after list (hex_all rest) ≡ all
  pub lawful : IsSome all

-- nothing is read yet
pub reads_none : (ws : List (List ℕ)) → IsSome (hex_all ws) → Reads [] ws (hex_all ws)
reads_none ws l = record { same = go (hex_all ws); lawful = l }
  where
    go : (o : Option (List ℕ)) → after [] o ≡ o
    go None = refl
    go (Some cs) = refl

reads_some : {list : List ℕ} {w : List ℕ} {ws : List (List ℕ)} {all : Option (List ℕ)} → Reads list (w ∷ ws) all → IsSome (hex_four w)
reads_some {list} {w} {ws} {all} r = go (hex_four w) refl
  where
    go : (x : Option ℕ) → hex_four w ≡ x → IsSome x
    go (Some c) e = refl
    go None e = let p : after list (cons_some None (hex_all ws)) ≡ all = sym (ap (λ (y : Option ℕ). after list (cons_some y (hex_all ws))) e) ∙ r.same in absurd (let q = r.lawful in cc)

after_step : (done : List ℕ) (c : ℕ) (o : Option (List ℕ)) → after done (cons_some (Some c) o) ≡ after (done ++ (c ∷ [])) o
after_step done c None = refl
after_step done c (Some cs) = ap (λ (x : List ℕ). Some x) (sym (append_assoc done (c ∷ []) cs))

reads_more : {list : List ℕ} {w : List ℕ} {ws : List (List ℕ)} {all : Option (List ℕ)} (c : ℕ) → hex_four w ≡ Some c → Reads list (w ∷ ws) all → Reads (list ++ c ∷ []) ws all
reads_more {list} {w} {ws} c e r =
    record {
      same = sym (after_step list c (hex_all ws)) ∙ (ap (λ (x : Option ℕ). after list (cons_some x (hex_all ws))) (sym e) ∙ r.same);
      lawful = r.lawful;
    }

reads_done : {list : List ℕ} {all : Option (List ℕ)} → Reads list [] all → reduces list ≡ reduces (or_none all)
reads_done {list} r = ap (λ (cs : List ℕ). reduces cs) (sym (append-nil list)) ∙ ap (λ (o : Option (List ℕ)). reduces (or_none o)) r.same

long : (list : List ℕ) → 64 < length list → refused 1 [] ≡ reduces list
long list h = sym (cond-false _ _ _ (lt-leb (length list) 64 h))

-- a 65th clause is one too many
pub reads_long : {list : List ℕ} {ws : List (List ℕ)} {all : Option (List ℕ)} → length list ≡ 65 → Reads list ws all → refused 1 [] ≡ reduces (or_none all)
reads_long {list} {ws} {all} l r = go (hex_all ws) refl
  where
    go : (x : Option (List ℕ)) → hex_all ws ≡ x → refused 1 [] ≡ reduces (or_none all)
    go None e = let p : after list None ≡ all = sym (ap (after list) e) ∙ r.same in absurd (let q = r.lawful in cc)
    go (Some cs) e =
        long (list ++ cs) (omega (arith, length-append list cs, l)) ∙ ap (λ (o : Option (List ℕ)). reduces (or_none o)) (sym (ap (after list) e) ∙ r.same)

module _ {S A : Type 0} {steps : S → Option A → S → Type 0} {v : A → List ℕ} {s t : S} {rest : List (List ℕ)} {list : List ℕ} {all : Option (List ℕ)} (y : YieldsList steps v s rest) (r : Reads list rest all) where
  -- no part is left
  pub all_read : steps s None t → reduces list ≡ reduces (or_none all)
  all_read h = go rest y.runs r
    where
      go : (ws : List (List ℕ)) → AlwaysYields steps v s ws → Reads list ws all → reduces list ≡ reduces (or_none all)
      go [] a q = reads_done q
      go (w ∷ ws) a q = absurd (a.0 t h)

  next_part : {x : A} → steps s (Some x) t → (ws : List (List ℕ)) × YieldsList steps v t ws × Reads list (v x ∷ ws) all
  next_part {x} h = go rest y.runs r
    where
      go : (ws : List (List ℕ)) → AlwaysYields steps v s ws → Reads list ws all → (us : List (List ℕ)) × YieldsList steps v t us × Reads list (v x ∷ us) all
      go [] a q = absurd (a x t h)
      go (w ∷ ws) a q = (ws, record { runs = (a.1 x t h).1 }, subst (λ (u : List ℕ). Reads list (u ∷ ws) all) (sym (a.1 x t h).0) q)

  -- the next part is a clause, and is read
  pub part_some : {x : A} → steps s (Some x) t → IsSome (hex_four (v x))
  part_some h = reads_some (next_part h).2

  pub part_more : {x : A} (c : ℕ) → hex_four (v x) ≡ Some c → steps s (Some x) t → (ws : List (List ℕ)) × YieldsList steps v t ws × Reads (list ++ c ∷ []) ws all
  part_more c e h = let n = next_part h in (n.0, n.1, reads_more c e n.2)

pub on_ok : {T E P : Type 0} (r : Result T E) → true ≡ is_ok r → OnOk r P → P
on_ok (Ok x) e p = p
on_ok (Err q) e p = absurd (let h = e in cc)

pub on_err : {T E P : Type 0} (r : Result T E) → false ≡ is_ok r → OnErr r P → P
on_err (Ok x) e p = absurd (let h = e in cc)
on_err (Err q) e p = p
