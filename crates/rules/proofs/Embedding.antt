-- Two runs that are named by a property of their enters are two runs whose enters touch an onlooker.
use Rattle.std.proofs.Common.{◌≡◌, ℕ, Bool, false, List, [], ◌∷◌, refl}
use Rattle.label.specs.Labels.{Marks}
use Rattle.rules.specs.State.{State}
use Rattle.rules.specs.Runs.{Call, Enter, Twin, same, figures, left, right, lefts, rights, after}
use Rattle.rules.specs.Tracking.{Touched, Settled, Touching, AllSettled}
use Rattle.rules.specs.Promise.{NoneOf}

module _ (named : ℕ → Marks → Type 0) (touched : Touched) (into : (p : ℕ) (l : Marks) → named p l → Touching touched p l) where
  pub embed : Twin named → Twin (Touching touched)
  embed (same c) = same c
  embed (figures i p n n' l d a b) = figures i p n n' l (into p l d) a b

  pub embeds : List (Twin named) → List (Twin (Touching touched))
  embeds [] = []
  embeds (x ∷ xs) = embed x ∷ embeds xs

  pub left_embed : (x : Twin named) → left (embed x) ≡ left x
  unfolding embed
  left_embed (same c) = refl
  left_embed (figures i p n n' l d a b) = refl

  pub right_embed : (x : Twin named) → right (embed x) ≡ right x
  unfolding embed
  right_embed (same c) = refl
  right_embed (figures i p n n' l d a b) = refl

  pub lefts_embed : (xs : List (Twin named)) → lefts (embeds xs) ≡ lefts xs
  unfolding embeds
  lefts_embed [] = refl
  lefts_embed (x ∷ xs) = let p = left_embed x in let q = lefts_embed xs in cc

  pub rights_embed : (xs : List (Twin named)) → rights (embeds xs) ≡ rights xs
  unfolding embeds
  rights_embed [] = refl
  rights_embed (x ∷ xs) = let p = right_embed x in let q = rights_embed xs in cc

  -- where each call that does not pass the test is settled, a run of none that does is settled
  pub all_settled : (test : State → Call → Bool) → ((t u : State) (c : Call) → test t c ≡ false → Settled touched t u c)
      → (xs : List (Twin named)) (t u : State) → NoneOf test t (lefts xs) → AllSettled touched t u (embeds xs)
  unfolding embed embeds
  all_settled test settled [] t u h = tt
  all_settled test settled (same c ∷ xs) t u h = (settled t u c h.0, all_settled test settled xs (after t c) (after u c) h.1)
  all_settled test settled (figures i p n n' l d a b ∷ xs) t u h = (tt, all_settled test settled xs (after t (Enter i p n l)) (after u (Enter i p n' l)) h.1)
