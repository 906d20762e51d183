-- What is closed to a group stays closed.
use Rattle.std.proofs.Common.{◌≡◌, ℕ, ◌<◌, Bool, true, false, not, ◌&&◌, List, [], ◌∷◌, ap, subst, inl, inr, arith}
use lib.Bits.{bit_and}
use Rattle.std.proofs.lemmas.Bool.{cases_eq, both_ways}
use Rattle.answer.specs.Told.{Told, granted}
use Rattle.clause.specs.Groups.{met}
use Rattle.formula.specs.Forms.{both}
use Rattle.label.specs.declared.kind.Kind.TheVariants.{Release, Endorse}
use Rattle.label.specs.Marks.{sight_touches}
use Rattle.label.specs.Labels.{Marks, sees}
use Rattle.rules.specs.State.{State, blank}
use Rattle.rules.specs.Runs.{Call, Enter, Open, Close, Take, Put, Drop, Show, Change, Twin, left, right, lefts, rights, run, answer, is_granted, label_at}
use Rattle.rules.specs.Tracking.{Touched, Settled, Touching, Answered, equal, shown, MarkTracks}
use Rattle.rules.specs.Promise.{ClosedTo, lets_in, NoneOf, Matches, equal as equally, apart, Secrecy}
use Rattle.rules.proofs.Embedding.{embed, embeds, left_embed, right_embed, lefts_embed, rights_embed, all_settled}
use Rattle.rules.proofs.Onlookers.{sight_carried, met_grows}

module _ (g : ℕ) (bound : g < 65536) where
  abbrev hidden : Touched
  hidden l = sight_touches l.sight (g, bound)

  into : (p : ℕ) (l : Marks) → ClosedTo g p l → Touching hidden p l
  into p l d = λ _. ap not d

  not_let : (a b c : Bool) → (a && (b && not c)) ≡ false → a ≡ true → not c ≡ true → not b ≡ false → ⊥
  not_let a b c h x y z = grind arith

  settled : (t u : State) (c : Call) → lets_in g t c ≡ false → Settled hidden t u c
  settled t u (Enter i p n l) h = tt
  settled t u (Open k p) h = tt
  settled t u (Close k) h = tt
  settled t u (Take k i m) h = tt
  settled t u (Put k i) h = tt
  settled t u (Drop k i) h = tt
  settled t u (Show i r) h = tt
  settled t u (Change Release k i f key) h =
      λ x y z. absurd (not_let (is_granted (answer t (Change Release k i f key))) (met f g) (sees (label_at t i) g) h x y z)
  settled t u (Change Endorse k i f key) h = λ x y z. absurd (both_ways (not (sees (label_at t i) g)) z y)

  matches : (c : Call) (x y : Told) → Answered hidden c x y → Matches g c x y
  matches _ _ _ (equal c x) = equally c x
  matches _ _ _ (shown i h a b l s e) =
      elim (cases_eq (bit_and h g) h) [
        | inl p ↦ subst (λ (n : ℕ). Matches g (Show i h) (granted (a ∷ [])) (granted (n ∷ []))) (e (ap not (met_grows l.sight h g bound p s))) (equally (Show i h) (granted (a ∷ [])))
        | inr n ↦ apart i h a b n
      ]

  answers : MarkTracks both sight_touches → (xs : List (Twin (ClosedTo g))) → NoneOf (lets_in g) blank (lefts xs)
      → (x : Twin (ClosedTo g)) → Matches g (left x) (answer (run blank (lefts xs)) (left x)) (answer (run blank (rights xs)) (right x))
  answers tracks xs quiet x =
      let told = (tracks (λ l. l.sight) sight_carried (g, bound) (embeds (ClosedTo g) hidden into xs) (all_settled (ClosedTo g) hidden into (lets_in g) settled xs blank blank quiet)).1 (embed (ClosedTo g) hidden into x) in
      simp (left_embed (ClosedTo g) hidden into x, right_embed (ClosedTo g) hidden into x, lefts_embed (ClosedTo g) hidden into xs, rights_embed (ClosedTo g) hidden into xs) at (matches _ _ _ told)

pub secrecy : MarkTracks both sight_touches → Secrecy
secrecy tracks g bound xs quiet x = answers g bound tracks xs quiet x
