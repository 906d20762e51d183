-- What a group's members enter moves no record without its hand, and no robust release that lets it in.
use Rattle.std.proofs.Common.{◌≡◌, ℕ, zero, suc, ◌<◌, Bool, true, false, not, ◌&&◌, List, [], ◌∷◌, get_or, set, Ok, Err, sym, refl, ap, ◌∙◌, subst, inl, true≢false, arith}
use Rattle.std.proofs.lemmas.Bool.{both_ways, and_parts, not-true}
use Rattle.answer.specs.declared.Refusal.TheVariants.{Denied}
use Rattle.answer.specs.Told.{granted}
use Rattle.answer.proofs.Telling.{refuses}
use Rattle.clause.specs.Groups.{met}
use Rattle.clause.proofs.Tests.{met_decides, not_true as not_yes}
use Rattle.formula.specs.Party.{alone}
use Rattle.formula.specs.Forms.{either}
use Rattle.label.specs.declared.kind.Kind.{Kind}
use Rattle.label.specs.declared.kind.Kind.TheVariants.{Release, Endorse}
use Rattle.label.specs.Marks.{hand_touches}
use Rattle.label.specs.Labels.{Marks, sees, handed, relabelled}
use Rattle.key.specs.Meanings.{Meaning, Verdict, grant}
use Rattle.key.specs.Laws.{ReleasesRobustly}
use Rattle.key.proofs.Granting.{over_robust_law}
use Rattle.rules.specs.State.{State, Place, vacant, holds, record_at, task_at, with_record, blank}
use Rattle.rules.specs.Step.{Ruled, asks, on_held, is_task, is_record, by_key, done, request_for}
use Rattle.rules.specs.Runs.{Call, Enter, Open, Close, Take, Put, Drop, Show, Change, Twin, lefts, rights, run, after, answer, is_granted, label_of, figure_of, label_at}
use Rattle.rules.specs.Tracking.{Touched, Alike, empty, filled, Agree, Settled, Touching, MarkTracks}
use Rattle.rules.specs.Laws.{is_held}
use Rattle.rules.specs.Promise.{EnteredBy, lets_in, takes_off, NoneOf, ShowsOne, Influence}
use Rattle.rules.proofs.Embedding.{embeds, lefts_embed, rights_embed, all_settled}
use Rattle.rules.proofs.Onlookers.{hand_carried, met_grows}

module _ (g : ℕ) (bound : g < 65536) where
  abbrev moved : Touched
  moved l = hand_touches l.hand (g, bound)

  into : (p : ℕ) (l : Marks) → EnteredBy g p l → Touching moved p l
  into p l d = met_grows l.hand (alone p) g bound d

  not_off : (a b c : Bool) → (a && (b && not c)) ≡ false → a ≡ true → b ≡ true → c ≡ false → ⊥
  not_off a b c h x y z = grind arith

  settled : (t u : State) (c : Call) → takes_off g t c ≡ false → Settled moved t u c
  settled t u (Enter i p n l) h = tt
  settled t u (Open k p) h = tt
  settled t u (Close k) h = tt
  settled t u (Take k i m) h = tt
  settled t u (Put k i) h = tt
  settled t u (Drop k i) h = tt
  settled t u (Show i r) h = tt
  settled t u (Change Endorse k i f key) h =
      λ x y z. absurd (not_off (is_granted (answer t (Change Endorse k i f key))) (handed (label_at t i) g) (met f g) h x y z)
  settled t u (Change Release k i f key) h = λ x y z. absurd (both_ways (handed (label_at t i) g) z y)

  agrees : MarkTracks either hand_touches → (xs : List (Twin (EnteredBy g))) → NoneOf (takes_off g) blank (lefts xs) → Agree moved (run blank (lefts xs)) (run blank (rights xs))
  agrees tracks xs steady =
      simp (lefts_embed (EnteredBy g) moved into xs, rights_embed (EnteredBy g) moved into xs) at
      (tracks (λ l. l.hand) hand_carried (g, bound) (embeds (EnteredBy g) moved into xs) (all_settled (EnteredBy g) moved into (takes_off g) settled xs blank blank steady)).0

-- what a granted release or endorsement found
record Passed (kind : Kind) (t : State) (k i : ℕ) (f : List ℕ) (key : Meaning) : Type 0 where
  numbers : (is_task k && is_record i) ≡ true
  a : ℕ
  l : Marks
  n : ℕ
  h : Marks
  task_is : task_at t k ≡ holds a l
  record_is : record_at t i ≡ holds n h
  grants : key (request_for kind h f l) ≡ grant

passed : (kind : Kind) (t : State) (k i : ℕ) (f : List ℕ) (key : Meaning) → is_granted (answer t (Change kind k i f key)) ≡ true → Passed kind t k i f key
passed kind t k i f key e = by (is_task k && is_record i) (task_at t k) (record_at t i) refl refl refl e
  where
    say : (a : ℕ) (l : Marks) (n : ℕ) (h : Marks) (v : Verdict) → (is_task k && is_record i) ≡ true → task_at t k ≡ holds a l → record_at t i ≡ holds n h → key (request_for kind h f l) ≡ v
        → is_granted (by_key t v (done (with_record t i (holds n (relabelled kind h f))))).answer ≡ true → Passed kind t k i f key
    say a l n h (Ok _) b s r g e = record { numbers = b; a = a; l = l; n = n; h = h; task_is = s; record_is = r; grants = g }
    say a l n h (Err d) b s r g e = absurd (both_ways _ (refuses (Denied d)) e)

    by : (b : Bool) (s r : Place) → (is_task k && is_record i) ≡ b → task_at t k ≡ s → record_at t i ≡ r
        → is_granted (asks t 3 b (on_held t 5 s (λ a l. on_held t 6 r (λ n m. by_key t (key (request_for kind m f l)) (done (with_record t i (holds n (relabelled kind m f)))))))).answer ≡ true → Passed kind t k i f key
    by false s r x y z e = absurd (true≢false (sym e))
    by true vacant r x y z e = absurd (true≢false (sym e))
    by true (holds a l) vacant x y z e = absurd (true≢false (sym e))
    by true (holds a l) (holds n h) x y z e = say a l n h (key (request_for kind h f l)) x y z refl e

changed : (kind : Kind) (t : State) (k i : ℕ) (f : List ℕ) (key : Meaning) (a : ℕ) (l : Marks) (n : ℕ) (h : Marks) → (is_task k && is_record i) ≡ true → task_at t k ≡ holds a l → record_at t i ≡ holds n h → key (request_for kind h f l) ≡ grant
    → after t (Change kind k i f key) ≡ with_record t i (holds n (relabelled kind h f))
changed kind t k i f key a l n h b s r g =
    let next : ℕ → Marks → ℕ → Marks → Ruled = λ a l n m. by_key t (key (request_for kind m f l)) (done (with_record t i (holds n (relabelled kind m f)))) in
    ap (λ (x : Bool). (asks t 3 x (on_held t 5 (task_at t k) (λ a l. on_held t 6 (record_at t i) (next a l)))).state) b
    ∙ ap (λ (x : Place). (on_held t 5 x (λ a l. on_held t 6 (record_at t i) (next a l))).state) s
    ∙ ap (λ (x : Place). (on_held t 6 x (next a l)).state) r
    ∙ ap (λ (v : Verdict). (by_key t v (done (with_record t i (holds n (relabelled kind h f))))).state) g

-- the other run's place
partner : {touched : Touched} (r r' : Place) (n : ℕ) (h : Marks) → Alike touched r r' → r ≡ holds n h → (n' : ℕ) × (r' ≡ holds n' h) × (touched h ≡ false → n ≡ n')
partner {touched} _ _ n h empty e = absurd (true≢false (sym (ap is_held e)))
partner {touched} _ _ n h (filled l a b q) e =
    let same-label : l ≡ h = ap label_of e in
    let same-figure : a ≡ n = ap figure_of e in
    (b, ap (λ (x : Marks). holds b x) same-label, λ c. sym same-figure ∙ q (subst (λ (x : Marks). touched x ≡ false) (sym same-label) c))

set_held : (xs : List Place) (i : ℕ) (y : Place) (n : ℕ) (h : Marks) → get_or xs i vacant ≡ holds n h → get_or (set xs i y) i vacant ≡ y
set_held [] i y n h e = absurd (true≢false (sym (ap is_held e)))
set_held (x ∷ xs) zero y n h e = refl
set_held (x ∷ xs) (suc i) y n h e = set_held xs i y n h e

show_held : (t : State) (i g n : ℕ) (l : Marks) → is_record i ≡ true → record_at t i ≡ holds n l → sees l g ≡ true → answer t (Show i g) ≡ granted (n ∷ [])
show_held t i g n l b r s =
    let next : ℕ → Marks → Ruled = λ n l. asks t 11 (sees l g) (record { state = t; answer = granted (n ∷ []) }) in
    ap (λ (x : Bool). (asks t 3 x (on_held t 6 (record_at t i) next)).answer) b
    ∙ ap (λ (x : Place). (on_held t 6 x next).answer) r
    ∙ ap (λ (x : Bool). (asks t 11 x (record { state = t; answer = granted (n ∷ []) })).answer) s

shows_after : (kind : Kind) (t : State) (k i g : ℕ) (f : List ℕ) (key : Meaning) (a : ℕ) (l : Marks) (n : ℕ) (h : Marks) → (is_task k && is_record i) ≡ true → task_at t k ≡ holds a l → record_at t i ≡ holds n h → key (request_for kind h f l) ≡ grant
    → sees (relabelled kind h f) g ≡ true → answer (after t (Change kind k i f key)) (Show i g) ≡ granted (n ∷ [])
shows_after kind t k i g f key a l n h b s r q e =
    let c = changed kind t k i f key a l n h b s r q in
    show_held (after t (Change kind k i f key)) i g n (relabelled kind h f) (and_parts (is_task k) (is_record i) b).1
    (ap (λ (x : State). record_at x i) c ∙ set_held t.records i (holds n (relabelled kind h f)) n h r) e

robustly : (g : ℕ) → (bound : g < 65536) → (t u : State) → Agree (moved g bound) t u → (k i : ℕ) (f : List ℕ) (key : Meaning) → ReleasesRobustly key
    → lets_in g t (Change Release k i f key) ≡ true → ShowsOne g i t u (Change Release k i f key)
robustly g b t u w k i f key law lets =
    let parts = and_parts (is_granted (answer t (Change Release k i f key))) (met f g && not (sees (label_at t i) g)) lets in
    let p = passed Release t k i f key parts.0 in
    let gain : (met f g && not (sees p.h g)) ≡ true = subst (λ (x : Place). (met f g && not (sees (label_of x) g)) ≡ true) p.record_is parts.1 in
    let both = and_parts (met f g) (not (sees p.h g)) gain in
    let off : handed p.h g ≡ false =
    not_yes (handed p.h g)
    (λ e. law (request_for Release p.h f p.l) refl p.grants g b
    (((met_decides f g).0 both.0, λ m. both_ways (sees p.h g) (not-true (sees p.h g) both.1) ((met_decides p.h.sight g).1 m)), inl ((met_decides p.h.hand g).0 e))) in
    let q = partner _ _ p.n p.h (w.records i) p.record_is in
    let s = partner _ _ p.a p.l (w.tasks k) p.task_is in
    let one : p.n ≡ q.0 = q.2 off in (
      p.n,
      shows_after Release t k i g f key p.a p.l p.n p.h p.numbers p.task_is p.record_is p.grants both.0,
      shows_after Release u k i g f key s.0 p.l q.0 p.h p.numbers s.1 q.1 p.grants both.0 ∙ ap (λ (n : ℕ). granted (n ∷ [])) (sym one),
    )

pub influence : MarkTracks either hand_touches → Influence
influence tracks g bound xs steady =
    let w = agrees g bound tracks xs steady in
    record {
      unmoved = w.records;
      robust = λ k i f key over lets. robustly g bound (run blank (lefts xs)) (run blank (rights xs)) w k i f key (over_robust_law key over) lets;
    }
