-- What every call does and does not do.
use Rattle.std.proofs.Common.{◌≡◌, ℕ, zero, suc, Bool, true, false, ◌&&◌, ◌⊎◌, List, [], ◌∷◌, get_or, set, Ok, Err, sym, refl, subst, inl, inr, true≢false}
use Rattle.std.proofs.lemmas.List.{get_or-set_other}
use Rattle.answer.specs.declared.Refusal.TheVariants.{Denied}
use Rattle.answer.specs.declared.Answer.TheVariants.{Refused}
use Rattle.answer.specs.Told.{Told, granted, refused, told}
use Rattle.answer.proofs.Telling.{refuses}
use Rattle.formula.specs.Party.{alone}
use Rattle.label.specs.declared.kind.Kind.{Kind}
use Rattle.label.specs.Labels.{Marks, sees, handed, flows, join, joinable, relabelled}
use Rattle.key.specs.Meanings.{Meaning, Verdict}
use Rattle.rules.specs.State.{State, Place, vacant, holds, record_at, task_at, with_record, with_task, is_figure}
use Rattle.rules.specs.Step.{Ruled, done, asks, on_vacant, on_held, on_both, is_record, is_task, is_party, is_manner, worked, opener, entering, opening, closing, taking, putting, dropping, showing, request_for, by_key, changing}
use Rattle.rules.specs.Runs.{Call, Enter, Open, Close, Take, Put, Drop, Show, Change, step, after, answer, is_granted}
use Rattle.rules.specs.Tracking.{Alike, empty, filled, Agree}
use Rattle.rules.proofs.Low.{figures_only}
use Rattle.rules.specs.Laws.{AltersOne, is_held, NoneGoes, NoneComes, LabelsBy, StepLaws}

-- what holds of a refused call, and of what a call goes on to, holds of the call
module _ (t : State) (P : Ruled → Type 0) (no' : (x : Told) → is_granted x ≡ false → P (record { state = t; answer = x })) where
  by_asks : (q : ℕ) (b : Bool) (x : Ruled) → P x → P (asks t q b x)
  by_asks q true x h = h
  by_asks q false x h = no' (refused q []) refl

  by_vacant : (q : ℕ) (s : Place) (x : Ruled) → (s ≡ vacant → P x) → P (on_vacant t q s x)
  by_vacant q vacant x h = h refl
  by_vacant q (holds n l) x h = no' (refused q []) refl

  by_held : (q : ℕ) (s : Place) (f : ℕ → Marks → Ruled) → ((n : ℕ) (l : Marks) → s ≡ holds n l → P (f n l)) → P (on_held t q s f)
  by_held q vacant f h = no' (refused q []) refl
  by_held q (holds n l) f h = h n l refl

  by_both : (k i : ℕ) (f : ℕ → Marks → ℕ → Marks → Ruled) → ((a : ℕ) (l : Marks) → task_at t k ≡ holds a l → (n : ℕ) (r : Marks) → record_at t i ≡ holds n r → P (f a l n r)) → P (on_both t k i f)
  by_both k i f h =
      by_asks 3 (is_task k && is_record i) _
      (by_held 5 (task_at t k) _ (λ a l e. by_held 6 (record_at t i) _ (λ n r e'. h a l e n r e')))

  by_verdict : (v : Verdict) (x : Ruled) → P x → P (by_key t v x)
  by_verdict (Ok _) x h = h
  by_verdict (Err d) x h = no' (told (Refused (Denied d))) (refuses (Denied d))

  -- the calls, by what they do to one place
  enters : (i p n : ℕ) (l : Marks) → (record_at t i ≡ vacant → P (done (with_record t i (holds n l)))) → P (entering t i p n l)
  enters i p n l h =
      by_asks 3 (is_record i && is_party p) _ (by_asks 4 (is_figure n) _ (by_vacant 6 (record_at t i) _ (λ e. by_asks 8 (handed l (alone p)) _ (h e))))

  opens : (k p : ℕ) → P (done (with_task t k (holds 0 (opener p)))) → P (opening t k p)
  opens k p h = by_asks 3 (is_task k && is_party p) _ (by_vacant 5 (task_at t k) _ (λ _. h))

  closes : (k : ℕ) → P (done (with_task t k vacant)) → P (closing t k)
  closes k h = by_asks 3 (is_task k) _ (by_held 5 (task_at t k) _ (λ a l e. h))

  takes : (k i m : ℕ) → ((n : ℕ) (l : Marks) → P (done (with_task t k (holds n l)))) → P (taking t k i m)
  takes k i m h =
      by_both k i _ (λ a l e n r e'. by_asks 7 (is_manner m) _ (by_asks 10 (joinable l r) _ (h (worked m a n) (join l r))))

  puts : (k i : ℕ) → ((a n : ℕ) (r : Marks) → record_at t i ≡ holds n r → P (done (with_record t i (holds a r)))) → P (putting t k i)
  puts k i h = by_both k i _ (λ a l e n r e'. by_asks 9 (flows l r) _ (h a n r e'))

  drops : (k i : ℕ) → P (done (with_record t i vacant)) → P (dropping t k i)
  drops k i h = by_both k i _ (λ a l e n r e'. by_asks 9 (flows l r) _ h)

  shows : (i g : ℕ) → ((n : ℕ) → P (record { state = t; answer = granted (n ∷ []) })) → P (showing t i g)
  shows i g h = by_asks 3 (is_record i) _ (by_held 6 (record_at t i) _ (λ n l e. by_asks 11 (sees l g) _ (h n)))

  changes : (kind : Kind) (k i : ℕ) (f : List ℕ) (key : Meaning) → ((n : ℕ) (l : Marks) → P (done (with_record t i (holds n l)))) → P (changing kind t k i f key)
  changes kind k i f key h =
      by_both k i _ (λ a l e n r e'. by_verdict (key (request_for kind r f l)) _ (h n (relabelled kind r f)))

  -- all calls at once
  by_step : ((i : ℕ) (p : Place) → P (done (with_record t i p))) → ((k : ℕ) (p : Place) → P (done (with_task t k p))) → ((n : ℕ) → P (record { state = t; answer = granted (n ∷ []) })) → (c : Call) → P (step t c)
  by_step fills turns figure (Enter i p n l) = enters i p n l (λ _. fills i (holds n l))
  by_step fills turns figure (Open k p) = opens k p (turns k (holds 0 (opener p)))
  by_step fills turns figure (Close k) = closes k (turns k vacant)
  by_step fills turns figure (Take k i m) = takes k i m (λ n l. turns k (holds n l))
  by_step fills turns figure (Put k i) = puts k i (λ a n r _. fills i (holds a r))
  by_step fills turns figure (Drop k i) = drops k i (fills i vacant)
  by_step fills turns figure (Show i g) = shows i g figure
  by_step fills turns figure (Change kind k i f key) = changes kind k i f key (λ n l. fills i (holds n l))

refused_leaves : (t : State) (c : Call) → is_granted (answer t c) ≡ false → after t c ≡ t
refused_leaves t c =
    by_step t (λ x. is_granted x.answer ≡ false → x.state ≡ t) (λ x e _. refl)
    (λ i p e. absurd (true≢false e)) (λ k p e. absurd (true≢false e)) (λ n e. refl) c

alters_one : (t : State) (c : Call) → AltersOne t (after t c)
alters_one t c =
    by_step t (λ x. AltersOne t x.state) (λ x e. inl (0, λ j n. refl, λ j. refl))
    (λ i p. inl (i, λ j n. get_or-set_other t.records i j p vacant n, λ j. refl))
    (λ k p. inr (k, λ j n. get_or-set_other t.tasks k j p vacant n, λ j. refl))
    (λ n. inl (0, λ j n. refl, λ j. refl)) c

-- one place of a list set
set_goes : (xs : List Place) (i : ℕ) (n : ℕ) (l : Marks) (j : ℕ) → is_held (get_or xs j vacant) ≡ true → is_held (get_or (set xs i (holds n l)) j vacant) ≡ true
set_goes [] i n l j h = h
set_goes (x ∷ xs) zero n l zero h = refl
set_goes (x ∷ xs) zero n l (suc j) h = h
set_goes (x ∷ xs) (suc i) n l zero h = h
set_goes (x ∷ xs) (suc i) n l (suc j) h = set_goes xs i n l j h

set_comes : (xs : List Place) (i j : ℕ) → (get_or (set xs i vacant) j vacant ≡ get_or xs j vacant) ⊎ (get_or (set xs i vacant) j vacant ≡ vacant)
set_comes [] i j = inl refl
set_comes (x ∷ xs) zero zero = inr refl
set_comes (x ∷ xs) zero (suc j) = inl refl
set_comes (x ∷ xs) (suc i) zero = inl refl
set_comes (x ∷ xs) (suc i) (suc j) = set_comes xs i j

alike_itself : (s : Place) → Alike (λ _. true) s s
alike_itself vacant = empty
alike_itself (holds n l) = filled l n n (λ _. refl)

set_alike : (xs : List Place) (i a n : ℕ) (r : Marks) → get_or xs i vacant ≡ holds n r → (j : ℕ) → Alike (λ _. true) (get_or xs j vacant) (get_or (set xs i (holds a r)) j vacant)
set_alike [] i a n r e j = empty
set_alike (x ∷ xs) zero a n r e zero = subst (λ (s : Place). Alike (λ _. true) s (holds a r)) (sym e) (filled r n a (λ c. absurd (true≢false c)))
set_alike (x ∷ xs) zero a n r e (suc j) = alike_itself (get_or xs j vacant)
set_alike (x ∷ xs) (suc i) a n r e zero = alike_itself x
set_alike (x ∷ xs) (suc i) a n r e (suc j) = set_alike xs i a n r e j

abbrev Go : State → Ruled → Type 0
Go t x = NoneGoes record_at t x.state × NoneGoes task_at t x.state

abbrev Come : State → Ruled → Type 0
Come t x = NoneComes record_at t x.state × NoneComes task_at t x.state

go_no : (t : State) (x : Told) → is_granted x ≡ false → Go t (record { state = t; answer = x })
go_no t x e = (λ j h. h, λ j h. h)

come_no : (t : State) (x : Told) → is_granted x ≡ false → Come t (record { state = t; answer = x })
come_no t x e = (λ j. inl refl, λ j. inl refl)

labels_by : (t : State) (c : Call) → LabelsBy c t (after t c)
labels_by t (Enter i p n l) = enters t (Go t) (go_no t) i p n l (λ _. (set_goes t.records i n l, λ j h. h))
labels_by t (Open k p) = opens t (Go t) (go_no t) k p (λ j h. h, set_goes t.tasks k 0 (opener p))
labels_by t (Close k) = closes t (Come t) (come_no t) k (λ j. inl refl, set_comes t.tasks k)
labels_by t (Take k i m) = takes t (Go t) (go_no t) k i m (λ n l. (λ j h. h, set_goes t.tasks k n l))
labels_by t (Put k i) =
    puts t (λ x. Agree (λ _. true) t x.state) (λ x e. record { records = λ j. alike_itself (record_at t j); tasks = λ j. alike_itself (task_at t j) }) k i
    (λ a n r e. record { records = set_alike t.records i a n r e; tasks = λ j. alike_itself (task_at t j) })
labels_by t (Drop k i) = drops t (Come t) (come_no t) k i (set_comes t.records i, λ j. inl refl)
labels_by t (Show i g) = shows t (λ x. x.state ≡ t) (λ x e. refl) i g (λ n. refl)
labels_by t (Change kind k i f key) = changes t (Go t) (go_no t) kind k i f key (λ n l. (set_goes t.records i n l, λ j h. h))

pub step_laws : StepLaws
step_laws = record { refused = refused_leaves; one = alters_one; labels = labels_by; figures = figures_only }
