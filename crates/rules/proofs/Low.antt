-- Two runs that agree on everything that does not touch an onlooker, and what the calls keep of that.
use Rattle.std.proofs.Common.{◌≡◌, ℕ, zero, suc, Bool, true, false, ◌&&◌, List, [], ◌∷◌, get_or, set, replicate, Ok, Err, sym, refl, ◌∙◌, subst, inl, inr, true≢false, arith}
use Rattle.std.proofs.lemmas.Bool.{both_ways, cases_Bool, or_parts}
use Rattle.answer.specs.Told.{Told, refused}
use Rattle.formula.specs.Party.{alone}
use Rattle.label.specs.declared.kind.Kind.{Kind}
use Rattle.label.specs.Labels.{Marks, sees, handed, flows, join, joinable, relabelled}
use Rattle.key.specs.Meanings.{Meaning, Verdict}
use Rattle.rules.specs.State.{State, Place, vacant, holds, with_record, with_task, blank, is_figure}
use Rattle.rules.specs.Step.{Ruled, refuse, done, asks, on_vacant, on_held, on_both, is_record, is_task, is_party, is_manner, worked, opener, entering, opening, closing, taking, putting, dropping, showing, request_for, by_key, changing}
use Rattle.rules.specs.Runs.{Call, Enter, Open, Close, Take, Put, Drop, Show, Change, Twin, same, figures, left, right, lefts, rights, run, step, after, answer, is_granted, label_of, figure_of, label_at, figure_at}
use Rattle.rules.specs.Tracking.{Touched, Lawful, Alike, empty, filled, Agree, Answered, equal, shown, Settled, Touching, AllSettled, Tracking}

pub data LowList (touched : Touched) : List Place → List Place → Type 0 where
  nil : LowList touched [] []
  cons : {s r : Place} {ss rs : List Place} → Alike touched s r → LowList touched ss rs → LowList touched (s ∷ ss) (r ∷ rs)

pub record Low (touched : Touched) (t u : State) : Type 0 where
  pub records : LowList touched t.records u.records
  pub tasks : LowList touched t.tasks u.tasks

pub low_get_d : {touched : Touched} {ss rs : List Place} → LowList touched ss rs → (i : ℕ) → Alike touched (get_or ss i vacant) (get_or rs i vacant)
low_get_d nil i = empty
low_get_d (cons x xs) zero = x
low_get_d (cons x xs) (suc i) = low_get_d xs i

low_set : {touched : Touched} {ss rs : List Place} {s r : Place} → LowList touched ss rs → (i : ℕ) → Alike touched s r → LowList touched (set ss i s) (set rs i r)
low_set nil i a = nil
low_set (cons x xs) zero a = cons a xs
low_set (cons x xs) (suc i) a = cons x (low_set xs i a)

low_replicate : (touched : Touched) (n : ℕ) → LowList touched (replicate n vacant) (replicate n vacant)
low_replicate touched zero = nil
low_replicate touched (suc n) = cons empty (low_replicate touched n)

pub low_blank : (touched : Touched) → Low touched blank blank
low_blank touched = record { records = low_replicate touched 64; tasks = low_replicate touched 8 }

pub low_agree : {touched : Touched} {t u : State} → Low touched t u → Agree touched t u
low_agree w = record { records = low_get_d w.records; tasks = low_get_d w.tasks }

-- what two calls leave, as S asks, and answer, as R asks
pub record TwoRuled (S : State → State → Type 0) (R : Told → Told → Type 0) (x y : Ruled) : Type 0 where
  pub state : S x.state y.state
  pub answer : R x.answer y.answer

abbrev Equal : Told → Told → Type 0
Equal x y = x ≡ y

module _ (touched : Touched) (S : State → State → Type 0) (R : Told → Told → Type 0) (itself : (x : Told) → R x x) {t u : State} (w : S t u) (agree : Agree touched t u) where
  low_refuse : (q : ℕ) → TwoRuled S R (refuse t q) (refuse u q)
  low_refuse q = record { state = w; answer = itself (refused q []) }

  -- a question, with its yes at hand for what follows
  low_asks : {x y : Ruled} (q : ℕ) (b : Bool) → (b ≡ true → TwoRuled S R x y) → TwoRuled S R (asks t q b x) (asks u q b y)
  low_asks q true n = n refl
  low_asks q false n = low_refuse q

  low_vacant : {x y : Ruled} {s r : Place} (q : ℕ) → Alike touched s r → TwoRuled S R x y → TwoRuled S R (on_vacant t q s x) (on_vacant u q r y)
  low_vacant q empty n = n
  low_vacant q (filled l a b e) n = low_refuse q

  low_held : {f h : ℕ → Marks → Ruled} {s r : Place} (q : ℕ) → Alike touched s r
      → ((l : Marks) (a b : ℕ) → (touched l ≡ false → a ≡ b) → TwoRuled S R (f a l) (h b l)) → TwoRuled S R (on_held t q s f) (on_held u q r h)
  low_held q empty n = low_refuse q
  low_held q (filled l a b e) n = n l a b e

  low_both : {f h : ℕ → Marks → ℕ → Marks → Ruled} (k i : ℕ)
      → ((l : Marks) (a a' : ℕ) → (touched l ≡ false → a ≡ a') → (r : Marks) (n n' : ℕ) → (touched r ≡ false → n ≡ n') → TwoRuled S R (f a l n r) (h a' l n' r))
      → TwoRuled S R (on_both t k i f) (on_both u k i h)
  low_both k i n =
      low_asks 3 (is_task k && is_record i)
      (λ _. low_held 5 (agree.tasks k) (λ l a a' e. low_held 6 (agree.records i) (λ r b b' e'. n l a a' e r b b' e')))

module _ (touched : Touched) (S : State → State → Type 0) {t u : State} (w : S t u) (agree : Agree touched t u) (fills : (i : ℕ) (s r : Place) → Alike touched s r → S (with_record t i s) (with_record u i r)) (turns : (k : ℕ) (s r : Place) → Alike touched s r → S (with_task t k s) (with_task u k r)) where
  two_fills : {s r : Place} (i : ℕ) → Alike touched s r → TwoRuled S Equal (done (with_record t i s)) (done (with_record u i r))
  two_fills i a = record { state = fills i _ _ a; answer = refl }

  two_turns : {s r : Place} (k : ℕ) → Alike touched s r → TwoRuled S Equal (done (with_task t k s)) (done (with_task u k r))
  two_turns k a = record { state = turns k _ _ a; answer = refl }

  -- enter, with one figure or with two under a label that touches where it is let in
  low_enter : (i p n n' : ℕ) (l : Marks) → (handed l (alone p) ≡ true → touched l ≡ false → n ≡ n') → is_figure n ≡ is_figure n'
      → TwoRuled S Equal (entering t i p n l) (entering u i p n' l)
  low_enter i p n n' l e s =
      low_asks touched S Equal (λ _. refl) w agree 3 (is_record i && is_party p)
      (λ _. rw s (low_asks touched S Equal (λ _. refl) w agree 4 (is_figure n')
      (λ _. low_vacant touched S Equal (λ _. refl) w agree 6 (agree.records i)
      (low_asks touched S Equal (λ _. refl) w agree 8 (handed l (alone p)) (λ h. two_fills i (filled l n n' (e h)))))))

  low_open : (k p : ℕ) → TwoRuled S Equal (opening t k p) (opening u k p)
  low_open k p =
      low_asks touched S Equal (λ _. refl) w agree 3 (is_task k && is_party p)
      (λ _. low_vacant touched S Equal (λ _. refl) w agree 5 (agree.tasks k) (two_turns k (filled (opener p) 0 0 (λ _. refl))))

  low_close : (k : ℕ) → TwoRuled S Equal (closing t k) (closing u k)
  low_close k = low_asks touched S Equal (λ _. refl) w agree 3 (is_task k) (λ _. low_held touched S Equal (λ _. refl) w agree 5 (agree.tasks k) (λ l a b e. two_turns k empty))

  low_take : Lawful touched → (k i m : ℕ) → TwoRuled S Equal (taking t k i m) (taking u k i m)
  low_take o k i m =
      low_both touched S Equal (λ _. refl) w agree k i
      (λ l a a' e r n n' e'. low_asks touched S Equal (λ _. refl) w agree 7 (is_manner m)
      (λ _. low_asks touched S Equal (λ _. refl) w agree 10 (joinable l r)
      (λ _. two_turns k (filled (join l r) (worked m a n) (worked m a' n')
      (λ h. let j = or_parts (touched l) (touched r) (sym (o.joins l r) ∙ h) in let p : a ≡ a' = e j.0 in let q : n ≡ n' = e' j.1 in cc)))))

  untouched : (x y : Bool) → (x ≡ true → y ≡ true) → y ≡ false → x ≡ false
  untouched x y h e = grind arith

  low_put : Lawful touched → (k i : ℕ) → TwoRuled S Equal (putting t k i) (putting u k i)
  low_put o k i =
      low_both touched S Equal (λ _. refl) w agree k i
      (λ l a a' e r n n' e'. low_asks touched S Equal (λ _. refl) w agree 9 (flows l r)
      (λ h. two_fills i (filled r a a' (λ c. e (untouched (touched l) (touched r) (o.flow l r h) c)))))

  low_drop : (k i : ℕ) → TwoRuled S Equal (dropping t k i) (dropping u k i)
  low_drop k i =
      low_both touched S Equal (λ _. refl) w agree k i
      (λ l a a' e r n n' e'. low_asks touched S Equal (λ _. refl) w agree 9 (flows l r) (λ _. two_fills i empty))

  low_show : (i g : ℕ) → TwoRuled S (Answered touched (Show i g)) (showing t i g) (showing u i g)
  low_show i g =
      low_asks touched S (Answered touched (Show i g)) (equal (Show i g)) w agree 3 (is_record i)
      (λ _. low_held touched S (Answered touched (Show i g)) (equal (Show i g)) w agree 6 (agree.records i)
      (λ l a b e. low_asks touched S (Answered touched (Show i g)) (equal (Show i g)) w agree 11 (sees l g) (λ h. record { state = w; answer = shown i g a b l h e })))

-- a release or an endorsement that is settled
module _ (touched : Touched) (S : State → State → Type 0) {t u : State} (w : S t u) (agree : Agree touched t u) (fills : (i : ℕ) (s r : Place) → Alike touched s r → S (with_record t i s) (with_record u i r)) (kind : Kind) (i : ℕ) (f : List ℕ) (key : Meaning) where
  changed_by : (l r : Marks) (n n' : ℕ) → (touched r ≡ false → n ≡ n') → (v : Verdict)
      → (is_granted (by_key t v (done (with_record t i (holds n (relabelled kind r f))))).answer ≡ true → touched r ≡ true → touched (relabelled kind r f) ≡ false → n ≡ n')
      → TwoRuled S Equal (by_key t v (done (with_record t i (holds n (relabelled kind r f))))) (by_key u v (done (with_record u i (holds n' (relabelled kind r f)))))
  changed_by l r n n' e (Err d) h = record { state = w; answer = refl }
  changed_by l r n n' e (Ok _) h =
      record { state = fills i _ _ (filled (relabelled kind r f) n n' (λ c. elim (cases_Bool (touched r)) [ inl x ↦ h refl x c | inr x ↦ e x ])); answer = refl }

  abbrev change_at : State → Place → Place → Ruled
  change_at v s r = on_held v 5 s (λ a l. on_held v 6 r (λ n m. by_key v (key (request_for kind m f l)) (done (with_record v i (holds n (relabelled kind m f))))))

  changed_at : {s s' r r' : Place} → Alike touched s s' → Alike touched r r'
      → (is_granted (change_at t s r).answer ≡ true → touched (label_of r) ≡ true → touched (relabelled kind (label_of r) f) ≡ false → figure_of r ≡ figure_of r')
      → TwoRuled S Equal (change_at t s r) (change_at u s' r')
  changed_at empty y h = low_refuse touched S Equal (λ _. refl) w agree 5
  changed_at (filled l a a' e) empty h = low_refuse touched S Equal (λ _. refl) w agree 6
  changed_at (filled l a a' e) (filled r n n' e') h = changed_by l r n n' e' (key (request_for kind r f l)) h

  changed_when : (b : Bool) {x y : Ruled} (Z : Type 0) → (is_granted (asks t 3 b x).answer ≡ true → Z) → ((is_granted x.answer ≡ true → Z) → TwoRuled S Equal x y) → TwoRuled S Equal (asks t 3 b x) (asks u 3 b y)
  changed_when true Z h n = n h
  changed_when false Z h n = low_refuse touched S Equal (λ _. refl) w agree 3

  low_change : (k : ℕ) → Settled touched t u (Change kind k i f key) → TwoRuled S Equal (changing kind t k i f key) (changing kind u k i f key)
  low_change k h =
      changed_when (is_task k && is_record i) (touched (label_at t i) ≡ true → touched (relabelled kind (label_at t i) f) ≡ false → figure_at t i ≡ figure_at u i) h
      (changed_at (agree.tasks k) (agree.records i))

-- where everything may touch, nothing is asked of figures
all_settled : (t u : State) (c : Call) → Settled (λ _. true) t u c
all_settled t u (Enter i p n l) = tt
all_settled t u (Open k p) = tt
all_settled t u (Close k) = tt
all_settled t u (Take k i m) = tt
all_settled t u (Put k i) = tt
all_settled t u (Drop k i) = tt
all_settled t u (Show i g) = tt
all_settled t u (Change kind k i f key) = λ _ _ e. absurd (true≢false e)

-- an equal answer is an answer
answered : {touched : Touched} {S : State → State → Type 0} {x y : Ruled} (c : Call) → TwoRuled S Equal x y → TwoRuled S (Answered touched c) x y
answered {touched} {S} {x} {y} c r = record { state = r.state; answer = subst (Answered touched c x.answer) r.answer (equal c x.answer) }

-- one call
module _ (touched : Touched) (o : Lawful touched) (S : State → State → Type 0) {t u : State} (w : S t u) (agree : Agree touched t u) (fills : (i : ℕ) (s r : Place) → Alike touched s r → S (with_record t i s) (with_record u i r)) (turns : (k : ℕ) (s r : Place) → Alike touched s r → S (with_task t k s) (with_task u k r)) where
  two_step : (x : Twin (Touching touched)) → Settled touched t u (left x) → TwoRuled S (Answered touched (left x)) (step t (left x)) (step u (right x))
  two_step (same (Enter i p n l)) h = answered _ (low_enter touched S w agree fills turns i p n n l (λ _ _. refl) refl)
  two_step (same (Open k p)) h = answered _ (low_open touched S w agree fills turns k p)
  two_step (same (Close k)) h = answered _ (low_close touched S w agree fills turns k)
  two_step (same (Take k i m)) h = answered _ (low_take touched S w agree fills turns o k i m)
  two_step (same (Put k i)) h = answered _ (low_put touched S w agree fills turns o k i)
  two_step (same (Drop k i)) h = answered _ (low_drop touched S w agree fills turns k i)
  two_step (same (Show i g)) h = low_show touched S w agree fills turns i g
  two_step (same (Change kind k i f key)) h = answered _ (low_change touched S w agree fills kind i f key k h)
  two_step (figures i p n n' l d a b) h = answered _ (low_enter touched S w agree fills turns i p n n' l (λ q c. absurd (both_ways (touched l) c (d q))) (a ∙ sym b))

-- answers of two states that differ only in figures
pub figures_only : (t u : State) (c : Call) → Agree (λ _. true) t u → Answered (λ _. true) c (answer t c) (answer u c)
figures_only t u c w =
    (two_step (λ _. true) (record { joins = λ a b. refl; flow = λ a b e x. refl }) (λ _ _. Unit {0}) tt w (λ _ _ _ _. tt) (λ _ _ _ _. tt) (same c) (all_settled t u c)).answer

-- everything may touch
low_weaker : {touched : Touched} {s r : Place} → Alike touched s r → Alike (λ _. true) s r
low_weaker empty = empty
low_weaker (filled l a b e) = filled l a b (λ c. absurd (true≢false c))

-- the answer to a release or an endorsement rests on labels alone
same_change : {touched : Touched} {t u : State} → Agree touched t u → (kind : Kind) (k i : ℕ) (f : List ℕ) (key : Meaning) → (changing kind t k i f key).answer ≡ (changing kind u k i f key).answer
same_change w kind k i f key =
    (low_change (λ _. true) (λ _ _. Unit {0}) tt (record { records = λ j. low_weaker (w.records j); tasks = λ j. low_weaker (w.tasks j) }) (λ _ _ _ _. tt) kind i f key k (λ _ _ e. absurd (true≢false e))).answer

-- what two calls leave and answer that were made of such states
abbrev pub LowRuled : Touched → (Told → Told → Type 0) → Ruled → Ruled → Type 0
LowRuled touched = TwoRuled (Low touched)

low_two : {touched : Touched} → Lawful touched → {t u : State} (x : Twin (Touching touched)) → (w : Low touched t u) → Settled touched t u (left x) → LowRuled touched (Answered touched (left x)) (step t (left x)) (step u (right x))
low_two {touched} o x w =
    two_step touched o (Low touched) w (low_agree w) (λ i s r a. record { records = low_set w.records i a; tasks = w.tasks }) (λ k s r a. record { records = w.records; tasks = low_set w.tasks k a }) x

-- one call
pub low_step : {touched : Touched} → Lawful touched → {t u : State} (x : Twin (Touching touched)) → Low touched t u → Settled touched t u (left x) → Low touched (after t (left x)) (after u (right x))
low_step o x w h = (low_two o x w h).state

pub low_answer : {touched : Touched} → Lawful touched → {t u : State} (x : Twin (Touching touched)) → Low touched t u → Answered touched (left x) (answer t (left x)) (answer u (right x))
low_answer {touched} o (same (Enter i p n l)) w = (low_two o (same (Enter i p n l)) w tt).answer
low_answer {touched} o (same (Open k p)) w = (low_two o (same (Open k p)) w tt).answer
low_answer {touched} o (same (Close k)) w = (low_two o (same (Close k)) w tt).answer
low_answer {touched} o (same (Take k i m)) w = (low_two o (same (Take k i m)) w tt).answer
low_answer {touched} o (same (Put k i)) w = (low_two o (same (Put k i)) w tt).answer
low_answer {touched} o (same (Drop k i)) w = (low_two o (same (Drop k i)) w tt).answer
low_answer {touched} o (same (Show i g)) w = (low_two o (same (Show i g)) w tt).answer
low_answer {touched} o {t} (same (Change kind k i f key)) w =
    subst (Answered touched (Change kind k i f key) (answer t (Change kind k i f key))) (same_change (low_agree w) kind k i f key) (equal _ _)
low_answer {touched} o (figures i p n n' l d a b) w = (low_two o (figures i p n n' l d a b) w tt).answer

-- all calls
low_run : {touched : Touched} → Lawful touched → (xs : List (Twin (Touching touched))) (t u : State) → Low touched t u → AllSettled touched t u xs → Low touched (run t (lefts xs)) (run u (rights xs))
low_run o [] t u w h = w
low_run o (x ∷ xs) t u w h = low_run o xs (after t (left x)) (after u (right x)) (low_step o x w h.0) h.1

pub tracking : Tracking
tracking touched o xs h =
    let w = low_run o xs blank blank (low_blank touched) h in (low_agree w, λ x. low_answer o x w)
