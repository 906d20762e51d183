-- The rows of the promise hold.
use Rattle.std.proofs.Common.{◌≡◌, ℕ, zero, suc, true, false, ◌⊎◌, List, [], ◌∷◌, length, get_or, sym, refl, ap, ◌∙◌, inl, inr, true≢false, lit<}
use mathlib.Core.Bool.{false≢true}
use Rattle.answer.specs.Told.{Told, granted, refused}
use Rattle.clause.specs.Parts.{Part}
use Rattle.clause.specs.Groups.{least}
use Rattle.label.specs.declared.kind.Kind.TheVariants.{Release}
use Rattle.label.specs.Labels.{Marks, sees}
use Rattle.key.specs.declared.mode.Mode.TheVariants.{Both}
use Rattle.key.specs.Laws.{itself}
use Rattle.rules.specs.State.{Place, vacant, holds, record_at, task_at, blank}
use Rattle.rules.specs.Runs.{Call, Enter, Open, Close, Take, Put, Drop, Show, Change, same, figures, lefts, run, is_granted}
use Rattle.rules.specs.Tracking.{Touched, Alike, empty, filled, Answered, equal, shown}
use Rattle.rules.specs.Promise.{lets_in, Matches, equal as equally, apart, Unmoved}
use Rattle.histories.specs.Short.{label, one, two, free, always}
use Rattle.histories.specs.Promised.{touched, mine, holding, Named, Agreed, hidden, own, entered_apart, robustly, Promises, Promised}
use Rattle.histories.proofs.Apart.{differ}

seven : ◌≡◌ {A = ℕ} 7 8 → ⊥
seven e = differ {m = 7} {n = 8} refl e

-- what matches is the same, or shown to a group that is not contained
abbrev Unheard : ℕ → Call → Type 0
Unheard g (Enter i p n l) = ⊥
Unheard g (Open k p) = ⊥
Unheard g (Close k) = ⊥
Unheard g (Take k i m) = ⊥
Unheard g (Put k i) = ⊥
Unheard g (Drop k i) = ⊥
Unheard g (Show i h) = Part h g → ⊥
Unheard g (Change kind k i f key) = ⊥

abbrev figure_in : Told → ℕ
figure_in (granted vs) = get_or vs 0 0
figure_in (refused q vs) = 0

matched : {g : ℕ} {c : Call} {x y : Told} → Matches g c x y → (x ≡ y) ⊎ ((is_granted x ≡ is_granted y) × Unheard g c)
matched (equally c x) = inl refl
matched (apart i h n m p) = inr (refl, p)

-- two figures, shown to a group that is contained, do not match
one_heard : {g : ℕ} {c : Call} {n m : ℕ} → (n ≡ m → ⊥) → (Unheard g c → ⊥) → Matches g c (granted (n ∷ [])) (granted (m ∷ [])) → ⊥
one_heard d u m = elim (matched m) [ inl e ↦ d (ap figure_in e) | inr p ↦ u p.1 ]

named : Named
named =
    record {
      closed = refl;
      not_closed = λ e. true≢false e;
      entered_by = refl;
      entered_by_other = λ e. differ {m = 0} {n = 1} refl e;
      lets_in_row = refl;
      refused_lets_nobody = refl;
      lets_in_no_other = refl;
      in_already = refl;
      endorsement_lets_nobody = refl;
      others_let_nobody = refl;
      takes_off_row = refl;
      refused_takes_nobody = refl;
      had_no_hand = refl;
      keeps_hand = refl;
      release_takes_nobody = refl;
      others_take_nobody = refl;
      none_of = (refl, (refl, tt));
      first_does = λ n. true≢false n.0;
      second_does = λ n. true≢false n.1.0;
      second_is_late = (refl, (refl, tt));
      matches = equally (Close 0) (refused 5 []);
      matches_apart = apart 0 3 7 8 (λ e. differ {m = 2} {n = 3} refl e);
      contained = one_heard (differ refl) (λ u. u refl);
      other_call = one_heard (differ refl) (λ u. u);
      other_answer = λ m. elim (matched m) [ inl e ↦ true≢false (ap is_granted e) | inr p ↦ true≢false p.0 ];
    }

-- what is alike is both vacant, or under one label and one figure unless it touches
abbrev Likeness : Touched → Place → Place → Type 0
Likeness t vacant vacant = Unit {0}
Likeness t vacant (holds b m) = ⊥
Likeness t (holds a l) vacant = ⊥
Likeness t (holds a l) (holds b m) = (l ≡ m) × (t l ≡ false → a ≡ b)

likeness : {t : Touched} {p q : Place} → Alike t p q → Likeness t p q
likeness empty = tt
likeness (filled l a b e) = (refl, e)

-- figures shown under a label that the group sees, one figure unless it touches
abbrev Shown : Touched → Call → Told → Told → Type 0
Shown t (Enter i p n l) x y = ⊥
Shown t (Open k p) x y = ⊥
Shown t (Close k) x y = ⊥
Shown t (Take k i m) x y = ⊥
Shown t (Put k i) x y = ⊥
Shown t (Drop k i) x y = ⊥
Shown t (Show i g) x y = (l : Marks) × (sees l g ≡ true) × (t l ≡ false → figure_in x ≡ figure_in y)
Shown t (Change kind k i f key) x y = ⊥

answered_as : {t : Touched} {c : Call} {x y : Told} → Answered t c x y → (x ≡ y) ⊎ Shown t c x y
answered_as (equal c x) = inl refl
answered_as (shown i g a b l s e) = inr (l, s, e)

agreed : Agreed
agreed =
    record {
      both_empty = empty;
      one_figure = filled mine 7 7 (λ e. refl);
      two_figures = filled mine 7 8 (λ e. absurd (true≢false e));
      not_two = λ a. seven ((likeness a).1 refl);
      one_empty = λ a. likeness a;
      two_labels = λ a. differ {m = 1} {n = 0} refl (ap (λ (l : Marks). length l.sight) (likeness a).0);
      agree = record { records = at-record; tasks = at-task };
      records_differ = λ a. seven ((likeness (a.records 0)).1 refl);
      tasks_differ = λ a. seven ((likeness (a.tasks 0)).1 refl);
      answered = equal (Close 0) (refused 5 []);
      shown = shown 0 1 7 8 mine refl (λ e. absurd (true≢false e));
      shown_once = λ a. elim (answered_as a) [ inl e ↦ seven (ap figure_in e) | inr s ↦ seven (s.2 refl) ];
      shown_otherwise = λ a. elim (answered_as a) [ inl e ↦ seven (ap figure_in e) | inr s ↦ s ];
      none_sees = λ t u a. elim (answered_as a) [ inl e ↦ seven (ap figure_in e) | inr s ↦ seven (s.2 (u s.0 s.1)) ];
      settled = λ g b a. refl;
      unsettled = λ s. seven (s refl refl refl);
      refused_settles = λ g b a. absurd (false≢true g);
      touch_stays = λ g b a. absurd (true≢false a);
      no_touch_before = λ g b a. absurd (false≢true b);
      release_settles = λ g b a. absurd (true≢false a);
      touching = λ h. refl;
      not_let_in = λ h. h;
      not_touching = λ t. false≢true (t refl);
      all_settled = (tt, ((λ g b a. absurd (true≢false a)), tt));
      first_unsettled = λ s. seven (s.0 refl refl refl);
      second_unsettled = λ s. seven (s.1.0 refl refl refl);
      entered_unsettled = λ s. seven (s.1.1.0 refl refl refl);
      settled_late = (tt, ((λ g b a. absurd (false≢true g)), tt));
      lawful = record { joins = λ a b. refl; flow = λ a b f e. refl };
      joins_neither = λ w. false≢true (w.joins (label [] one) (label [] []));
      flow_carries = λ t w a b f e. w.flow a b f e;
      carried_joins = λ c. differ {m = 3} {n = 1} refl (ap (λ (cs : List ℕ). get_or cs 0 0) (c.joins (label [] one) (label [] two)));
      carried_flow = λ c a b f. c.flow a b f;
    }
  where
    at-record : (i : ℕ) → Alike touched (record_at (holding 7) i) (record_at (holding 8) i)
    at-record zero = filled mine 7 8 (λ e. absurd (true≢false e))
    at-record (suc i) = empty

    at-task : (k : ℕ) → Alike touched (task_at (holding 7) k) (task_at (holding 8) k)
    at-task zero = filled free 0 0 (λ e. refl)
    at-task (suc k) = empty

may_move : Unmoved 1 (holding 7) (holding 8)
may_move zero = filled mine 7 8 (λ e. absurd (true≢false e))
may_move (suc i) = empty

let_in : lets_in 2 (run blank (lefts entered_apart)) (Change Release 0 0 two robustly) ≡ true
unfolding least
let_in = refl

promises : Promises
promises =
    record {
      left_enter = refl;
      right_enter = refl;
      left_run = refl;
      right_run = refl;
      secret = λ p. p.secrecy 2 (lit< tt) (hidden ∷ []) (refl, tt) (same (Show 0 2));
      shown_elsewhere = λ p. p.secrecy 2 (lit< tt) (hidden ∷ []) (refl, tt) (same (Show 0 1));
      to_the_last = λ p. p.secrecy 65535 (lit< tt) [] tt (same (Close 0));
      release_secret = λ p. p.secrecy 2 (lit< tt) (hidden ∷ same (Open 0 0) ∷ []) (refl, (refl, tt)) (same (Change Release 0 0 two always));
      lets_in_row = λ n. true≢false n.1.1.0;
      no_secret = one_heard (differ refl) (λ u. u refl);
      may_move = may_move;
      may_not_move = λ u. seven ((likeness (u 0)).1 refl);
      shows_one = (7, refl, refl);
      shows_two = λ s. seven (ap figure_in s.1 ∙ sym (ap figure_in s.2));
      shows_none = λ s. false≢true (ap is_granted s.1);
      unmoved = λ p. (p.influence 1 (lit< tt) (own ∷ []) (refl, tt)).unmoved;
      unmoved_to_the_last = λ p. (p.influence 65535 (lit< tt) [] tt).unmoved;
      unsteered = λ p. (p.influence 2 (lit< tt) entered_apart (refl, (refl, (refl, tt)))).robust 0 0 two robustly (itself Both always) let_in;
      takes_off_row = λ n. true≢false n.1.1.0;
      moved_on = λ u. seven ((likeness (u 0)).1 refl);
      tracked = λ p. p.tracking;
      tracks_agree = λ t. (t (figures 0 0 7 8 mine (λ h. refl) refl refl ∷ []) (tt, tt)).0;
      tracks_answers = λ t. (t (figures 0 0 7 8 mine (λ h. refl) refl refl ∷ []) (tt, tt)).1 (same (Show 0 1));
      mark_tracks = λ m c o. m (λ l. l.sight) c o;
      key_laws = λ p. p.keys;
      over_robust = λ p. p.over;
    }

pub promised : Promised
promised = record { named = named; agreed = agreed; promises = promises }
