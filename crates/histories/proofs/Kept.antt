-- The rows of what a call may alter hold.
use Rattle.std.proofs.Common.{◌≡◌, ℕ, zero, suc, true, false, sym, refl, ap, ◌∙◌, inl, inr, true≢false, arith}
use mathlib.Core.Bool.{false≢true}
use Rattle.rules.specs.State.{State, Place, vacant, holds, record_at, task_at}
use Rattle.rules.specs.Runs.{figure_of, Show, is_granted}
use Rattle.rules.specs.Tracking.{Alike, empty, filled, Agree}
use Rattle.rules.specs.Laws.{OnlyAt, is_held, NoneGoes, NoneComes}
use Rattle.histories.specs.Short.{free}
use Rattle.histories.specs.Kept.{bare, second, both, task, moved, Kept}
use Rattle.histories.proofs.Apart.{differ}

-- vacant and held are not the same
full : {n : ℕ} → vacant ≡ holds n free → ⊥
full e = false≢true (ap is_held e)

empties : {n : ℕ} → holds n free ≡ vacant → ⊥
empties e = true≢false (ap is_held e)

only_second : OnlyAt record_at 1 bare second
only_second zero n = refl
only_second (suc zero) n = absurd (n refl)
only_second (suc (suc j)) n = refl

only_task : OnlyAt task_at 0 bare task
only_task zero n = absurd (n refl)
only_task (suc j) n = refl

-- whichever record is left out, the other differs
two_differ : (i : ℕ) → OnlyAt record_at i bare both → ⊥
two_differ zero o = empties (o 1 (λ e. differ refl e))
two_differ (suc i) o = empties (o 0 (λ e. let z : 0 ≡ suc i = e in omega arith))

none_goes : NoneGoes record_at second both
none_goes zero h = refl
none_goes (suc zero) h = refl
none_goes (suc (suc j)) h = h

fills : NoneGoes record_at bare second
fills zero h = h
fills (suc zero) h = refl
fills (suc (suc j)) h = h

opens : NoneGoes task_at bare task
opens zero h = refl
opens (suc j) h = h

none_comes : NoneComes record_at both second
none_comes zero = inr refl
none_comes (suc zero) = inl refl
none_comes (suc (suc j)) = inl refl

drops : NoneComes record_at second bare
drops zero = inl refl
drops (suc zero) = inr refl
drops (suc (suc j)) = inl refl

closes : NoneComes task_at task bare
closes zero = inr refl
closes (suc j) = inl refl

-- a place that was vacant has come
comes : (at : State → ℕ → Place) (t u : State) (j : ℕ) → is_held (at t j) ≡ false → is_held (at u j) ≡ true → NoneComes at t u → ⊥
comes at t u j p q c = elim (c j) [ inl e ↦ true≢false (sym q ∙ ap is_held e ∙ p) | inr e ↦ true≢false (sym q ∙ ap is_held e) ]

moves : Agree (λ l. true) second moved
moves = record { records = at-record; tasks = at-task }
  where
    at-record : (i : ℕ) → Alike (λ l. true) (record_at second i) (record_at moved i)
    at-record zero = empty
    at-record (suc zero) = filled free 7 8 (λ e. absurd (true≢false e))
    at-record (suc (suc i)) = empty

    at-task : (k : ℕ) → Alike (λ l. true) (task_at second k) (task_at moved k)
    at-task zero = empty
    at-task (suc k) = empty

-- places that are alike are both held or both vacant
alike_held : {p q : Place} → Alike (λ l. true) p q → is_held p ≡ is_held q
alike_held empty = refl
alike_held (filled l a b e) = refl

pub kept : Kept
kept =
    record {
      only_second = only_second;
      not_only_first = λ o. empties (o 1 (λ e. differ refl e));
      same_tasks = λ j. refl;
      not_same = λ s. empties (s 1);
      one_record = inl (1, only_second, λ j. refl);
      one_task = inr (0, only_task, λ j. refl);
      two_records = λ a. elim a [ inl r ↦ two_differ r.0 r.1 | inr k ↦ empties (k.2 1) ];
      record_and_task = λ a. elim a [ inl r ↦ empties (r.2 0) | inr k ↦ empties (k.2 1) ];
      held = refl;
      not_held = refl;
      none_goes = none_goes;
      one_goes = λ n. false≢true (n 0 refl);
      none_comes = none_comes;
      one_comes = comes record_at second both 0 refl refl;
      one_moves = λ n. elim (n 1) [ inl e ↦ differ {m = 8} {n = 7} refl (ap figure_of e) | inr e ↦ empties e ];
      enter_fills = (fills, λ j h. h);
      enter_empties = λ l. false≢true (l.0 1 refl);
      enter_closes = λ l. false≢true (l.1 0 refl);
      open_opens = (λ j h. h, opens);
      open_empties = λ l. false≢true (l.0 1 refl);
      open_closes = λ l. false≢true (l.1 0 refl);
      take_empties = λ l. false≢true (l.0 1 refl);
      take_closes = λ l. false≢true (l.1 0 refl);
      take_opens = (λ j h. h, opens);
      release_fills = (fills, λ j h. h);
      release_empties = λ l. false≢true (l.0 1 refl);
      release_closes = λ l. false≢true (l.1 0 refl);
      close_closes = (λ j. inl refl, closes);
      close_opens = λ l. comes task_at bare task 0 refl refl l.1;
      close_fills = λ l. comes record_at bare second 1 refl refl l.0;
      drop_empties = (drops, λ j. inl refl);
      drop_fills = λ l. comes record_at bare second 1 refl refl l.0;
      drop_opens = λ l. comes task_at bare task 0 refl refl l.1;
      put_moves = moves;
      put_empties = λ a. true≢false (alike_held (a.records 1));
      show_keeps = refl;
      show_moves = λ e. differ {m = 8} {n = 7} refl (ap (λ (t : State). figure_of (record_at t 1)) e);
      refused_keeps = λ law t c e. law.refused t c (ap is_granted e);
      alters_one = λ law. law.one;
      labels_by = λ law. law.labels;
      figures_alone = λ law. law.figures second moved (Show 1 0) moves;
    }
