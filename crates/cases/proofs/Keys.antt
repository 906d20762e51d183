-- The rows of keys hold.
use Rattle.std.proofs.Common.{◌≡◌, ℕ, zero, suc, ◌<◌, [], refl, inl, inr, arith, lit<}
use Rattle.answer.specs.declared.Denial.TheVariants.{NotCovered}
use Rattle.label.specs.declared.kind.Kind.TheVariants.{Release}
use Rattle.key.specs.declared.mode.Mode.TheVariants.{Releases, Endorsements, Both}
use Rattle.key.specs.Meanings.{robust, bounded}
use Rattle.key.specs.Laws.{Gains, Steers, PlainGrants, ReleasesRobustly, itself, wrapped, elsewhere}
use Rattle.cases.specs.Table.{label, release, one, two, one_two}
use Rattle.cases.specs.Keys.{letting, always, never, around, Answering, Put, Stated, Limited, Lawful, Robustly, Keys}
use Rattle.cases.proofs.Apart.{differ}

answering : Answering
answering =
    record {
      both_release = refl;
      both_endorse = refl;
      releases_release = refl;
      releases_endorse = refl;
      endorsements_release = refl;
      endorsements_endorse = refl;
      goes_on = refl;
      passes_up = refl;
      robust_passes_up = λ m r. refl;
      bounded_passes_up = λ m b r. refl;
      robust_outside = λ l t f. refl;
      bounded_outside = λ b l t f. refl;
      unsteered = refl;
      steered = refl;
      is_let_in = refl;
      saw_before = refl;
      sees_not = refl;
      by_record = refl;
      by_task = refl;
      without_hand = refl;
      without_gain = refl;
      endorses = refl;
      keeps_hand = refl;
      not_in_task = refl;
      not_in_record = refl;
      in_record_alone = refl;
    }

put : Put
put =
    record {
      kind_asked = λ r. refl;
      record_asked = λ r. refl;
      new_asked = λ r. refl;
      task_asked = λ r. refl;
      high_limit = λ b. refl;
      low_limit = λ b. refl;
    }

gains_two : Gains letting 2
gains_two = ((differ refl, tt), λ s. s.0 refl)

gains_one : Gains letting 1
gains_one = ((differ refl, tt), λ s. s.1.0 refl)

gains_six : Gains letting 6
gains_six = ((differ refl, tt), λ s. s.0 refl)

short : PlainGrants one Release (release (label one_two []) [] (label [] [])) → ⊥
short p = (p 1 (lit< tt) (differ refl, tt) tt).1.0 refl

stated : Stated
stated =
    record {
      sees = (differ refl, tt);
      sees_not = λ s. s.0 refl;
      has_hand = (differ refl, tt);
      has_none = λ s. s.0 refl;
      everybody = λ g h. h;
      not_everybody = λ e. let h : 65535 < 65535 = e 65535 (lit< tt) in omega arith;
      nobody = λ g h p. p;
      somebody = λ n. n 65535 (lit< tt) refl;
      gains = gains_two;
      saw_before = λ w. w.1 (differ refl, (differ refl, tt));
      sees_no_more = λ w. w.0.0 refl;
      by_record = (gains_one, inl (differ refl, tt));
      by_task = (gains_six, inr (differ refl, tt));
      without_hand = λ s. elim s.1 [ inl h ↦ h.0 refl | inr h ↦ h.0 refl ];
      without_gain = λ s. s.0.1 (differ refl, (differ refl, tt));
      endorses = (((differ refl, tt), (differ refl, tt)), λ m. m.0 refl);
      keeps_hand = λ s. s.1 (differ refl, tt);
      not_in_task = λ s. s.0.0.0 refl;
      not_in_record = λ s. s.0.1.0 refl;
      in_record_alone = λ s. s.0.0.0 refl;
      covers_release = λ g h p n. (p.0, n);
      covers_endorsement = λ g h p o. (p.0, o);
      short_release = short;
      short_endorsement = λ p. (p 1 (lit< tt) (differ refl, tt) tt).1.0 refl;
    }

limited : Limited
limited =
    record {
      flows = λ g h. (λ s. (s.0, tt), λ m. (m.0, tt));
      shows_more = λ f. ((f 1 (lit< tt)).0 (differ refl, tt)).1.0 refl;
      hands_more = λ f. ((f 2 (lit< tt)).1 tt).0 refl;
      covered_left = λ g h. (λ a b. (a.0, b), λ m. inl m);
      covered_right = λ g h. (λ a b. (a.0, b), λ m. inr m);
      shows_first = λ c. ((c 2 (lit< tt)).0 tt (differ refl, tt)).0 refl;
      shows_second = λ c. ((c 1 (lit< tt)).0 (differ refl, tt) tt).1.0 refl;
      hands_neither = λ c. elim ((c 1 (lit< tt)).1 (differ refl, tt)) [ inl m ↦ m.0 refl | inr m ↦ m.0 refl ];
      below_high = (λ g h. (λ s. (s.0, tt), λ m. m), λ g h. (λ s. s.1, λ m. m));
      record_above = λ b. ((b.0 2 (lit< tt)).1 tt).0 refl;
      task_above = λ b. ((b.1 2 (lit< tt)).1 tt).0 refl;
      above_low = λ g h. (λ a b. (a.0, b), λ m. inl m);
      above_low_by_hand = λ g h. (λ a b. (a.0, b), λ m. inl m);
      new_below = λ c. ((c 2 (lit< tt)).0 tt (differ refl, tt)).0 refl;
      task_below = λ c. ((c 1 (lit< tt)).0 (differ refl, tt) tt).1.0 refl;
    }

steers_one : Steers letting 1
steers_one = (gains_one, inl (differ refl, tt))

lowest_steers : (k : ℕ) → k < 1 → Steers letting k → ⊥
lowest_steers zero h s = s.0.0.0 refl
lowest_steers (suc k) h s = absurd (omega arith)

lawful : Lawful
lawful =
    record {
      plain_grants = λ law. (law.plain one (release (label one_two []) two (label [] []))).grants.1 (λ g h p n. (p.0, n));
      plain_grants_only = λ law e. short ((law.plain one (release (label one_two []) [] (label [] []))).grants.0 e);
      plain_denies = λ law. (law.plain one (release (label one_two []) [] (label [] []))).denies short;
      robust_passes = λ law. (law.robust Both never letting).passes NotCovered refl;
      robust_outside = λ law. (law.robust Endorsements always letting).outside refl refl;
      robust_names = λ law. (law.robust Both always letting).names refl refl 1 (lit< tt) steers_one lowest_steers;
      robust_grants = λ law n. (law.robust Releases always letting).grants.1 (refl, refl, n);
      robust_grants_below = λ law k e. ((law.robust Both k letting).grants.0 e).0;
      robust_grants_inside = λ law m e. ((law.robust m always letting).grants.0 e).1;
      robust_grants_nobody = λ law e. ((law.robust Both always letting).grants.0 e).2 1 (lit< tt) steers_one;
      bounded_passes = λ law b. (law.bounded Both b never letting).passes NotCovered refl;
      bounded_outside = λ law b. (law.bounded Endorsements b always letting).outside refl refl;
      bounded_high = λ law. (law.bounded Both around always (release (label one []) [] (label two one))).high refl refl (λ b. ((b.0 2 (lit< tt)).1 tt).0 refl);
      bounded_low = λ law b r h l. (law.bounded Both b always r).low refl refl h l;
      bounded_grants = λ law b r h l. (law.bounded Both b always r).grants.1 (refl, refl, h, l);
      bounded_grants_below = λ law b k e. ((law.bounded Both b k letting).grants.0 e).0;
      bounded_grants_inside = λ law m b e. ((law.bounded m b always letting).grants.0 e).1;
      bounded_grants_high = λ law b e. ((law.bounded Both b always letting).grants.0 e).2;
      bounded_grants_low = λ law b e. ((law.bounded Both b always letting).grants.0 e).3;
    }

never_does : ReleasesRobustly never
never_does r k e = absurd (let z : ◌≡◌ {A = ℕ} 0 1 = cc in omega arith)

robustly : Robustly
robustly =
    record {
      never_does = never_does;
      always_does_not = λ a. a letting refl refl 1 (lit< tt) steers_one;
      by_task_alone = λ a w h. a letting refl refl 6 (lit< tt) (w, inr h);
      over_itself = itself Both always;
      over_wrapped = λ b. wrapped Both b (bounded Releases b (robust Both always)) (wrapped Releases b (robust Both always) (itself Both always));
      over_elsewhere = elsewhere never never_does;
      over_law = λ law. law (robust Both always) (itself Both always);
    }

pub keys : Keys
keys = record { answering = answering; put = put; stated = stated; limited = limited; lawful = lawful; robustly = robustly }
