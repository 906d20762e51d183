-- The rows of the label model hold.
use Rattle.std.proofs.Common.{ℕ, ◌<◌, List, [], refl, inl, inr, arith, lit<}
use Rattle.clause.specs.Meaning.{Implies}
use Rattle.key.specs.declared.mode.Mode.TheVariants.{Releases, Endorsements, Both}
use Rattle.model.specs.Privileges.{robustly, boundedly}
use Rattle.cases.specs.Table.{label, release, one, two, four, one_two}
use Rattle.cases.specs.Keys.{always}
use Rattle.cases.specs.Models.{showing, limits, Lattices, Privileges, Attackers, Models}
use Rattle.cases.proofs.Apart.{differ}

lattices : Lattices
lattices =
    record {
      meeting = refl;
      product_sight = λ law a b f. ((law.product a b).0 f).0;
      product_hand = λ law a b f. ((law.product a b).0 f).1;
      product_flows = λ law a b s h. (law.product a b).1 (s, h);
      to_itself = λ law. law.order.reflexive;
      same_sight = λ law a b f g. (law.same a b f g).0;
      same_hand = λ law a b f g. (law.same a b f g).1;
      joins = λ law. law.joins.left;
      meets_left = λ law. law.meets.left;
      meets_right = λ law. law.meets.right;
      meets_greatest = λ law. law.meets.greatest;
    }

privileges : Privileges
privileges =
    record {
      flows_with = λ g h p. (λ s. (p.0, s), λ m. m);
      flows_without = λ f. ((f 2 (lit< tt) tt).0 (differ refl, tt)).0 refl;
      hands_without = λ f. ((f 2 (lit< tt) (differ refl, tt)).1 (differ refl, tt)).0 refl;
      new_label_row = refl;
      plain_flows = λ law. (law one showing).0;
      flow_grants = λ law. (law one showing).1;
      below_high = λ law e. ((law Both limits always showing).0 e).2;
      above_low = λ law e. ((law Both limits always showing).0 e).3;
      key_below = λ law k e. ((law Both limits k showing).0 e).0;
      mode_covers = λ law e. ((law Endorsements limits always showing).0 e).1;
      bounds_grant = λ law h l. (law Both limits always showing).1 (refl, refl, h, l);
      wraps_robustly = λ k r. refl;
      wraps_boundedly = λ k r. refl;
      upper_grants = λ law e. ((law (robustly Both) (boundedly Releases limits) always showing).0 e).0;
      lower_grants = λ law e. ((law (robustly Both) (boundedly Releases limits) always showing).0 e).1;
      both_grant = λ law v w. (law (robustly Both) (boundedly Releases limits) always showing).1 (v, w);
      twice = λ law k. law Both k showing;
    }

itself : (a : List ℕ) → Implies a a
itself a g h m = m

-- 0002 alone is no 0001
two_not_one : Implies two one → ⊥
two_not_one i = (i 2 (lit< tt) (differ refl, tt)).0 refl

two_not_both : Implies two one_two → ⊥
two_not_both i = (i 2 (lit< tt) (differ refl, tt)).0 refl

attackers : Attackers
attackers =
    record {
      by_task = record { parties = (lit< tt, tt); gains = ((itself two, two_not_both), inr (itself two)) };
      by_record = record { parties = (lit< tt, tt); gains = ((itself two, two_not_both), inl (itself two)) };
      without_hand = λ a. elim a.gains.1 [ inl i ↦ two_not_one i | inr i ↦ two_not_one i ];
      saw_before = λ a. a.gains.0.1 (itself two);
      sees_not = λ a. two_not_one a.gains.0.0;
      endorses = record { parties = (lit< tt, tt); gains = ((itself two, itself two), two_not_one) };
      not_in_task = λ a. two_not_one a.gains.0.0;
      not_in_record = λ a. two_not_one a.gains.0.1;
      keeps_hand = λ a. a.gains.1 (itself two);
      beyond_parties = λ a. let h : 65536 < 65536 = a.parties.0 in omega arith;
      attacker_is_group = λ law r a t. (law r).0 (a, t);
      group_is_attacker = λ law r g h s. (law r).1 (g, h, s);
      checked = (λ g h n t. (n.0, t), λ g h n t. (n.0, t));
      task_unchecked = λ c. (c.0 1 (lit< tt) (differ refl, tt) tt).1.0 refl;
      record_unchecked = λ c. (c.1 1 (lit< tt) (differ refl, tt) tt).1.0 refl;
      endorsement_checked = λ g h t o. (t.0, o);
      task_let_off = λ c. (c 2 (lit< tt) tt (differ refl, tt)).0 refl;
      record_let_off = λ c. (c 1 (lit< tt) (differ refl, tt) tt).1.0 refl;
      checks_keep_out = λ law. (law (release (label one_two two) one (label [] two))).0 (λ g h n t. (n.0, t), λ g h n t. (n.0, t));
      checks_needed = λ law r. (law r).1;
      privileged = inl (differ refl, tt);
      handed_record = inr (inl (differ refl, tt));
      handed_task = inr (inr (differ refl, tt));
      handed_nothing = λ w. elim w [ inl m ↦ m.0 refl | inr v ↦ elim v [ inl m ↦ m.0 refl | inr m ↦ m.0 refl ] ];
      endorse_privileged = inl (differ refl, tt);
      endorse_task = inr (differ refl, tt);
      endorse_record = λ w. elim w [ inl m ↦ m.0 refl | inr m ↦ m.0 refl ];
      release_weakened = refl;
      endorse_weakened = refl;
      weakened_exists = λ law. law one (release (label [] two) [] (label [] four));
      robust_is_weaker = λ law weak m. (law Both one weak showing refl m).0;
      weaker_is_robust = λ law weak m. (law Both one weak showing refl m).1;
    }

pub models : Models
models = record { lattices = lattices; privileges = privileges; attackers = attackers }
