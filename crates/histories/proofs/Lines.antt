-- The rows of lines hold.
use Rattle.std.proofs.Common.{◌≡◌, ℕ, true, false, cond, eqb, List, [], ◌∷◌, map, length, get_or, Some, None, codes, Option, sym, refl, ap, ◌∙◌, ap₂, true≢false}
use Rattle.std.specs.Fmt.{digits}
use Rattle.answer.specs.Told.{Told, granted, refused}
use Rattle.clause.specs.Groups.{least}
use Rattle.key.specs.declared.mode.Mode.{Mode}
use Rattle.key.specs.declared.mode.Mode.TheVariants.{Releases, Endorsements, Both}
use Rattle.key.specs.Meanings.{plain, robust, bounded}
use Rattle.key.specs.Requests.{Limits, limits}
use Rattle.rules.specs.State.{blank}
use Rattle.rules.specs.Step.{Ruled, done}
use Rattle.rules.specs.Runs.{is_granted}
use Rattle.lines.specs.Forms.{Form, closes, plains}
use Rattle.histories.specs.Short.{one}
use Rattle.histories.specs.Lines.{followed, day, above, read_limits, Lines, Read}
use Rattle.histories.proofs.Apart.{differ}

abbrev is_form : Option Form → ℕ
is_form None = 0
is_form (Some c) = 1

-- nothing is not something
no_form : {c : Form} → None ≡ Some c → ⊥
no_form e = differ {m = 0} {n = 1} refl (ap is_form e)

some_form : {c : Form} → Some c ≡ None → ⊥
some_form e = differ {m = 1} {n = 0} refl (ap is_form e)

-- each history by itself, as all groups are gone through for each of its keys
day_follows : followed (done blank) (map (λ row. row.0) day) ≡ codes "ok" ∷ map (λ row. row.1) day
unfolding least digits
day_follows = refl

above_follows : followed (done blank) (map (λ row. row.0) above) ≡ codes "ok" ∷ map (λ row. row.1) above
unfolding least digits
above_follows = refl

pub lines : Lines
unfolding least digits
lines =
    record {
      day = day_follows;
      above = above_follows;
      refusals = refl;
      forms = refl;
      longest_length = refl;
      longest_form = refl;
      too_long = refl;
      no_values = refl;
      one_value = refl;
      left_words = refl;
      left_none = refl;
      took = (refl, refl);
      took_other = λ t. differ {m = 49} {n = 50} refl (ap (λ (w : List ℕ). get_or w 0 0) t.0);
      took_all = λ t. differ {m = 0} {n = 1} refl (ap (λ (ws : List (List ℕ)). length ws) t.1);
      took_none = refl;
      took_from_none = λ t. t;
      took_nothing = λ t. t;
      left_some = λ t. differ {m = 1} {n = 0} refl (ap (λ (ws : List (List ℕ)). length ws) t);
      taken = λ next. refl;
      taken_other = λ t. some_form (t (λ n ws. cond (eqb n 254) None (Some (closes 2))));
      taken_none = λ next. refl;
      not_taken = λ t. some_form (t (λ n ws. Some (closes n)));
      ended = λ c. refl;
      not_ended = λ c. refl;
      ended_early = λ e. no_form (e (closes 2));
      ended_late = λ e. some_form (e (closes 2));
      plain_said = refl;
      robust_said = refl;
      bounded_said = refl;
      bounded_robust_said = refl;
      enter_said = refl;
      open_said = refl;
      close_said = refl;
      take_said = refl;
      put_said = refl;
      drop_said = refl;
      show_said = refl;
      release_said = refl;
      endorse_said = refl;
      said = refl;
      said_none = refl;
      pair_puts = refl;
      pair_none = refl;
      robust_none = refl;
      bounded_none = refl;
      changes_release = refl;
      changes_endorse = refl;
      change_release = refl;
      change_endorse = refl;
      label_taken = λ next. refl;
      label_not_taken = λ next. refl;
      label_taken_late = λ t. no_form (t (λ a b ws. Some (closes 2)));
      label_missed = λ t. some_form (t (λ a b ws. Some (closes 2)));
      bounds_taken = λ k next. refl;
      bounds_not_taken = λ k next. refl;
      bounds_taken_late = λ t. no_form (t (plains one) (λ k ws. Some (closes 2)));
      bounds_missed = λ t. some_form (t (plains one) (λ k ws. Some (closes 2)));
      key_taken = λ next. refl;
      key_not_taken = λ next. refl;
      key_taken_late = λ t. no_form (t (λ k ws. Some (closes 2)));
      key_missed = λ t. some_form (t (λ k ws. Some (closes 2)));
    }

-- what is read, told as an answer
abbrev tell : List ℕ → Ruled
tell cs = record { state = blank; answer = granted cs }

abbrev mode_number : Mode → ℕ
mode_number Releases = 0
mode_number Endorsements = 2
mode_number Both = 1

abbrev first_of : Told → ℕ
first_of (granted vs) = get_or vs 0 0
first_of (refused q vs) = 0

abbrev first_in : Ruled → ℕ
first_in r = first_of r.answer

-- a grant is no refusal
no_refusal : {a b : Ruled} → is_granted a.answer ≡ true → is_granted b.answer ≡ false → a ≡ b → ⊥
no_refusal p q e = true≢false (sym p ∙ ap (λ (r : Ruled). is_granted r.answer) e ∙ q)

pub read : Read
read =
    record {
      refused_so = λ t. refl;
      label_read = λ l p q t next. ap₂ next (sym p) (sym q);
      label_misread = λ l p q w. differ {m = 1} {n = 2} refl (ap first_in (w blank (λ a b. tell a)) ∙ ap (λ (cs : List ℕ). get_or cs 0 0) p);
      label_refused = λ t next. refl;
      label_refused_first = λ t next. refl;
      label_refused_not = λ w. no_refusal refl refl (w blank (λ a b. tell a));
      bounding_words = λ t. refl;
      bounds_read = λ b e t next. ap next (sym e);
      bounds_misread = λ b e w. differ {m = 1} {n = 3} refl (ap first_in (w blank read_limits) ∙ ap (λ (x : Limits). first_in (read_limits x)) e);
      bounds_refused_not = λ w. no_refusal refl refl (w blank read_limits);
      bounded_read = λ k m e. (refl, m, λ t next. ap next (sym e));
      bounded_misread = λ k m w. differ {m = 0} {n = 1} refl (ap mode_number (sym m ∙ w.1));
      bounded_refused_not = λ k w. no_refusal refl refl (w blank read_limits);
      key_read = λ k e t next. ap (λ (cs : List ℕ). next (plain cs)) (sym e);
      key_refused = λ t next. refl;
      key_refused_not = λ w. no_refusal refl refl (w blank (λ m. tell []));
      plain_meant = λ k e. ap plain e;
      robust_meant = λ k e. ap (λ (cs : List ℕ). robust k.mode (plain cs)) e;
      bounded_meant = λ k e. ap (λ (cs : List ℕ). bounded k.mode (limits k.bounds) (plain cs)) e;
      bounded_robust_meant = λ k e. ap (λ (cs : List ℕ). bounded k.mode (limits k.bounds) (robust k.below.mode (plain cs))) e;
    }
