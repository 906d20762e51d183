-- The rows of the docket hold.
use Rattle.std.proofs.Common.{ℕ, ◌<◌, List, [], ◌∷◌, get_or, refl, ap, arith, lit<, lit≤}
use mathlib.Core.Bool.{false≢true}
use Rattle.std.specs.Fmt.{digits}
use Rattle.answer.specs.Told.{refused}
use Rattle.docket.specs.Reading.{Standing, entry, over, refusal}
use Rattle.docket.specs.Laws.{Bytes, Carried, Stood}
use Rattle.histories.specs.Dockets.{granting, steered, five, Written, Readings, Whole, Dockets}
use Rattle.histories.proofs.Apart.{differ}

-- what tells readings apart
abbrev place_in : Standing → ℕ
place_in (entry e next) = next
place_in over = 0
place_in (refusal q) = 0

abbrev standing_is : Standing → ℕ
standing_is (entry e next) = 0
standing_is over = 1
standing_is (refusal q) = 2

carried : Carried granting
carried = record { fields = refl; form = refl; groups = tt; clauses = (lit< tt, tt) }

small_bytes : Bytes (33 ∷ 98 ∷ 0 ∷ 6 ∷ [])
small_bytes = (lit< tt, (lit< tt, (lit< tt, (lit< tt, tt))))

stood : Stood (9 ∷ 33 ∷ 98 ∷ 0 ∷ 6 ∷ 7 ∷ []) 1 granting 5
stood = record { carried = carried; ends = refl; inside = lit≤ tt; same = refl }

written : Written
unfolding digits
written =
    record {
      entry_bytes_row = refl;
      sizes = refl;
      carried = refl;
      last_task = refl;
      no_task = refl;
      no_record = refl;
      no_answer = refl;
      three_bits = refl;
      low_bits = refl;
      two_bytes = refl;
      their_number = refl;
      packed_again = refl;
      packed_first = refl;
      word_bits = refl;
      granted_size = refl;
      refused_size = refl;
      granted_bits = refl;
      refused_bits = refl;
      formula_bits_row = refl;
      packs = refl;
      packs_none = refl;
      printed = refl;
      release_bit = refl;
      endorse_bit = refl;
      release_text = refl;
      endorse_text = refl;
      writes = refl;
      no_room = refl;
      not_carried = refl;
      bytes_written = refl;
      none_written = refl;
      none_carried = refl;
      just_room = refl;
      short_room = refl;
      reads_back = refl;
      reads_otherwise = λ e. differ {m = 4} {n = 5} refl (ap place_in e);
      refused_reads = tt;
    }

readings : Readings
readings =
    record {
      readings = refl;
      question_number = refl;
      found = λ f. refl;
      found_over = refl;
      unread = refl;
      reading_entry = λ e. refl;
      reading_none = refl;
      plain_kind = λ e. refl;
      plain_task = λ e. refl;
      plain_record = λ e. refl;
      plain_answer = λ e. refl;
      plain_new = λ e. refl;
    }

whole : Whole
whole =
    record {
      bytes = (lit< tt, tt);
      no_byte = λ b. let z : 256 < 256 = b.0 in omega arith;
      sets = (lit< tt, tt);
      no_set = λ b. let z : 65536 < 65536 = b.0 in omega arith;
      values_granted = refl;
      values_refused = refl;
      carried = carried;
      fields_not = λ c. false≢true c.fields;
      form_not = λ c. false≢true c.form;
      groups_not = λ c. let z : 65536 < 65536 = c.groups.0 in omega arith;
      clauses_not = λ c. let z : 65536 < 65536 = c.clauses.0 in omega arith;
      stood = stood;
      ends_elsewhere = λ s. differ {m = 6} {n = 5} refl s.ends;
      other_bytes = λ s. differ {m = 8} {n = 6} refl (ap (λ (bs : List ℕ). get_or bs 3 0) s.same);
      docket_bytes_row = refl;
      docket_size_row = refl;
      reads_on = (refl, (refl, refl));
      reads_less = λ r. differ {m = 0} {n = 1} refl (ap standing_is r.1);
      reads_other = λ r. differ {m = 4} {n = 5} refl (ap place_in r.0);
      written_all_row = refl;
      was_written = stood;
      was_over = refl;
      was_not_over = differ {m = 0} {n = 1} refl;
      was_refused = tt;
      law_bits = λ law. (law.bytes_are_bits granting).0;
      law_length = λ law. (law.bytes_are_bits steered).1;
      law_answer = λ law. law.answers_sized (refused 16 (1 ∷ []));
      law_longest = λ law e c. (law.bytes_are_bits e).2 c;
      law_reads = λ law. law.reads_back granting (9 ∷ []) (7 ∷ []) carried;
      law_stood = λ law. law.read_was_written (33 ∷ 98 ∷ 0 ∷ 6 ∷ []) 0 granting 4 small_bytes refl;
      law_apart = λ law e c p. law.told_apart e granting c carried p;
      law_docket = λ law. law.docket_reads_back (granting ∷ []) (9 ∷ []) (carried, tt);
      law_docket_carried = λ law. (law.docket_was_written (33 ∷ 98 ∷ 0 ∷ 6 ∷ []) 0 (granting ∷ []) small_bytes (refl, refl)).0;
      law_docket_bytes = λ law es r. (law.docket_was_written (33 ∷ []) 0 es (lit< tt, tt) r).1;
      law_written = λ law. (law.written_reads_back (granting ∷ []) 1 (8 ∷ five) (carried, tt) (lit≤ tt)).0;
      law_written_reads = λ law. (law.written_reads_back (granting ∷ []) 1 (8 ∷ five) (carried, tt) (lit≤ tt)).1;
      law_missing = λ law. (law.missing (33 ∷ []) 0 (lit< tt)).0;
      law_more_matters = λ law more h. (law.missing (33 ∷ []) 0 (lit< tt)).1 (more, h);
    }

pub dockets : Dockets
dockets = record { written = written; readings = readings; whole = whole }
