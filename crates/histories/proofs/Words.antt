-- The rows of words hold.
use Rattle.std.proofs.Common.{ℕ, zero, suc, ◌<◌, List, length, get_or, codes, refl, ap, arith, lit<}
use Rattle.words.specs.Parted.{Without}
use Rattle.histories.specs.Words.{Words}
use Rattle.histories.proofs.Apart.{differ}

-- the letter a is no space
no_space : Without 32 (codes "a")
no_space zero h e = differ {m = 97} {n = 32} refl e
no_space (suc k) h e = let z : suc k < 1 = h in omega arith

pub words : Words
words =
    record {
      hex_digits_row = refl;
      decimal_digits = refl;
      four = refl;
      decimals = refl;
      formula_words = refl;
      mode_words = refl;
      words = refl;
      first_byte = refl;
      only_byte = refl;
      one_word = refl;
      together = refl;
      together_one = refl;
      together_none = refl;
      without = no_space;
      not_without = λ w. w 1 (lit< tt) refl;
      cut = (refl, no_space);
      cut_late = λ c. c.1 1 (lit< tt) refl;
      cut_last = (refl, no_space);
      cut_short = λ c. differ {m = 1} {n = 2} refl (ap length c.0);
      cut_other = λ c. differ {m = 98} {n = 99} refl (ap (λ (bs : List ℕ). get_or bs 2 0) c.0);
      cut_long = λ c. c.1 1 (lit< tt) refl;
      all_without = (no_space, (no_space, tt));
      last_with = λ w. w.1.0 0 (lit< tt) refl;
      first_with = λ w. w.0 0 (lit< tt) refl;
      parts_join = λ law. (law 32 (codes "ab  c")).0;
      parts_without = λ law. (law 32 (codes "ab  c")).1;
      all_hex = refl;
      none_hex = refl;
      or_none_row = refl;
      or_none_none = refl;
      is_some_row = refl;
      is_none = refl;
      writes_truth = refl;
      stands = refl;
      writes_clauses = refl;
      writes_in = refl;
      writes_in_none = refl;
    }
