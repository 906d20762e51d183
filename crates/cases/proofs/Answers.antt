use Rattle.std.proofs.Common.{refl}
use Rattle.std.specs.Fmt.{digits}
use Rattle.cases.specs.Answers.{Answers}

pub answers : Answers
unfolding digits
answers =
    record {
      texts = refl;
      numbered_figure = refl;
      numbered = refl;
      says_nothing = refl;
      says_figure = refl;
      says_refused = refl;
      says_group = refl;
      question = refl;
      no_question = refl;
      group = refl;
      no_group = refl;
      figure_is_no_group = refl;
    }
