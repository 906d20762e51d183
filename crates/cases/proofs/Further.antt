use Rattle.cases.specs.Further.{Further}
use Rattle.cases.proofs.Answers.{answers}
use Rattle.cases.proofs.Clauses.{clauses}
use Rattle.cases.proofs.Formulas.{formulas}
use Rattle.cases.proofs.Labels.{labels}
use Rattle.cases.proofs.Keys.{keys}
use Rattle.cases.proofs.Models.{models}
use Rattle.cases.proofs.Everyone.{everyone}

pub further : Further
further =
    record {
      answers = answers;
      clauses = clauses;
      formulas = formulas;
      labels = labels;
      keys = keys;
      models = models;
      everyone = everyone;
    }
