-- The rows of the other files.
use Rattle.cases.specs.Answers.{Answers}
use Rattle.cases.specs.Clauses.{Clauses}
use Rattle.cases.specs.Formulas.{Formulas}
use Rattle.cases.specs.Labels.{Labels}
use Rattle.cases.specs.Keys.{Keys}
use Rattle.cases.specs.Models.{Models}
use Rattle.cases.specs.Everyone.{Everyone}

pub record Further : Type 0 where
  pub answers : Answers
  pub clauses : Clauses
  pub formulas : Formulas
  pub labels : Labels
  pub keys : Keys
  pub models : Models
  pub everyone : Everyone
