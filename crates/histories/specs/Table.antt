-- All rows.
use Rattle.histories.specs.Calls.{Calls}
use Rattle.histories.specs.Kept.{Kept}
use Rattle.histories.specs.Promised.{Promised}
use Rattle.histories.specs.Words.{Words}
use Rattle.histories.specs.Lines.{Lines, Read}
use Rattle.histories.specs.Dockets.{Dockets}
use Rattle.histories.specs.Filed.{Filed}

pub record Worked : Type 0 where
  pub calls : Calls
  pub kept : Kept
  pub promised : Promised
  pub words : Words
  pub lines : Lines
  pub read : Read
  pub dockets : Dockets
  pub filed : Filed
