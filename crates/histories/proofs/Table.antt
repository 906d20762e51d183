-- All rows hold.
use Rattle.histories.specs.Table.{Worked}
use Rattle.histories.proofs.Calls.{calls}
use Rattle.histories.proofs.Kept.{kept}
use Rattle.histories.proofs.Promised.{promised}
use Rattle.histories.proofs.Words.{words}
use Rattle.histories.proofs.Lines.{lines, read}
use Rattle.histories.proofs.Dockets.{dockets}
use Rattle.histories.proofs.Filed.{filed}

pub worked : Worked
worked =
    record { calls = calls; kept = kept; promised = promised; words = words; lines = lines; read = read; dockets = dockets; filed = filed }
