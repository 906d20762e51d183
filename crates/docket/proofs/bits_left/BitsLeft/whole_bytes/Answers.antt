use Rattle.std.proofs.Common.{length, ap, arith}
use Rattle.docket.proofs.Held.{length_left}
use Rattle.docket.proofs.bits_left.BitsLeft.whole_bytes.Goals as goal

pub returns : goal.returns
returns c = let l = c.self.inside in omega (arith, ap length c.self.view_is, length_left l.count l.held l.bytes.now)
