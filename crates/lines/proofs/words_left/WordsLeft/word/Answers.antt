use Rattle.std.proofs.Common.{ap, sym, ◌∙◌}
use Rattle.lines.specs.Rest.{left_of}
use Rattle.lines.proofs.Taking.{took}
use Rattle.lines.proofs.words_left.WordsLeft.word.Goals as goal

pub returns : goal.returns
returns c = took _ _ c.cut.result.0 c.cut.result.1 (sym c.self.view_is ∙ ap left_of c.in_ok-self.was) c.cut.ensures.parts
