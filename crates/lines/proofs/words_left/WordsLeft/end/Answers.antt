use Rattle.std.proofs.Common.{ap, sym, ◌∙◌}
use Rattle.lines.specs.Forms.{ends}
use Rattle.lines.specs.Rest.{left_of}
use Rattle.lines.proofs.Taking.{ends_more}
use Rattle.lines.proofs.words_left.WordsLeft.end.Goals as goal

pub returns-in-Some : goal.returns-in-Some
returns-in-Some c = λ d. ap (ends d) (sym c.self.view_is ∙ ap left_of c.in-Some.is) ∙ ends_more d 32 c.in-Some.field-0.now
