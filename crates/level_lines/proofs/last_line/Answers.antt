-- `last_line` is its texts, one after another.
use Rattle.std.proofs.Common.{rules}
use Rattle.text.specs.Text.{text, joined}
use Rattle.level_lines.specs.Lines.{last_line}
use Rattle.text.proofs.Printing.{line}
use Rattle.text.proofs.Writing.{both, ended}
use Rattle.level_lines.proofs.last_line.Goals as goal

pub returns-clause-printed : goal.returns-clause-printed
unfolding last_line joined text
returns-clause-printed c = ended (search rules) (line _ (both c.labelled.ensures.printed (both c.labelled-2.ensures.printed c.put.ensures)).printed)
