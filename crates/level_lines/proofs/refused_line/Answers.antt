-- `refused_line` is its texts, one after another.
use Rattle.std.proofs.Common.{rules}
use Rattle.text.specs.Text.{text, joined}
use Rattle.level_lines.specs.Lines.{refused_line}
use Rattle.text.proofs.Printing.{line}
use Rattle.text.proofs.Writing.{both, ended}
use Rattle.level_lines.proofs.refused_line.Goals as goal

pub returns-clause-printed : goal.returns-clause-printed
unfolding refused_line joined text
returns-clause-printed c = ended (search rules) (line _ (both c.labelled.ensures.printed c.put.ensures).printed)
