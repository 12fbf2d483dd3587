-- The line's entries, one after another.
use Rattle.text.specs.Text.{joined, text}
use Rattle.text.proofs.Writing.{both}
use Rattle.columns.specs.Columns.{line}
use Rattle.sheet.specs.Sheet.{sum_line}
use Rattle.sheet.proofs.Lines as lines
use Rattle.sheet.proofs.Lines.{blank}
use Rattle.sheet.proofs.put_sum.Goals as goal

pub returns-clause-printed : goal.returns-clause-printed
unfolding line sum_line joined text
returns-clause-printed c =
    lines.line _ (both (blank 4 c.put_blanks.ensures) (both c.put_number.ensures.printed (both (blank 24 c.put_blanks-2.ensures) c.put.ensures)))
