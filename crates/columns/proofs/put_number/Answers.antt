-- `put_number`: as many blanks as are left, and the digits.
use Rattle.columns.proofs.Widths.{in_column}
use Rattle.columns.proofs.put_number.Goals as goal

pub returns-clause-printed : goal.returns-clause-printed
returns-clause-printed c = in_column c.digits.ensures.0 c.requires.0 c.put_blanks.ensures c.decimal.ensures
