-- The line's entries, one after another.
use Rattle.std.proofs.Common.{arith, ap, length}
use Rattle.text.specs.Text.{joined, text}
use Rattle.text.proofs.Numerals.{one_digit}
use Rattle.text.proofs.Writing.{both}
use Rattle.columns.specs.Columns.{line}
use Rattle.sheet.specs.Sheet.{channel_cells}
use Rattle.sheet.proofs.Widths.{clips_fit, lowest_fits, highest_fits}
use Rattle.sheet.proofs.Lines as lines
use Rattle.sheet.proofs.put_channel.Goals as goal

pub put_number-requires : goal.put_number-requires
put_number-requires c = (omega (arith, ap length (one_digit c.args.c (omega arith))), omega arith)

pub put_number-requires-2 : goal.put_number-requires-2
put_number-requires-2 c = (clips_fit c.args.channel c.requires.1, omega (arith, c.put_number.ensures.value, c.put_number.ensures.printed.same_length))

pub put_level-requires : goal.put_level-requires
put_level-requires c = (
  rw c.lowest.ensures (lowest_fits c.args.channel c.requires.1),
  omega (arith, c.put_number.ensures.value, c.put_number-2.ensures.value, c.put_number.ensures.printed.same_length, c.put_number-2.ensures.printed.same_length),
)

pub put_level-requires-2 : goal.put_level-requires-2
put_level-requires-2 c = (
  rw c.highest.ensures (highest_fits c.args.channel c.requires.1),
  omega (
    arith,
    c.put_number.ensures.value,
    c.put_number-2.ensures.value,
    c.put_level.ensures.value,
    c.put_number.ensures.printed.same_length,
    c.put_number-2.ensures.printed.same_length,
    c.put_level.ensures.printed.same_length,
  ),
)

pub returns-clause-printed : goal.returns-clause-printed
unfolding line channel_cells joined text
returns-clause-printed c =
    let low = rw c.lowest.ensures at c.put_level.ensures.printed in
    let high = rw c.highest.ensures at c.put_level-2.ensures.printed in
    lines.line _ (both c.put_number.ensures.printed (both c.put_number-2.ensures.printed (both low (both high c.put.ensures))))
