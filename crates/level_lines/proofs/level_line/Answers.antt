-- `level_line` is its texts, one after another.
use Rattle.std.proofs.Common.{rules, ◌≡◌, w32, to_z, of_z}
use Rattle.text.specs.Text.{text, joined}
use Rattle.level_lines.specs.Lines.{level_line}
use Rattle.text.proofs.Printing.{line}
use Rattle.text.proofs.Writing.{both, ended}
use Rattle.level_lines.proofs.level_line.Goals as goal

pub returns-clause-printed : goal.returns-clause-printed
unfolding level_line joined text
returns-clause-printed c =
    let low : to_z w32 (of_z w32 c.args.level.low) ≡ c.args.level.low = search rules in
    let high : to_z w32 (of_z w32 c.args.level.high) ≡ c.args.level.high = search rules in
    let low_is = rw low at c.labelled_signed.ensures.printed in
    let high_is = rw high at c.labelled_signed-2.ensures.printed in
    ended (search rules)
    (line _
    (both c.labelled.ensures.printed
    (both c.labelled-2.ensures.printed
    (both c.labelled-3.ensures.printed
    (both low_is
    (both high_is
    (both c.labelled-4.ensures.printed c.put.ensures)))))).printed)
