use Rattle.std.proofs.Common.{◌≡◌, ◌+◌, ◌*◌}
use Rattle.numbers.specs.Lists.{tabulate}
use Rattle.text.specs.Text.{joined}
use Rattle.text.specs.inner.Writing.{Prints}
use Rattle.columns.specs.Columns.{line}
use Rattle.sheet.specs.Sheet.{channel_line}
use Rattle.sheet.proofs.put_channels.Given as goal

abbrev pub invariant-loop-c : goal.invariant-loop-c
invariant-loop-c l = (l.text.at ≡ l.initial.text.at + 43 * l.c) × Prints (joined (tabulate (λ c. line (channel_line l.stats c)) 0 l.c)) l.initial.text l.text
