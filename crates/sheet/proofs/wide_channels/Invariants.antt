use Rattle.std.proofs.Common.{◌≡◌}
use Rattle.columns.specs.Columns.{too_wide}
use Rattle.sheet.specs.Sheet.{channel_line, some_below}
use Rattle.sheet.proofs.wide_channels.Given as goal

-- whether a number of a channel so far is
abbrev pub invariant-loop-c : goal.invariant-loop-c
invariant-loop-c l = l.found ≡ some_below (λ c. too_wide (channel_line l.stats c)) l.c
