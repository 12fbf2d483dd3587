use Rattle.std.proofs.Common.{◌≡◌, ◌*◌, ◌≤◌, slice_index_or}
use Rattle.numbers.specs.Lists.{tabulate}
use Rattle.reference.specs.Statistics.{channel_of}
use Rattle.text.specs.Text.{joined, Printed}
use Rattle.level_lines.specs.Lines.{level_line}
use Rattle.overs.specs.Overs.{none}
use Rattle.channel_levels.specs.inner.Channels.{level_of}
use Rattle.levels.specs.Levels.{states_after}
use Rattle.levels.proofs.lines.Given as goal

abbrev pub invariant-loop-c : goal.invariant-loop-c
invariant-loop-c l =
    (l.at ≤ 144 * l.c) × (l.after ≡ states_after l.samples l.ch l.c l.states)
    × Printed (joined (tabulate (λ c. level_line l.number c (level_of (channel_of l.stats c).clipped l.samples l.ch c (slice_index_or l.states c none))) 0 l.c)) l.initial.out 0 l.out l.at
