use Rattle.std.proofs.Common.{arith, refl, sym, ◌∙◌}
use Rattle.reference.specs.Statistics.{no_samples, channel_of}
use Rattle.text.specs.Text.{joined}
use Rattle.numbers.specs.Lists.{tabulate}
use Rattle.sheet.specs.Sheet.{channel_line}
use Rattle.sheet.proofs.Widths.{channel_wide, none_of}
use Rattle.sheet.proofs.Lines.{nothing, more}
use Rattle.sheet.proofs.put_channels.Goals as goal

pub loop-c-init : goal.loop-c-init
unfolding tabulate joined
loop-c-init c = (omega arith, nothing)

pub put_channel-requires : goal.put_channel-requires
unfolding channel_of no_samples
put_channel-requires c = (
  omega arith,
  sym (channel_wide c.args.stats c.loop-c.c (omega arith)) ∙ none_of _ c.args.channels c.loop-c.c c.requires.1 (omega arith),
  omega (arith, c.loop-c.invariant.0, c.loop-c.invariant.1.same_length),
)

pub loop-c-preserved : goal.loop-c-preserved
unfolding channel_line channel_of no_samples
loop-c-preserved c = (omega (arith, c.loop-c.invariant.0, c.put_channel.ensures.value), more _ c.loop-c.c c.loop-c.invariant.1 c.put_channel.ensures.printed refl)
