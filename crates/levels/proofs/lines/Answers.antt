use Rattle.std.proofs.Common.{arith, ap, slice_index_or}
use Rattle.numbers.specs.Lists.{tabulate}
use Rattle.reference.specs.Statistics.{no_samples, channel_of}
use Rattle.text.specs.Text.{joined}
use Rattle.level_lines.specs.Lines.{level_line}
use Rattle.text.proofs.Printing.{none_printed, more}
use Rattle.overs.specs.Overs.{none}
use Rattle.channel_levels.specs.inner.Channels.{level_of}
use Rattle.levels.proofs.States.{states_none, states_more}
use Rattle.levels.proofs.lines.Goals as goal

pub loop-c-init : goal.loop-c-init
unfolding tabulate joined
loop-c-init c = (omega arith, states_none c.args.samples.now c.args.ch c.args.states, none_printed c.args.out.now)

pub loop-c-preserved : goal.loop-c-preserved
unfolding channel_of no_samples
loop-c-preserved c =
    let l = c.loop-c in
    let a = c.args in (
      omega (arith, c.level_line-at.ensures.upper_bound),
      rw l.invariant.1 (states_more a.samples.now a.ch a.states l.c (omega arith) c.level-next.ensures.next_value),
      more (λ c. level_line a.number c (level_of (channel_of a.stats c).clipped a.samples.now a.ch c (slice_index_or a.states c none)))
          l.c l.invariant.2 c.level_line-at.ensures.printed (ap (level_line a.number l.c) c.level-next.ensures.level_value),
    )
