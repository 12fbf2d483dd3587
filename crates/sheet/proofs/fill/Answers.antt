-- The channels' lines and the last line fill the list.
use Rattle.std.proofs.Common.{rules, arith}
use Rattle.text.proofs.Printing.{filled}
use Rattle.text.proofs.Writing.{both, ended}
use Rattle.sheet.specs.Sheet.{sheet}
use Rattle.sheet.specs.Promises.{sheet_length}
use Rattle.sheet.proofs.Widths.{channels_fit, sum_fits, sum_small}
use Rattle.sheet.proofs.fill.Goals as goal

pub returns : goal.returns
unfolding sheet sheet_length
returns c =
    let sum = rw c.clips.ensures at c.put_sum.ensures.printed in
    let all = ended (search rules) (both c.put_channels.ensures.printed sum).printed in
    filled all (omega (arith, all.after, c.put_channels.ensures.value, c.put_sum.ensures.value))

pub put_channels-requires : goal.put_channels-requires
unfolding sheet_length
put_channels-requires c = (c.requires.0, channels_fit c.args.channels c.args.stats c.requires.1, omega arith)

pub clips-requires : goal.clips-requires
clips-requires c = (c.requires.0, sum_small c.args.stats c.args.channels c.requires.0 (channels_fit c.args.channels c.args.stats c.requires.1))

pub put_sum-requires : goal.put_sum-requires
unfolding sheet_length
put_sum-requires c = (
  rw c.clips.ensures (sum_fits c.args.channels c.args.stats c.requires.1),
  omega (arith, c.put_channels.ensures.value, c.put_channels.ensures.printed.same_length),
)
