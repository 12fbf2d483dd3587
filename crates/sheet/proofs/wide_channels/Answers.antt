use Rattle.std.proofs.Common.{refl, sym, arith, ◌∙◌}
use Rattle.reference.specs.Statistics.{no_samples, channel_of}
use Rattle.sheet.specs.Sheet.{some_below}
use Rattle.sheet.proofs.Widths.{channel_wide, found_before, found_here}
use Rattle.sheet.proofs.wide_channels.Goals as goal
use Rattle.sheet.proofs.wide_channels.Goals.{then-found, else-found}

pub loop-c-init : goal.loop-c-init
unfolding some_below
loop-c-init c = refl

pub loop-c-preserved : goal.loop-c-preserved
unfolding channel_of no_samples
loop-c-preserved c =
    let l = c.loop-c in
    elim c.if-found.branch [
      | then-found w ↦ w.found-is ∙ w.if-found.true ∙ found_before _ l.c (sym l.invariant ∙ w.if-found.true)
      | else-found w ↦ w.found-is ∙ found_here _ l.c (sym l.invariant ∙ w.if-found.false) (w.wide_channel-found.ensures ∙ sym (channel_wide c.args.stats l.c (omega arith)))
    ]
