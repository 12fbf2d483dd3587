use Rattle.std.proofs.Common.{sym, ◌∙◌}
use Rattle.sheet.specs.Sheet.{sheet_too_wide}
use Rattle.sheet.proofs.Widths.{sum_small, sum_wide}
use Rattle.sheet.proofs.wide.Goals as goal

pub clips-requires : goal.clips-requires
clips-requires c = (c.requires, sum_small c.args.stats c.args.channels c.requires (sym c.wide_channels.ensures ∙ c.if-wide_channels.false))

pub returns-then-wide_channels : goal.returns-then-wide_channels
unfolding sheet_too_wide
returns-then-wide_channels c =
    let e = sym c.wide_channels.ensures ∙ c.if-wide_channels.true in
    rw (e, c.if-wide_channels.true)

pub returns-else-wide_channels : goal.returns-else-wide_channels
unfolding sheet_too_wide
returns-else-wide_channels c =
    let e = sym c.wide_channels.ensures ∙ c.if-wide_channels.false in
    rw (e, sum_wide, ← c.clips.ensures, ← c.digits.ensures.0)
