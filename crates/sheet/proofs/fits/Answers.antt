use Rattle.std.proofs.Common.{sym, ◌∙◌}
use Rattle.sheet.specs.Promises.{sheet_length}
use Rattle.sheet.proofs.Places.{wrong_channels, wrong_length, too_wide, all_right}
use Rattle.sheet.proofs.fits.Goals as goal

pub returns-then-channels-lt1 : goal.returns-then-channels-lt1
returns-then-channels-lt1 c = wrong_channels _ _ _ c.then-channels-lt1.either

pub returns-then-n-expected : goal.returns-then-n-expected
unfolding sheet_length
returns-then-n-expected c = wrong_length _ _ _ c.if-channels-lt1.false c.if-channels-gt6.false c.if-n-expected.true

pub returns-then-wide : goal.returns-then-wide
unfolding sheet_length
returns-then-wide c = too_wide _ _ _ c.if-channels-lt1.false c.if-channels-gt6.false c.if-n-expected.false (sym c.wide.ensures ∙ c.if-wide.true)

pub returns : goal.returns
unfolding sheet_length
returns c = all_right _ _ _ c.if-channels-lt1.false c.if-channels-gt6.false c.if-n-expected.false (sym c.wide.ensures ∙ c.if-wide.false)
