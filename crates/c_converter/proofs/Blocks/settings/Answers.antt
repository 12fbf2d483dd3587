use Rattle.std.proofs.Common.{refl, sym, ◌∙◌}
use Rattle.codes.specs.inner.Codes.{if_known}
use Rattle.codes.proofs.Known.{some_known}
use Rattle.c_converter.specs.Blocks.{settings_of}
use Rattle.c_converter.proofs.Blocks.settings.Goals as goal

pub returns : goal.returns
unfolding if_known settings_of
returns c =
    let rate = some_known _ _ _ (sym c.rate_of.ensures ∙ c.in_ok-rate_of.was) in
    let cutoff = some_known _ _ _ (sym c.cutoff_of.ensures ∙ c.in_ok-cutoff_of.was) in
    let channels = some_known _ _ _ (sym c.channels_of.ensures ∙ c.in_ok-channels_of.was) in
    let own = some_known _ _ _ (sym c.flag_of.ensures ∙ c.in_ok-flag_of.was) in
    rw (rate.0, cutoff.0, channels.0, own.0, c.gain_of.ensures, c.then_some.ensures, ← rate.1, ← cutoff.1, ← channels.1, ← own.1) refl
