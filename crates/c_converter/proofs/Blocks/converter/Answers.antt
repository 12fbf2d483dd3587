use Rattle.std.proofs.Common.{refl, sym, ◌∙◌}
use Rattle.codes.specs.inner.Codes.{if_known}
use Rattle.codes.proofs.Known.{some_known}
use Rattle.c_converter.specs.Blocks.{held_converter}
use Rattle.c_converter.proofs.Blocks.converter.Goals as goal

pub returns : goal.returns
unfolding if_known held_converter
returns c =
    let s = some_known _ _ _ (sym c.settings.ensures ∙ c.in_ok-s.was) in
    rw (s.0, c.filter.ensures, ← s.1) refl
