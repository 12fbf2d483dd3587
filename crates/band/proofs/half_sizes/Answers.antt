use Rattle.std.proofs.Common.{refl}
use Rattle.numbers.specs.Lists.{tabulate}
use Rattle.reference.specs.Taps.{HB}
use Rattle.filters.specs.inner.Filters.{odd_taps}
use Rattle.band.specs.inner.Bands.{odd_sizes}
use Rattle.band.proofs.half_sizes.Goals as goal

pub returns : goal.returns
unfolding HB odd_taps tabulate odd_sizes
returns c = refl
