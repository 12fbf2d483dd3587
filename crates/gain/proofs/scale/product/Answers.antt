-- `product`: below 2^32, so as a float it is what it is.
use Rattle.std.proofs.Common.{refl, w64}
use mir.ValLaws.{to_z-of_z}
use Rattle.gain.specs.inner.Scale.{unrounded}
use Rattle.gain.proofs.scale.product.Goals as goal

pub returns : goal.returns
unfolding unrounded
returns c = rw (to_z-of_z w64 c.args.y c.ranges.y) refl
