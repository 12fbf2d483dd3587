use Rattle.std.proofs.Common.{◌*◌, ◌^◌, pos, ◌-ℤ◌}
use Rattle.numbers.specs.inner.Lists.{Written}
use Rattle.reference.specs.Rounding.{R}
use Rattle.band.specs.inner.Bands.{band_sum}
use Rattle.band.proofs.places.Given as goal

abbrev pub invariant-loop-b : goal.invariant-loop-b
invariant-loop-b g l = Written (pos 0) (λ k. k) (λ k. R (band_sum l.fn.y l.band.v.now k -ℤ pos (2 ^ 53)) g.row.Q) (14 * l.b) l.fn.y l.y

abbrev pub invariant-loop-k : goal.invariant-loop-k
invariant-loop-k g l = Written (pos 0) (λ k. k) (λ k. R (band_sum l.fn.y l.band.v.now k -ℤ pos (2 ^ 53)) g.row.Q) l.k l.fn.y l.y
