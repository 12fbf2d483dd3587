-- `before_clamp`: the number goes through a float unchanged.
use Rattle.std.proofs.Common.{◌<◌, ◌^◌, arith, nat_abs, to_z-of_z}
use lib.Signed.{nat_abs-le}
use Rattle.numbers.proofs.Machine.{wide_is}
use Rattle.gain.proofs.Scaling.{unrounded_reach, unrounded_is, scaled_back, scaled_fits}
use Rattle.gain.proofs.scale.before_clamp.Goals as goal

pub nearest_even-z-requires : goal.nearest_even-z-requires
nearest_even-z-requires c =
    let s = c.args in
    let small : nat_abs s.y < 2 ^ 32 = omega (arith, nat_abs-le s.y c.ranges.y.sfits) in
    rw (c.product-x.ensures, wide_is s.y c.ranges.y.sfits) (unrounded_reach s.y s.factor small c.requires)

pub float_to_int-result : goal.float_to_int-result
float_to_int-result c =
    let s = c.args in
    let small : nat_abs s.y < 2 ^ 32 = omega (arith, nat_abs-le s.y c.ranges.y.sfits) in
    rw (c.nearest_even-z.ensures, c.product-x.ensures, wide_is s.y c.ranges.y.sfits, unrounded_is s.y s.factor small c.requires) (scaled_back s.y s.factor small c.requires).0

pub returns : goal.returns
returns c =
    let s = c.args in
    let small : nat_abs s.y < 2 ^ 32 = omega (arith, nat_abs-le s.y c.ranges.y.sfits) in
    rw (c.nearest_even-z.ensures, c.product-x.ensures, wide_is s.y c.ranges.y.sfits, unrounded_is s.y s.factor small c.requires, (scaled_back s.y s.factor small c.requires).1)
    (to_z-of_z (scaled_fits s.y s.factor small c.requires))
