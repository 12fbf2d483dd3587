-- The scaling of one number.
use Rattle.std.specs.Prelude.{◌≡◌, Bool, ℤ, Float}
use Rattle.std.specs.Float.{binary64}
use Rattle.std.specs.Float.Ieee.{mul, of_int, of_bits}
use Rattle.reference.specs.Scaling.{clamp, clips}

-- y times the factor, and an eighth of that: each product rounded once
unfoldable pub unrounded : Float → ℤ → Float
unrounded factor y = mul binary64 (mul binary64 (of_int binary64 y) factor) (of_bits binary64 0x3fc0_0000_0000_0000)

-- the sample of a number z before the clamp, and whether it is clipped
pub record Clamped (z sample : ℤ) (clipped : Bool) : Type 0 where
  pub is_sample : sample ≡ clamp z
  pub is_clipped : clipped ≡ clips z
