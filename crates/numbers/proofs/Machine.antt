-- One operation of an i64 on values that fit, over ℤ, by the sizes. `t z` is z, read back from its bits, as a local
-- holds it.
use Rattle.std.proofs.Common.{◌≡◌, ◌∙◌, ◌<◌, ◌^◌, ℤ, w32, w64, SFits, to_z, of_z, to_z-of_z}
use mir.Facts.{sfits_widen}
use lib.Signed.{mag}

abbrev pub t : ℤ → ℤ
t z = to_z w64 (of_z w64 z)

-- an i32 as an i64
module _ (z : ℤ) (m : mag z < 2 ^ 31) where
  narrow : SFits w32 z
  narrow = record { sfits = m }

  pub wide_fits : SFits w64 (to_z w32 (of_z w32 z))
  wide_fits = rw (to_z-of_z narrow) (sfits_widen tt narrow)

  pub wide_is : to_z w64 (of_z w64 (to_z w32 (of_z w32 z))) ≡ z
  wide_is = to_z-of_z wide_fits ∙ to_z-of_z narrow

-- a call's result, as a local holds it: the value that the callee ensures, with that value's size
pub val : (r v : ℤ) → mag r < 2 ^ 63 → r ≡ v → t r ≡ v
val r v m e = to_z-of_z {w = w64} (record { sfits = m }) ∙ e
