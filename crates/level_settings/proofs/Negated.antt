-- -n of an n that is small, at 32 bits.
use Rattle.std.proofs.Common.{◌≡◌, ◌∙◌, ℕ, ◌<◌, pos, neg_ℤ, ◌-ℤ◌, w32, SFits, to_z, of_z, to_z-of_z}
use lib.IntN.{+ℤ_idl}
use mir.Facts.{to_z_pos}
use Rattle.numbers.proofs.Integers.{sfits_abs, abs_neg}

module _ (n : ℕ) (h : n < 2147483648) where
  negated : pos 0 -ℤ to_z w32 n ≡ neg_ℤ (pos n)
  negated = rw (to_z_pos w32 h) (+ℤ_idl (neg_ℤ (pos n)))

  pub negated_fits : SFits w32 (pos 0 -ℤ to_z w32 n)
  negated_fits = rw negated (sfits_abs (rw (abs_neg (pos n)) h))

  pub negated_is : to_z w32 (of_z w32 (pos 0 -ℤ to_z w32 n)) ≡ neg_ℤ (pos n)
  negated_is = to_z-of_z negated_fits ∙ negated
