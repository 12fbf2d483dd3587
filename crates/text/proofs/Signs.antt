-- A number's sign and size: its text by them.
use Rattle.std.proofs.Common.{◌≡◌, refl, true, false, true≢false, ◌∷◌, suc, ◌<◌, ◌≤◌, arith, ℤ, pos, negsuc, nat_abs, length, w64, SFits, to_z, of_z, to_z-of_z}
use Rattle.std.proofs.Common.{ltb-true}
use lib.Signed.{mag, lt_z}
use Rattle.text.specs.Text.{decimal, signed_decimal}
use Rattle.text.proofs.Numerals.{places}

with_minus : (z : ℤ) → lt_z z (pos 0) ≡ true → signed_decimal z ≡ 45 ∷ decimal (nat_abs z)
unfolding signed_decimal
with_minus (pos n) e = absurd (omega (arith, ltb-true n 0 e))
with_minus (negsuc n) e = refl

without : (z : ℤ) → lt_z z (pos 0) ≡ false → signed_decimal z ≡ decimal (nat_abs z)
unfolding signed_decimal
without (pos n) e = refl
without (negsuc n) e = absurd (true≢false e)

-- an i32 has at most eleven characters
pub short : (z : ℤ) → mag z < 2147483648 → length (signed_decimal z) ≤ 11
unfolding signed_decimal
short (pos n) h = omega (arith, places 9 n (omega arith))
short (negsuc n) h = omega (arith, places 9 (suc n) (omega arith))

module _ (z : ℤ) (f : SFits w64 z) where
  abbrev v : ℤ
  v = to_z w64 (of_z w64 z)

  pub minus_text : lt_z v (pos 0) ≡ true → signed_decimal z ≡ 45 ∷ decimal (nat_abs v)
  minus_text e = rw (to_z-of_z f) (with_minus z (rw (to_z-of_z f) at e))

  pub plain_text : lt_z v (pos 0) ≡ false → signed_decimal z ≡ decimal (nat_abs v)
  plain_text e = rw (to_z-of_z f) (without z (rw (to_z-of_z f) at e))
