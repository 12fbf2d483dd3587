-- The scaling of a y below 2^32 in size by a bounded factor, and the clamp of the result.
use Rattle.std.proofs.Common.{◌≡◌, refl, sym, ◌∙◌, ℕ, zero, suc, ◌*◌, ◌^◌, ◌≤◌, ◌<◌, le_trans, le_of_eq, le_of_lt, mul-one, mul-le-mul_right, mul-le-mul}
use Rattle.std.proofs.Common.{mul-pos, arith, Bool, true, false, cond, ltb-false, ℤ, pos, negsuc, neg_ℤ, nat_abs, T, ltb, leb, leb→le, lit≤, lit<, Float, w32}
use Rattle.std.proofs.Common.{w64, SFits}
use native.Mathlib.Nat.{mul-mul-mul_comm}
use lib.Signed.{lt_z}
use lib.Ieee.{nan, inf, fin, binary64, up, down, mul, of_int, of_bits, to_signed, in_signed, round, unlike}
use lib.Ieee.Fits.{and_r, down_pos, mul-fits}
use lib.Ieee.Exact.{HasValue}
use lib.Ieee.Nearest.{closest, closest_mono}
use lib.Ieee.Back.{round_whole}
use Rattle.numbers.proofs.Integers.{sfits_abs}
use Rattle.reference.specs.Scaling.{eighth, scaled, clamp}
use Rattle.floats.specs.inner.Whole.{whole_over, whole_of, below_51}
use Rattle.floats.proofs.Bound.{AtMost, round_at_most}
use Rattle.floats.proofs.Eighth.{an_eighth, eighth_is, eighth_below}
use Rattle.floats.proofs.Middle.{cast_is, nearest_is}
use Rattle.gain.specs.Scale.{bounded}
use Rattle.gain.specs.inner.Scale.{unrounded}

-- ---- the product

-- n × factor, n being the size of x
product : (s : Bool) (n : ℕ) (x factor : Float) → n ≤ 2 ^ 32 → HasValue x s n 1 → T (bounded factor) → AtMost (mul binary64 x factor) (2 ^ 36) 1
unfolding mul bounded
product s n nan factor N v b = absurd v
product s n (inf t) factor N v b = absurd v
product s n (fin t m e) nan N v b = absurd b
product s n (fin t m e) (inf u) N v b = absurd b
product s n (fin t m e) (fin true k d) N v b = absurd b
product s n (fin t m e) (fin false k d) N v b =
    round_at_most binary64 (unlike t false) (m * up e * (k * up d)) (down e * down d) (2 ^ 36) 1 (mul-pos (down_pos e) (down_pos d)) (lit< tt)
    (le_trans (le_of_eq (mul-one (m * up e * (k * up d))))
    (le_trans (mul-le-mul (le_of_eq (sym (mul-one (m * up e)) ∙ v.1)) (leb→le (k * up d) (16 * down d) (and_r (ltb 0 k) (leb (k * up d) (16 * down d)) b)))
    (le_trans (le_of_eq (mul-mul-mul_comm n (down e) 16 (down d))) (mul-le-mul_right (down e * down d) (mul-le-mul_right 16 N)))))
    (round_whole binary64 false (2 ^ 36) (lit≤ tt))

pub product_at_most : (y : ℤ) (factor : Float) → nat_abs y < 2 ^ 32 → T (bounded factor) → AtMost (mul binary64 (of_int binary64 y) factor) (2 ^ 36) 1
unfolding of_int
product_at_most (pos n) factor h b = product false n (round binary64 false n 1) factor (le_of_lt h) (round_whole binary64 false n (le_trans (le_of_lt h) (lit≤ tt))) b
product_at_most (negsuc n) factor h b = product true (suc n) (round binary64 true (suc n) 1) factor (le_of_lt h) (round_whole binary64 true (suc n) (le_trans (le_of_lt h) (lit≤ tt))) b

-- ---- its eighth
over_8 : (p : Float) → whole_over 8 p ≡ eighth p
unfolding whole_over eighth
over_8 nan = refl
over_8 (inf s) = refl
over_8 (fin s m e) = refl

small_eighth : (p : Float) → AtMost p (2 ^ 36) 1 → nat_abs (eighth p) ≤ 2 ^ 33
unfolding eighth
small_eighth nan a = absurd a
small_eighth (inf s) a = absurd a
small_eighth (fin s m e) a = go s (closest (m * up e) (down e * 8)) (closest_mono (m * up e) (down e * 8) (2 ^ 36) 8 (omega (arith, down_pos e)) (lit< tt) (omega (arith, a)))
  where
    go : (s : Bool) (n : ℕ) → n ≤ 2 ^ 33 → nat_abs (cond s (neg_ℤ (pos n)) (pos n)) ≤ 2 ^ 33
    go true zero h = h
    go true (suc n) h = h
    go false n h = h

module _ (y : ℤ) (factor : Float) (small : nat_abs y < 2 ^ 32) (held : T (bounded factor)) where
  pub in_reach : T (below_51 (mul binary64 (mul binary64 (of_int binary64 y) factor) an_eighth))
  in_reach = eighth_below (mul binary64 (of_int binary64 y) factor) (product_at_most y factor small held)

  pub scaled_is : whole_of (mul binary64 (mul binary64 (of_int binary64 y) factor) an_eighth) ≡ scaled factor y
  unfolding scaled
  scaled_is =
      let p = mul binary64 (of_int binary64 y) factor in
      eighth_is p (2 ^ 36) (mul-fits binary64 (of_int binary64 y) factor) (product_at_most y factor small held) ∙ over_8 p

  pub unrounded_reach : T (below_51 (unrounded factor y))
  unfolding unrounded of_bits
  unrounded_reach = in_reach

  pub unrounded_is : whole_of (unrounded factor y) ≡ scaled factor y
  unfolding unrounded of_bits
  unrounded_is = scaled_is

  -- the float that holds it, as a whole number again
  pub scaled_back : T (in_signed binary64 63 (of_int binary64 (scaled factor y))) × (to_signed 63 (of_int binary64 (scaled factor y)) ≡ scaled factor y)
  scaled_back =
      let x = mul binary64 (mul binary64 (of_int binary64 y) factor) an_eighth in
      rw (nearest_is x in_reach, scaled_is) at (cast_is x in_reach)

  -- its size
  pub scaled_small : nat_abs (scaled factor y) ≤ 2 ^ 33
  unfolding scaled
  scaled_small = small_eighth (mul binary64 (of_int binary64 y) factor) (product_at_most y factor small held)

  pub scaled_fits : SFits w64 (scaled factor y)
  scaled_fits = sfits_abs (omega (arith, scaled_small))

-- ---- the clamp
small_fits : (z : ℤ) → lt_z (pos 8388607) z ≡ false → lt_z z (negsuc 8388607) ≡ false → SFits w32 z
small_fits (pos n) h k = record { sfits = omega (arith, ltb-false 8388607 n h) }
small_fits (negsuc n) h k = record { sfits = omega (arith, ltb-false 8388607 n k) }

pub clamp_fits : (z : ℤ) → SFits w32 (clamp z)
unfolding clamp
clamp_fits z = go (lt_z (pos 8388607) z) (lt_z z (negsuc 8388607)) refl refl
  where
    go : (a b : Bool) → lt_z (pos 8388607) z ≡ a → lt_z z (negsuc 8388607) ≡ b → SFits w32 (cond a (pos 8388607) (cond b (negsuc 8388607) z))
    go true b h k = record { sfits = lit< tt }
    go false true h k = record { sfits = lit< tt }
    go false false h k = small_fits z h k
