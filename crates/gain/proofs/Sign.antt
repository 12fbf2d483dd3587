-- A float against 0.0, by its sign and its significand.
use Rattle.std.proofs.Common.{◌≡◌, ℕ, suc, ◌+◌, ◌*◌, ◌<◌, zero-le, zero-mul, mul-one, mul-pos, zero-lt-suc, arith, true, false, lt-ltb, le-ltb, ℤ, pos, Float}
use lib.Ieee.{fin, up, down, lt}
use lib.Ieee.Fits.{up_pos}

abbrev pub nought : Float
nought = fin false 0 (pos 0)

pub plus_not_below : (m : ℕ) (e : ℤ) → lt (fin false m e) nought ≡ false
unfolding lt
plus_not_below m e = rw (zero-mul (down e)) (le-ltb (m * up e * 1) 0 zero-le)

more : (m : ℕ) (e : ℤ) → 0 < suc m * up e * 1
more m e = rw mul-one (mul-pos (zero-lt-suc m) (up_pos e))

pub minus_below : (m : ℕ) (e : ℤ) → lt (fin true (suc m) e) nought ≡ true
unfolding lt
minus_below m e = lt-ltb 0 (suc m * up e * 1 + 0 * down e) (omega (arith, more m e))

pub nought_not_below : (e : ℤ) → lt (fin true 0 e) nought ≡ false
unfolding lt
nought_not_below e = simp zero-mul
