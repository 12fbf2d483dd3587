-- The gain's factor, and module 6, scaling. Each operation of a float rounds once, as IEEE 754 binary64 has it.
use Rattle.std.specs.Prelude.{ℕ, zero, suc, ◌*◌, Bool, false, cond, ◌&&◌, ◌||◌, eqb, ℤ, pos, negsuc, neg_ℤ, Float}
use Rattle.std.specs.Float.{nan, inf, fin, binary64}
use Rattle.std.specs.Float.Ieee.{up, down, add, mul, div, lt, le, of_int, of_bits, to_bits}
use Rattle.std.specs.Float.Ieee.Nearest.{closest}
use Rattle.std.specs.Int.Signed.{lt_z}
use Rattle.reference.specs.declared.Gain.{Gain}

-- ---- the factor: `db_to_linear`, e^(|dB| × ln 10 / 20), and one over that below 0 dB

-- the binary64 of a small whole number
abbrev pub whole : ℕ → Float
whole n = of_int binary64 (pos n)

-- the binary64 nearest 2.30258509299404568401799145468436421
unfoldable pub LN_10 : Float
LN_10 = of_bits binary64 0x4002_6bb1_bbb5_5516

-- |db|: the sign is cleared, that of -0 too
unfoldable pub magnitude : Float → Float
magnitude nan = nan
magnitude (inf s) = inf false
magnitude (fin s m e) = fin false m e

-- r, the exponent over 32: |db| × (ln 10 / 20) / 32
unfoldable pub exponent : Float → Float
exponent db = div binary64 (mul binary64 (magnitude db) (div binary64 LN_10 (whole 20))) (whole 32)

-- n terms more of the series of e^r, the first over k: a term is the one before it times r, over k
unfoldable pub series : Float → ℕ → ℕ → Float → Float → Float
series r zero k term sum = sum
series r (suc n) k term sum =
    let next = div binary64 (mul binary64 term r) (whole k) in
    series r n (suc k) next (add binary64 sum next)

-- squared n times
unfoldable pub squared : ℕ → Float → Float
squared zero a = a
squared (suc n) a = squared n (mul binary64 a a)

unfoldable pub db_to_linear : Float → Float
db_to_linear db =
    let e = squared 5 (series (exponent db) 25 1 (whole 1) (whole 1)) in
    cond (lt db (whole 0)) (div binary64 (whole 1) e) e

-- -120..24; a NaN and the infinities are outside
unfoldable pub allowed : Float → Bool
allowed db = le (of_int binary64 (negsuc 119)) db && le db (whole 24)

-- the decibels are allowed, and the factor's bits are those that they give
unfoldable pub right_gain : Gain → Bool
right_gain g = allowed g.db && eqb (to_bits binary64 g.linear) (to_bits binary64 (db_to_linear g.db))

-- ---- scaling

-- the whole number nearest an eighth of a finite float, ties to even. `closest a b` is that of a / b, 2^e up e / down e
unfoldable pub eighth : Float → ℤ
eighth nan = pos 0
eighth (inf s) = pos 0
eighth (fin s m e) =
    let a = closest (m * up e) (down e * 8) in
    cond s (neg_ℤ (pos a)) (pos a)

-- the number before the clamp
unfoldable pub scaled : Float → ℤ → ℤ
scaled factor y = eighth (mul binary64 (of_int binary64 y) factor)

-- into -8,388,608..8,388,607
unfoldable pub clamp : ℤ → ℤ
clamp z = cond (lt_z (pos 8388607) z) (pos 8388607) (cond (lt_z z (negsuc 8388607)) (negsuc 8388607) z)

-- whether the clamp changes z
unfoldable pub clips : ℤ → Bool
clips z = lt_z (clamp z) z || lt_z z (clamp z)
