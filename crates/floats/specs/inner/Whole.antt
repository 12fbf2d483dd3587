-- The whole number nearest a float.
use Rattle.std.specs.Prelude.{ℕ, ◌*◌, ◌^◌, Bool, false, cond, ℤ, pos, neg_ℤ, ltb, Float}
use Rattle.std.specs.Float.{nan, inf, fin}
use Rattle.std.specs.Float.Ieee.{up, down}
use Rattle.std.specs.Float.Ieee.Nearest.{closest}

-- n with a sign, true being minus
abbrev pub signed : Bool → ℕ → ℤ
signed s n = cond s (neg_ℤ (pos n)) (pos n)

-- the whole number nearest x / k, ties to even: `closest a b` is a / b so rounded, and 2^e is up e / down e
unfoldable pub whole_over : ℕ → Float → ℤ
whole_over k nan = pos 0
whole_over k (inf s) = pos 0
whole_over k (fin s m e) = signed s (closest (m * up e) (down e * k))

abbrev pub whole_of : Float → ℤ
whole_of x = whole_over 1 x

-- finite and below 2^51 in size
abbrev pub below_51 : Float → Bool
below_51 nan = false
below_51 (inf s) = false
below_51 (fin s m e) = ltb (m * up e) (2 ^ 51 * down e)
