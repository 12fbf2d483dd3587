-- A signal in two parts.
use Rattle.std.specs.Prelude.{cond, List, ℕ, ◌+◌, ◌*◌, ◌/◌, ◌%◌, eqb, ℤ}
use Rattle.numbers.specs.Sums.{at0}

-- the values of a signal at even places, and at odd ones
abbrev pub evens : (ℕ → ℤ) → ℕ → ℤ
evens s k = s (2 * k)

abbrev pub odds : (ℕ → ℤ) → ℕ → ℤ
odds s k = s (2 * k + 1)

-- two arrays in turn
unfoldable pub interleaved : List ℤ → List ℤ → ℕ → ℤ
interleaved even odd k = cond (eqb (k % 2) 0) (at0 even (k / 2)) (at0 odd (k / 2))
