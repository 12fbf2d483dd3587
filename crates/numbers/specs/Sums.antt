-- Finite sums over the integers.
use Rattle.std.specs.Prelude.{List, ℕ, zero, suc, ◌+◌, ◌-◌, ℤ, pos, ◌+ℤ◌, get_or}

-- f 0 + … + f (n - 1)
unfoldable pub sum_to : ℕ → (ℕ → ℤ) → ℤ
sum_to zero f = pos 0
sum_to (suc n) f = sum_to n f +ℤ f n

-- |a - b|
abbrev pub apart : ℕ → ℕ → ℕ
apart a b = (a - b) + (b - a)

-- what stands at i, and 0 past the end
abbrev pub at0 : List ℤ → ℕ → ℤ
at0 l i = get_or l i (pos 0)
