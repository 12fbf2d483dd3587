-- The lesser and the greater of two whole numbers, and the least and the greatest of many.
use Rattle.std.specs.Prelude.{cond, ℕ, zero, suc, ◌+◌, ℤ}
use Rattle.std.specs.Int.Signed.{lt_z}

unfoldable pub lesser : ℤ → ℤ → ℤ
lesser x y = cond (lt_z y x) y x

unfoldable pub greater : ℤ → ℤ → ℤ
greater x y = cond (lt_z x y) y x

-- what is picked of `start`, f a, …, f (a + n - 1) in turn: the least by `lesser`, the greatest by `greater`
unfoldable pub picked : (ℤ → ℤ → ℤ) → ℤ → (ℕ → ℤ) → ℕ → ℕ → ℤ
picked pick start f a zero = start
picked pick start f a (suc n) = pick (picked pick start f a n) (f (a + n))

-- what is picked of f a, …, f (a + n - 1); of no numbers, f a
abbrev pub extreme : (ℤ → ℤ → ℤ) → (ℕ → ℤ) → ℕ → ℕ → ℤ
extreme pick f a n = picked pick (f a) f a n
