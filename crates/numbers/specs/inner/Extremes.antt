-- The least and the greatest of numbers of which there may be none, or marked ones.
use Rattle.std.specs.Prelude.{Bool, true, false, ℕ, zero, suc, ℤ, pos}
use Rattle.numbers.specs.Extremes.{extreme}

-- and 0 of no numbers
unfoldable pub extreme0 : (ℤ → ℤ → ℤ) → (ℕ → ℤ) → ℕ → ℕ → ℤ
extreme0 pick f a zero = pos 0
extreme0 pick f a (suc n) = extreme pick f a (suc n)

-- what is picked of two numbers, of which a marked one does not count; 0 where both are marked
unfoldable pub pick_unmarked : (ℤ → ℤ → ℤ) → Bool → ℤ → Bool → ℤ → ℤ
pick_unmarked pick true x true y = pos 0
pick_unmarked pick true x false y = y
pick_unmarked pick false x true y = x
pick_unmarked pick false x false y = pick x y
