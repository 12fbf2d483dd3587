-- What the steps of reading the first line promise.
use Rattle.std.specs.Prelude.{◌≡◌, List, ℕ, ◌≤◌, ℤ, pos, negsuc, Option, Some, ◌≤ℤ◌}
use Rattle.text.specs.Text.{decimal, signed_decimal}

-- the number that a text is, if it is 1 or 2
pub record ChannelsRead (t : List ℕ) (r : Option ℕ) : Type 0 where
  pub takes : (n : ℕ) → 1 ≤ n → n ≤ 2 → t ≡ decimal n → r ≡ Some n
  pub takes_only : (n : ℕ) → r ≡ Some n → (1 ≤ n) × (n ≤ 2) × (t ≡ decimal n)

-- the whole decibels, -120 to 24, that a text is, if it is some
pub record DecibelsRead (t : List ℕ) (r : Option ℤ) : Type 0 where
  pub takes : (z : ℤ) → negsuc 119 ≤ℤ z → z ≤ℤ pos 24 → t ≡ signed_decimal z → r ≡ Some z
  pub takes_only : (z : ℤ) → r ≡ Some z → (negsuc 119 ≤ℤ z) × (z ≤ℤ pos 24) × (t ≡ signed_decimal z)
