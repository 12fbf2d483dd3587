-- How the sums are made. A copy of the block has every value biased by 2^29, so that the machine multiplies numbers
-- that are not negative.
use Rattle.std.specs.Prelude.{◌≡◌, List, ℕ, ◌^◌, ◌≤◌, ◌<◌, ℤ, pos, nat_abs, ◌+ℤ◌, ◌-ℤ◌}
use Rattle.numbers.specs.Sums.{at0}
use Rattle.reference.specs.Rounding.{R}
use Rattle.lanes.specs.inner.Lanes.{copied, Low}

-- value k of x, biased
unfoldable pub biased : List ℤ → ℕ → ℤ
biased x k = at0 x k +ℤ pos (2 ^ 29)

-- v begins with the first n values of x, each biased
pub record Copied (n : ℕ) (x : List ℤ) (v : List ℕ) : Type 0 where
  pub is : (k : ℕ) → k < n → copied v k ≡ biased x k
  pub low : Low v

-- of the first n sums none is negative, or over 2^54
pub record Sums (n : ℕ) (s : List ℤ) : Type 0 where
  pub is : (l : ℕ) → l < n → at0 s l ≡ pos (nat_abs (at0 s l))
  pub size : (l : ℕ) → l < n → nat_abs (at0 s l) ≤ 2 ^ 54

-- sum l, the bias of 2^53 taken away, rounded
unfoldable pub rounded : ℕ → List ℤ → ℕ → ℤ
rounded q s l = R (at0 s l -ℤ pos (2 ^ 53)) q
