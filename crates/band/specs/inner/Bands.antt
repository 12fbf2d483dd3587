-- The half band: its taps by sign and size, and its sums.
use Rattle.std.specs.Prelude.{◌≡◌, List, map, Bool, cond, ℕ, ◌+◌, ◌-◌, ◌^◌, ◌≤◌, ◌<◌, ℤ, pos, neg_ℤ, nat_abs, ◌+ℤ◌, ◌*ℤ◌}
use Rattle.reference.specs.Taps.{HB}
use Rattle.lanes.specs.inner.Lanes.{copied, arms}
use Rattle.filters.specs.inner.Filters.{odd_taps}
use Rattle.filters.specs.inner.Biases.{biased}

-- the sizes of the half band's odd taps
unfoldable pub odd_sizes : List ℕ
odd_sizes = map nat_abs (odd_taps HB)

-- a tap of this size, or minus it
unfoldable pub signed : Bool → ℕ → ℤ
signed minus n = cond minus (neg_ℤ (pos n)) (pos n)

-- the half band's sum at place k: the centre over y, the odd taps over the copy
unfoldable pub band_sum : List ℤ → List ℕ → ℕ → ℤ
band_sum y v k = pos 8388608 *ℤ biased y k +ℤ arms (odd_taps HB) (copied v) 0 (8 + k - 1) (8 + k) 8

-- of the sums from place i to n - 1 none is negative, or over 2^54
pub record Whole (S : ℕ → ℤ) (i n : ℕ) : Type 0 where
  pub is : (k : ℕ) → i ≤ k → k < n → S k ≡ pos (nat_abs (S k))
  pub size : (k : ℕ) → i ≤ k → k < n → nat_abs (S k) ≤ 2 ^ 54
