-- What the tables give over a window of bytes.
use Rattle.std.specs.Prelude.{List, ℕ, ◌+◌, ◌*◌, ◌^◌, ◌≤◌, ℤ, nat_abs, get_or}
use Rattle.numbers.specs.Sums.{sum_to, at0}

-- no entry is over 2^27 in size, so that a sum of twelve has room in an i32
abbrev pub SmallEntries : List ℤ → Type 0
SmallEntries tables = (k : ℕ) → nat_abs (at0 tables k) ≤ 2 ^ 27

-- one table for each of the 2 × half bytes from `at` on
unfoldable pub window_sum : List ℤ → ℕ → List ℕ → ℕ → ℤ
window_sum tables half bytes at = sum_to (2 * half) (λ j. at0 tables (256 * j + get_or bytes (at + j) 0))
