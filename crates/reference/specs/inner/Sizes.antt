-- The sizes of a filter's taps.
use Rattle.std.specs.Prelude.{List, ℕ, ◌+◌, ℤ, nat_abs}
use Rattle.numbers.specs.Sums.{apart}
use Rattle.numbers.specs.Lists.{total}
use Rattle.reference.specs.Stages.{tap, M}

-- the sizes of the taps added up, over |t| ≤ M: the centre once, the rest twice
unfoldable pub absolute_sum : List ℤ → ℕ
absolute_sum h = total (λ k. nat_abs (tap h (apart k (M h)))) 0 (M h + M h + 1)
