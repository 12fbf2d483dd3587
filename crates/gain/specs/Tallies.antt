-- What a stretch of samples tells beside them.
use Rattle.std.specs.Prelude.{ℕ, ℤ}
use Rattle.numbers.specs.Lists.{count}
use Rattle.reference.specs.Scaling.{clips}
use Rattle.reference.specs.Statistics.{extremes_of}
use Rattle.reference.specs.declared.ChannelStats.{ChannelStats}

-- of the numbers before the clamp f a, …, f (a + n - 1)
unfoldable pub tally : (ℕ → ℤ) → ℕ → ℕ → ChannelStats
tally f a n = record { clipped = count (λ k. clips (f k)) a n; extremes = extremes_of f a n }
