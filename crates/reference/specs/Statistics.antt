-- Statistics of samples and of no samples, and of stretches taken as one.
use Rattle.std.specs.Prelude.{Option, Some, None, List, [], ◌∷◌, ℕ, zero, suc, ◌+◌, ◌-◌, ◌^◌, min, ℤ, get_or, replicate}
use Rattle.numbers.specs.Extremes.{lesser, greater, extreme}
use Rattle.numbers.specs.Lists.{tabulate, total}
use Rattle.reference.specs.declared.ConvertStats.{ConvertStats}
use Rattle.reference.specs.declared.ChannelStats.{ChannelStats}
use Rattle.reference.specs.declared.Extremes.{Extremes}

-- ---- of one channel

-- the least and the greatest of f a, …, f (a + n - 1), where there are any
unfoldable pub extremes_of : (ℕ → ℤ) → ℕ → ℕ → Option Extremes
extremes_of f a zero = None
extremes_of f a (suc n) = Some (record { lowest = extreme lesser f a (suc n); highest = extreme greater f a (suc n) })

-- of no samples
unfoldable pub no_samples : ChannelStats
no_samples = record { clipped = 0; extremes = None }

-- a clip count that does not fit 64 bits is held at the greatest that does
unfoldable pub add_clips : ℕ → ℕ → ℕ
add_clips a b = min (a + b) (2 ^ 64 - 1)

-- the least and the greatest of two stretches, as far as they have samples
unfoldable pub joined_extremes : Option Extremes → Option Extremes → Option Extremes
joined_extremes None b = b
joined_extremes (Some x) None = Some x
joined_extremes (Some x) (Some y) = Some (record { lowest = lesser x.lowest y.lowest; highest = greater x.highest y.highest })

-- two stretches taken as one
unfoldable pub joined_channel : ChannelStats → ChannelStats → ChannelStats
joined_channel a b = record { clipped = add_clips a.clipped b.clipped; extremes = joined_extremes a.extremes b.extremes }

-- ---- of all channels

-- no samples in any channel
unfoldable pub no_stats : ConvertStats
no_stats = record { channels = replicate 6 no_samples }

-- what is told of channel c
unfoldable pub channel_of : ConvertStats → ℕ → ChannelStats
channel_of s c = get_or s.channels c no_samples

-- clips over the first n channels
unfoldable pub clip_sum : ConvertStats → ℕ → ℕ
clip_sum s n = total (λ c. (channel_of s c).clipped) 0 n

-- two stretches taken as one, channel by channel
unfoldable pub joined_stats : ConvertStats → ConvertStats → ConvertStats
joined_stats a b = record { channels = tabulate (λ c. joined_channel (channel_of a c) (channel_of b c)) 0 6 }

-- many stretches
unfoldable pub all_joined : List ConvertStats → ConvertStats
all_joined [] = no_stats
all_joined (s ∷ rest) = joined_stats s (all_joined rest)
