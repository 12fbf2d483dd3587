-- Modules 7 and 8: the samples of a run, as numbers and as bytes, and its statistics.
use Rattle.std.specs.Prelude.{Option, None, List, Bool, cond, ℕ, ◌+◌, ◌-◌, ◌*◌, ◌/◌, ◌%◌, ◌^◌, ltb, ℤ, pos, negsuc, length, get_or}
use Rattle.numbers.specs.Lists.{tabulate, total, count}
use Rattle.reference.specs.Frames.{Run, frame_count, sequence, channel_byte}
use Rattle.reference.specs.Stages.{taps_of, y}
use Rattle.reference.specs.Scaling.{scaled, clamp, clips}
use Rattle.reference.specs.Statistics.{extremes_of}
use Rattle.reference.specs.declared.PcmRate.{PcmRate}
use Rattle.reference.specs.declared.PcmRate.TheVariants.{Hz88200, Hz176400, Hz352800}
use Rattle.reference.specs.declared.Converter.{Converter}
use Rattle.reference.specs.declared.ConvertStats.{ConvertStats}
use Rattle.reference.specs.declared.ChannelStats.{ChannelStats}
use Rattle.reference.specs.declared.Extremes.{Extremes}

-- samples of one channel in a frame
unfoldable pub samples_per_frame : PcmRate → ℕ
samples_per_frame Hz88200 = 1176
samples_per_frame Hz176400 = 2352
samples_per_frame Hz352800 = 4704

module _ (conv : Converter) (r : Run) where
  -- ---- samples

  -- sample n of channel c before the clamp; the run starts one frame into the sequence
  unfoldable pub unclamped : ℕ → ℕ → ℤ
  unclamped c n =
      scaled conv.gain.linear
      (y conv.rate conv.cutoff (taps_of conv.filter) (channel_byte conv.channels (sequence conv.channels r) c) (samples_per_frame conv.rate + n))

  unfoldable pub sample : ℕ → ℕ → ℤ
  sample c n = clamp (unclamped c n)

  -- document 01's clipped: the clamp changes the sample
  unfoldable pub clipped : ℕ → ℕ → Bool
  clipped c n = clips (unclamped c n)

  -- sample n of channel c is item n × channels + c
  unfoldable pub item : ℕ → ℤ
  item i = sample (i % conv.channels) (i / conv.channels)

  -- samples of the run: in one channel, and in all
  unfoldable pub channel_samples : ℕ
  channel_samples = frame_count conv.channels r.frames * samples_per_frame conv.rate

  unfoldable pub all_samples : ℕ
  all_samples = channel_samples * conv.channels

  unfoldable pub samples : List ℤ
  samples = tabulate item 0 all_samples

  -- ---- clip counts

  -- of channel c over the run; an unused channel has 0
  unfoldable pub channel_clips : ℕ → ℕ
  channel_clips c = cond (ltb c conv.channels) (count (clipped c) 0 channel_samples) 0

  -- of frame f over all channels
  unfoldable pub frame_clips : ℕ → ℕ
  frame_clips f = total (λ c. count (clipped c) (f * samples_per_frame conv.rate) (samples_per_frame conv.rate)) 0 conv.channels

  -- of each frame
  unfoldable pub per_frame_clips : List ℕ
  per_frame_clips = tabulate frame_clips 0 (frame_count conv.channels r.frames)

  -- ---- request 6: how far over

  -- the least and the greatest number of channel c before the clamp; none where it has no samples
  unfoldable pub channel_extremes : ℕ → Option Extremes
  channel_extremes c = cond (ltb c conv.channels) (extremes_of (unclamped c) 0 channel_samples) None

  unfoldable pub channel_stats : ℕ → ChannelStats
  channel_stats c = record { clipped = channel_clips c; extremes = channel_extremes c }

  unfoldable pub stats : ConvertStats
  stats = record { channels = tabulate channel_stats 0 6 }

-- ---- bytes

-- the low 24 bits of a whole number
unfoldable pub low24 : ℤ → ℕ
low24 (pos n) = n % 2 ^ 24
low24 (negsuc n) = 2 ^ 24 - 1 - n % 2 ^ 24

-- numbers as bytes: the low 24 bits of each, least first
unfoldable pub s24le : List ℤ → List ℕ
s24le zs = tabulate (λ i. low24 (get_or zs (i / 3) (pos 0)) / 256 ^ (i % 3) % 256) 0 (3 * length zs)
