-- What the loops over channels and frames give.
use Rattle.std.specs.Prelude.{◌≡◌, List, cond, ℕ, ltb, length, get_or}
use Rattle.numbers.specs.Lists.{total, count, tabulate}
use Rattle.reference.specs.Frames.{Run}
use Rattle.reference.specs.Output.{unclamped, clipped, sample, samples, stats, frame_clips}
use Rattle.reference.specs.Statistics.{no_samples}
use Rattle.reference.specs.declared.Converter.{Converter}
use Rattle.reference.specs.declared.ConvertStats.{ConvertStats}
use Rattle.reference.specs.declared.ChannelStats.{ChannelStats}
use Rattle.gain.specs.Tallies.{tally}
use Rattle.output.specs.inner.Fills.{Layout, Drawn, parts_of}

-- what the first n samples of channel c tell; a channel that is not there has none
unfoldable pub channel_tally : Converter → Run → ℕ → ℕ → ChannelStats
channel_tally conv r n c = cond (ltb c conv.channels) (tally (unclamped conv r c) 0 n) no_samples

-- the statistics of the channels are those of their first n samples
pub record Tallied (conv : Converter) (r : Run) (n : ℕ) (l : List ChannelStats) : Type 0 where
  pub six : length l ≡ 6
  pub each : (j : ℕ) → get_or l j no_samples ≡ channel_tally conv r n j

-- samples n, …, end - 1 of every channel are in their places, and the statistics are those of the first `end`
pub record Covered {A : Type 0} (o : Layout A) (conv : Converter) (r : Run) (n end : ℕ) (x y : List A) (l : List ChannelStats) : Type 0 where
  pub box : Drawn o (sample conv r) conv.channels n end 0 conv.channels x y
  pub tallied : Tallied conv r end l

-- clips of samples n, …, n + m - 1 in the channels below c
unfoldable pub clips_below : Converter → Run → ℕ → ℕ → ℕ → ℕ
clips_below conv r n m c = total (λ j. count (clipped conv r j) n m) 0 c

-- a run: every place of the output, in the form that it has; the counts as far as their list is long; the statistics
pub record Ran {A : Type 0} (o : Layout A) (conv : Converter) (r : Run) (answer : ConvertStats) (out' : List A) (counts counts' : List ℕ) : Type 0 where
  pub places : out' ≡ parts_of o (samples conv r)
  pub counted : counts' ≡ tabulate (frame_clips conv r) 0 (length counts)
  pub is_stats : answer ≡ stats conv r
