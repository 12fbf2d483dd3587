-- Request 14: the level sheet, as text over the statistics.
use Rattle.std.specs.Prelude.{Option, Some, None, List, [], ◌∷◌, ◌++◌, Bool, false, ◌||◌, ℕ, zero, suc, ℤ}
use Rattle.numbers.specs.Lists.{tabulate}
use Rattle.reference.specs.Statistics.{channel_of, clip_sum}
use Rattle.reference.specs.declared.ConvertStats.{ConvertStats}
use Rattle.reference.specs.declared.ChannelStats.{ChannelStats}
use Rattle.reference.specs.declared.Extremes.{Extremes}
use Rattle.text.specs.Text.{joined, decimal}
use Rattle.columns.specs.Columns.{Cell, cell, line, too_wide, level_text}

-- ---- the lines

-- the lowest and the highest, where there are samples
unfoldable pub lowest : Option Extremes → Option ℤ
lowest None = None
lowest (Some e) = Some e.lowest

unfoldable pub highest : Option Extremes → Option ℤ
highest None = None
highest (Some e) = Some e.highest

-- a channel's clips, lowest and highest before the clamp
unfoldable pub channel_cells : ChannelStats → List Cell
channel_cells channel =
    cell 14 (decimal channel.clipped) ∷ cell 12 (level_text (lowest channel.extremes)) ∷ cell 12 (level_text (highest channel.extremes)) ∷ []

-- and its number before them
abbrev pub numbered : ℕ → ChannelStats → List Cell
numbered c channel = cell 4 (decimal c) ∷ channel_cells channel

unfoldable pub channel_line : ConvertStats → ℕ → List Cell
channel_line stats c = numbered c (channel_of stats c)

-- the last line: four blanks, the sum, 24 blanks
unfoldable pub sum_line : ℕ → List Cell
sum_line sum = cell 4 [] ∷ cell 14 (decimal sum) ∷ cell 24 [] ∷ []

-- ---- the sheet

unfoldable pub sheet : ℕ → ConvertStats → List ℕ
sheet channels stats = joined (tabulate (λ c. line (channel_line stats c)) 0 channels) ++ line (sum_line (clip_sum stats channels))

-- some c below n passes the test
unfoldable pub some_below : (ℕ → Bool) → ℕ → Bool
some_below p zero = false
some_below p (suc n) = some_below p n || p n

-- a printed number, the sum included, is too wide for its column
unfoldable pub sheet_too_wide : ℕ → ConvertStats → Bool
sheet_too_wide channels stats = some_below (λ c. too_wide (channel_line stats c)) channels || too_wide (sum_line (clip_sum stats channels))
