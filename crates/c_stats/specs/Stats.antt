-- Statistics as C holds them: 24 numbers, which are the clips of six channels, their lowest numbers, their highest, and
-- a mark of each, 1 where it has no samples.
use Rattle.std.specs.Prelude.{Option, Some, None, cond, unwrap_or, Bool, ◌&&◌, List, ℕ, zero, suc, ◌+◌, ◌/◌, ◌%◌, pos, get_or}
use Rattle.std.specs.Int.{w64, cast_unsigned, cast_signed}
use Rattle.numbers.specs.Lists.{tabulate}
use Rattle.reference.specs.Statistics.{channel_of}
use Rattle.reference.specs.declared.Extremes.{Extremes}
use Rattle.reference.specs.declared.ChannelStats.{ChannelStats}
use Rattle.reference.specs.declared.ConvertStats.{ConvertStats}
use Rattle.codes.specs.Codes.{known_flag, flag}

-- ---- and read: a signed number is held by its bits, in two's complement

-- every mark is a flag
abbrev pub known_stats : List ℕ → Bool
known_stats b =
    known_flag (get_or b 18 0)
    && (known_flag (get_or b 19 0) && (known_flag (get_or b 20 0) && (known_flag (get_or b 21 0) && (known_flag (get_or b 22 0) && known_flag (get_or b 23 0)))))

-- the statistics that the numbers hold
unfoldable pub held_channel : List ℕ → ℕ → ChannelStats
held_channel b c =
    let ends : Extremes = record { lowest = cast_signed w64 (get_or b (6 + c) 0); highest = cast_signed w64 (get_or b (12 + c) 0) } in
    record { clipped = get_or b c 0; extremes = cond (flag (get_or b (18 + c) 0)) None (Some ends) }

unfoldable pub held_stats : List ℕ → ConvertStats
held_stats b = record { channels = tabulate (held_channel b) 0 6 }

-- ---- and written: without samples lowest and highest are 0

abbrev pub no_ends : Extremes
no_ends = record { lowest = pos 0; highest = pos 0 }

abbrev pub mark : Option Extremes → ℕ
mark None = 1
mark (Some x) = 0

-- number k of a channel
abbrev pub channel_number : ChannelStats → ℕ → ℕ
channel_number s zero = s.clipped
channel_number s (suc zero) = cast_unsigned w64 (unwrap_or s.extremes no_ends).lowest
channel_number s (suc (suc zero)) = cast_unsigned w64 (unwrap_or s.extremes no_ends).highest
channel_number s (suc (suc (suc k))) = mark s.extremes

unfoldable pub stat_numbers : ConvertStats → List ℕ
stat_numbers s = tabulate (λ k. channel_number (channel_of s (k % 6)) (k / 6)) 0 24
