-- Statistics come back out of C's numbers as they were. Proved in proofs/Stats.
use Rattle.std.specs.Prelude.{◌≡◌, IfSome, FitsSigned, true, List, ℕ, ◌<◌, length}
use Rattle.std.specs.Int.{w64}
use Rattle.reference.specs.Frames.{Run}
use Rattle.reference.specs.Output.{stats}
use Rattle.reference.specs.Statistics.{channel_of, joined_stats}
use Rattle.reference.specs.declared.Converter.{Converter}
use Rattle.reference.specs.declared.ConvertStats.{ConvertStats}
use Rattle.joins.specs.Joins.{AcceptedConverter, AcceptedRun}
use Rattle.sheet_laws.specs.Runs as runs
use Rattle.c_stats.specs.Stats.{known_stats, held_stats, stat_numbers}
use Rattle.c_studio.specs.Calls.{JoinCall}

-- as every program holds statistics: six channels, and ends of 64 bits
pub record StatsHeld (s : ConvertStats) : Type 0 where
  pub six : length s.channels ≡ 6
  pub ends : (c : ℕ) → c < 6 → IfSome (channel_of s c).extremes (λ x. FitsSigned w64 x.lowest × FitsSigned w64 x.highest)

-- so are those of an accepted run
abbrev pub RunsAreHeld : Type 0
RunsAreHeld = (conv : Converter) (r : Run) → runs.ConverterHeld conv → AcceptedConverter conv → AcceptedRun conv r → StatsHeld (stats conv r)

-- written and read again, they are what they were
abbrev pub ComeBack : Type 0
ComeBack = (s : ConvertStats) → StatsHeld s → (known_stats (stat_numbers s) ≡ true) × (held_stats (stat_numbers s) ≡ s)

-- so the call that joins the numbers of two stretches gives those of both as one
abbrev pub JoinsThem : Type 0
JoinsThem =
    (s t : ConvertStats) → StatsHeld s → StatsHeld t → (a' : List ℕ) (answer : ℕ) → JoinCall (stat_numbers s) (stat_numbers t) a' answer
    → (answer ≡ 0) × (a' ≡ stat_numbers (joined_stats s t))
