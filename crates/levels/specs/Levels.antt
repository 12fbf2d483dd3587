-- The figures of the level report: what it tells of each channel of a frame, and its lines.
use Rattle.std.specs.Prelude.{◌≡◌, ℕ, suc, ◌-◌, ◌*◌, ◌<◌, false, cond, List, [], take, ℤ, nat_lt, slice_index_or}
use Rattle.numbers.specs.Extremes.{lesser, greater, extreme}
use Rattle.numbers.specs.Lists.{tabulate, count}
use Rattle.reference.specs.Frames.{Run, run, frame_length, frame_count, frame}
use Rattle.reference.specs.Output.{samples_per_frame, sample, clipped, samples}
use Rattle.reference.specs.declared.Converter.{Converter}
use Rattle.overs.specs.Overs.{Progress, none, overs_of}
use Rattle.overs_joins.specs.Signal.{in_progress}
use Rattle.overs_joins.specs.Joins.{frame_overs}
use Rattle.text.specs.Text.{joined}
use Rattle.level_lines.specs.Lines.{level_line}
use Rattle.level_lines.specs.declared.Level.{Level}

-- ---- a channel of a frame

module _ (conv : Converter) (r : Run) where
  -- channel c of the run's frame f, with so many overs
  unfoldable pub level : ℕ → ℕ → ℕ → Level
  level over f c =
      let per = samples_per_frame conv.rate in
      let at = sample conv r c in
      record { clipped = count (clipped conv r c) (f * per) per; low = extreme lesser at (f * per) per; high = extreme greater at (f * per) per; over = over }

  -- the lines of the run's frame f, under the number that it is given, with the overs of each channel
  unfoldable pub lines_with : (ℕ → ℕ) → ℕ → ℕ → List ℕ
  lines_with overs number f = joined (tabulate (λ c. level_line number c (level (overs c) f c)) 0 conv.channels)

  -- document 02's overs: those of the run whose third sample falls in the frame
  unfoldable pub frame_lines : ℕ → ℕ → List ℕ
  frame_lines number f = lines_with (λ c. frame_overs conv r c f) number f

-- what is in progress after the items in the channels below n; the others have nothing
unfoldable pub states_after : List ℤ → ℕ → ℕ → List Progress → List Progress
states_after items channels n states = tabulate (λ c. cond (nat_lt c n) (overs_of items channels c (slice_index_or states c none)).next none) 0 6

-- ---- the input as one run

-- its whole frames, with no neighbours
unfoldable pub whole_input : ℕ → List ℕ → Run
whole_input channels input = run false [] (take (frame_count channels input * frame_length channels) input) false []

-- a piece that is frame f of the input: its neighbours are the frames read before and after it, where there are such
pub record FrameOf (channels : ℕ) (input : List ℕ) (f : ℕ) (piece : Run) : Type 0 where
  pub some_channel : 0 < channels
  pub inside : f < frame_count channels input
  pub frames : piece.frames ≡ frame channels input f
  pub has_before : piece.has_before ≡ nat_lt 0 f
  pub before : 0 < f → piece.before ≡ frame channels input (f - 1)
  pub has_after : piece.has_after ≡ nat_lt (suc f) (frame_count channels input)
  pub after : suc f < frame_count channels input → piece.after ≡ frame channels input (suc f)

-- ---- what `frame_report` promises

-- the states are what is in progress before frame f of the run, channel by channel
pub record InProgress (conv : Converter) (r : Run) (f : ℕ) (states : List Progress) : Type 0 where
  pub held : (c : ℕ) → c < conv.channels → slice_index_or states c none ≡ in_progress (sample conv r c) (f * samples_per_frame conv.rate)

-- the lines of a piece of one frame, with its overs from what is in progress before it, and what is in progress after
-- it
unfoldable pub piece_lines : Converter → ℕ → List Progress → Run → List ℕ
piece_lines conv number states piece = lines_with conv piece (λ c. (overs_of (samples conv piece) conv.channels c (slice_index_or states c none)).count) number 0

unfoldable pub piece_states : Converter → List Progress → Run → List Progress
piece_states conv states piece = states_after (samples conv piece) conv.channels conv.channels states
