-- The level report of the bytes after the line: the lines of each frame, with their end.
use Rattle.std.specs.Prelude.{cond, List, ◌++◌, ℕ, ◌%◌, eqb, length}
use Rattle.numbers.specs.Lists.{tabulate, total}
use Rattle.reference.specs.Frames.{frame_length, frame_count}
use Rattle.reference.specs.Output.{frame_clips}
use Rattle.reference.specs.declared.Converter.{Converter}
use Rattle.text.specs.Text.{joined}
use Rattle.level_lines.specs.Lines.{last_line, refused_line}
use Rattle.levels.specs.Levels.{frame_lines, whole_input}

-- the report's end: the last line, or in its place the refusal of bytes that are left over
unfoldable pub ending : ℕ → ℕ → ℕ → List ℕ
ending left frames clips = cond (eqb left 0) (last_line frames clips) (refused_line 4)

-- ---- the bytes after the line

module _ (conv : Converter) (input : List ℕ) where
  -- bytes past the whole frames
  unfoldable pub left_over : ℕ
  left_over = length input % frame_length conv.channels

  -- clips over all frames
  unfoldable pub all_clips : ℕ
  all_clips = total (frame_clips conv (whole_input conv.channels input)) 0 (frame_count conv.channels input)

  -- the lines of frame f, the input being one run
  unfoldable pub lines_of : ℕ → List ℕ
  lines_of f = frame_lines conv (whole_input conv.channels input) f f

  -- the lines of each frame, and the end; another rule for a frame's lines is another `lines`
  unfoldable pub text_by : (ℕ → List ℕ) → List ℕ
  text_by lines = joined (tabulate lines 0 (frame_count conv.channels input)) ++ ending left_over (frame_count conv.channels input) all_clips
