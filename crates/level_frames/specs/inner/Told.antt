-- What telling a frame promises.
use Rattle.std.specs.Prelude.{◌≡◌, List, ℕ, ◌+◌, length}
use Rattle.reference.specs.Frames.{Run}
use Rattle.reference.specs.Output.{frame_clips}
use Rattle.reference.specs.declared.Converter.{Converter}
use Rattle.text.specs.Text.{Printed}
use Rattle.overs.specs.Overs.{Progress}
use Rattle.levels.specs.Levels.{piece_lines, piece_states}

-- a frame and its neighbours have so many bytes each
abbrev pub OneLong : ℕ → Run → Type 0
OneLong size r = (length r.before ≡ size) × (length r.frames ≡ size) × (length r.after ≡ size)

-- a frame with its neighbours is told: its clips are counted, the first `n` bytes of the text are its lines, and what
-- is in progress is carried on
pub record PieceAdded (conv : Converter) (number : ℕ) (r : Run) (clipped : ℕ) (states : List Progress) (text : List ℕ) (clipped' : ℕ) (states' : List Progress) (text' : List ℕ) (n : ℕ) : Type 0 where
  pub counted : clipped' ≡ clipped + frame_clips conv r 0
  pub lines : Printed (piece_lines conv number states r) text 0 text' n
  pub carried : states' ≡ piece_states conv states r
