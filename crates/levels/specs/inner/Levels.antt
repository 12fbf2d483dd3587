-- What `frame_report` promises.
use Rattle.std.specs.Prelude.{◌≡◌, ℕ, suc, ◌≤◌, List, [], ℤ, Result, Ok, Err, IfOk}
use Rattle.reference.specs.Frames.{Run}
use Rattle.reference.specs.Output.{samples, frame_clips}
use Rattle.reference.specs.Refusals.{accepted, decide, decision, convert_frame_places}
use Rattle.reference.specs.Promises.{by_decision}
use Rattle.reference.specs.declared.Converter.{Converter}
use Rattle.reference.specs.declared.PcmError.{PcmError}
use Rattle.overs.specs.Overs.{Progress}
use Rattle.text.specs.Text.{Printed}
use Rattle.levels.specs.declared.Reported.{Reported}
use Rattle.levels.specs.Levels.{frame_lines, whole_input, FrameOf, InProgress, piece_lines, piece_states}

-- ---- what `frame_report` promises

-- what is told of a frame; a refused one prints nothing, counts nothing, and changes nothing in progress
unfoldable pub told_length : Result Reported PcmError → ℕ
told_length (Ok r) = r.length
told_length (Err e) = 0

unfoldable pub told_clips : Result Reported PcmError → ℕ
told_clips (Ok r) = r.clipped
told_clips (Err e) = 0

unfoldable pub told_states : List Progress → Result Reported PcmError → List Progress
told_states states (Ok r) = r.states
told_states states (Err e) = states

-- lines of six channels at most, and clips of as many
abbrev pub Bounded : Result Reported PcmError → Type 0
Bounded answer = IfOk answer (λ r. (r.length ≤ 864) × (r.clipped ≤ 28224))

-- lines and clips of frame f, and what is in progress after it, as the whole input, taken as one run, has them
pub record AsInWhole (conv : Converter) (input : List ℕ) (f : ℕ) (old new : List ℕ) (states : List Progress) (answer : Result Reported PcmError) : Type 0 where
  pub lines : Printed (frame_lines conv (whole_input conv.channels input) f f) old 0 new (told_length answer)
  pub counted : told_clips answer ≡ frame_clips conv (whole_input conv.channels input) f
  pub carried : InProgress conv (whole_input conv.channels input) (suc f) (told_states states answer)

-- the decision, samples, lines, clips and states of the piece; and where the piece is a frame of some input and the
-- states are what is in progress before it there, those of that input
pub record FrameReported (conv : Converter) (number : ℕ) (states : List Progress) (piece : Run) (items items' : List ℤ) (old new : List ℕ) (answer : Result Reported PcmError) : Type 0 where
  pub decided : decision answer ≡ decide (convert_frame_places conv piece items)
  pub sampled : items' ≡ by_decision (decide (convert_frame_places conv piece items)) (samples conv piece) items
  pub lines : Printed (by_decision (decide (convert_frame_places conv piece items)) (piece_lines conv number states piece) []) old 0 new (told_length answer)
  pub counted : told_clips answer ≡ by_decision (decide (convert_frame_places conv piece items)) (frame_clips conv piece 0) 0
  pub carried : told_states states answer ≡ by_decision (decide (convert_frame_places conv piece items)) (piece_states conv states piece) states
  pub whole : decide (convert_frame_places conv piece items) ≡ accepted → (input : List ℕ) → FrameOf conv.channels input number piece
      → InProgress conv (whole_input conv.channels input) number states → AsInWhole conv input number old new states answer
