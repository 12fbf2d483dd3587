-- The buffer of three frames (the one before, the one at hand, the one after), and a turn of the report: it reads the
-- frame after and tells the one at hand.
use Rattle.std.specs.Prelude.{◌≡◌, Bool, List, ◌++◌, ℕ, ◌+◌, ◌*◌, ◌<◌, ◌≤◌, Option, eqb, ltb, length, take}
use Rattle.std.specs.Io.KnownBytes.{Consumes, Appends, IsAtEnd}
use Rattle.reference.specs.Frames.{Run, run, frame_length}
use Rattle.reference.specs.Output.{frame_clips}
use Rattle.reference.specs.declared.Converter.{Converter}
use Rattle.text.specs.Lists.{part}
use Rattle.overs.specs.Overs.{Progress}
use Rattle.levels.specs.Levels.{piece_lines, piece_states}
use Rattle.level_frames.specs.Report.{ending, lines_of, text_by}

-- the frame at hand with its neighbours: frame `number` of the input, which has one before unless it is the first
unfoldable pub at_hand : ℕ → Bool → ℕ → List ℕ → Run
at_hand number has_after size three =
    run (ltb 0 number) (part 0 size three) (part size (2 * size) three) has_after (part (2 * size) (length three) three)

-- a frame is told: its clips are counted, and what is in progress is carried on
pub record FrameCounted (conv : Converter) (number : ℕ) (r : Run) (clipped : ℕ) (states : List Progress) (clipped' : ℕ) (states' : List Progress) : Type 0 where
  pub counted : clipped' ≡ clipped + frame_clips conv r 0
  pub carried : states' ≡ piece_states conv states r

-- between two turns: frames that are told, their clips, what is in progress after them in each channel, bytes that
-- have come of the frame at hand, and the buffer
pub record Moment : Type 0 where
  pub frames : ℕ
  pub clipped : ℕ
  pub states : List Progress
  pub left : ℕ
  pub three : List ℕ

abbrev pub moment : ℕ → ℕ → List Progress → ℕ → List ℕ → Moment
moment frames clipped states left three = record { frames = frames; clipped = clipped; states = states; left = left; three = three }

-- what has come of the frame at hand
abbrev pub here : ℕ → Moment → List ℕ
here size m = take m.left (part size (2 * size) m.three)

-- the frame at hand of one moment; the frame after it is at hand in the next, if it has come whole
abbrev pub told_frame : ℕ → Moment → Moment → Run
told_frame size m next = run (ltb 0 m.frames) (part 0 size m.three) (part size (2 * size) m.three) (eqb next.left size) (part size (2 * size) next.three)

-- a turn from one moment to the next, a frame having so many bytes: it reads what has come of the next frame at hand,
-- to the end where that is not whole; the frame at hand is told under its number, its lines are passed on, and it
-- becomes the frame before
pub record Turned (conv : Converter) (size : ℕ) (m next : Moment) (from from' held held' : Option (List ℕ)) : Type 0 where
  pub whole : m.left ≡ size
  pub came : next.left ≤ size
  pub room : length next.three ≡ 3 * size
  pub kept : part 0 size next.three ≡ part size (2 * size) m.three
  pub frames : next.frames ≡ m.frames + 1
  pub told : FrameCounted conv m.frames (told_frame size m next) m.clipped m.states next.clipped next.states
  pub read : Consumes from from' (here size next)
  pub end : next.left < size → IsAtEnd from'
  pub wrote : Appends held held' (piece_lines conv m.frames m.states (told_frame size m next))

-- turns one after the other, from the first frame on: with the end, what they have read is all of the reader's, and
-- what they have passed on its text; they stop before the end only after so many frames
pub record StreamTold (conv : Converter) (frames clipped left : ℕ) (from from' held held' : Option (List ℕ)) : Type 0 where
  pub input : List ℕ
  pub text : List ℕ
  pub few : left ≤ frame_length conv.channels
  pub many : left ≡ frame_length conv.channels → frames ≡ 100000000000000
  pub long : length input ≡ frames * frame_length conv.channels + left
  pub read : Consumes from from' input
  pub end : left < frame_length conv.channels → IsAtEnd from'
  pub wrote : Appends held held' text
  pub whole : left < frame_length conv.channels → text ++ ending left frames clipped ≡ text_by conv input (lines_of conv input)
