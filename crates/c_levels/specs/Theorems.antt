-- What is proved of the calls about the frames of an input: each told from what is in progress before its frame, in any
-- order and by whoever, they print what the whole input, as one run, has; and a frame of it told from anything leaves
-- what is in progress after it, so a part of an album may begin one frame early.
use Rattle.std.specs.Prelude.{◌≡◌, List, true, ℕ, suc, ◌≤◌, length, replicate}
use Rattle.reference.specs.Frames.{Run}
use Rattle.reference.specs.declared.Converter.{Converter}
use Rattle.overs.specs.Overs.{Progress}
use Rattle.levels.specs.Levels.{FrameOf, InProgress, whole_input, frame_lines, piece_lines, piece_states}
use Rattle.c_levels.specs.Standings.{known_standings, held_standings, standing_numbers}

-- a piece that is frame f of an input
abbrev pub OfInput : (Converter → List ℕ → ℕ → Run → Type 0) → Type 0
OfInput P = (conv : Converter) (input : List ℕ) (f : ℕ) (piece : Run) → conv.channels ≤ 6 → FrameOf conv.channels input f piece → P conv input f piece

-- told from what is in progress before it: its lines, and what is in progress after it. Proved in proofs/Parts,
-- `in_order`
abbrev pub InOrder : Type 0
InOrder = OfInput (λ conv input f piece. (states : List Progress) → InProgress conv (whole_input conv.channels input) f states
    → (piece_lines conv f states piece ≡ frame_lines conv (whole_input conv.channels input) f f)
    × InProgress conv (whole_input conv.channels input) (suc f) (piece_states conv states piece))

-- told from anything: what is in progress after it is the same. Proved in proofs/Parts, `one_early`
abbrev pub OneEarly : Type 0
OneEarly = OfInput (λ conv input f piece. (states : List Progress) → InProgress conv (whole_input conv.channels input) (suc f) (piece_states conv states piece))

-- ---- from call to call

-- nothing is in progress before the first frame: twelve zeros. Proved in proofs/Carried, `begins`
abbrev pub Begins : Type 0
Begins = (conv : Converter) (input : List ℕ) → conv.channels ≤ 6 → InProgress conv (whole_input conv.channels input) 0 (held_standings (replicate 12 0))

-- what a call tells of what is in progress, the next one reads as it. Proved in proofs/Carried, `read_back`
abbrev pub ReadBack : Type 0
ReadBack = (states : List Progress) → length states ≡ 6 → (known_standings (standing_numbers states) ≡ true) × (held_standings (standing_numbers states) ≡ states)
