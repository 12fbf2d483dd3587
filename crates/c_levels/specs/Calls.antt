-- What the calls of the level report promise: its answer, and what every lent list holds when it returns. A primed list
-- is one at exit.
use Rattle.std.specs.Prelude.{◌≡◌, List, [], ◌∷◌, Bool, ◌&&◌, ℕ, ltb, leb, ℤ, Float, length}
use Rattle.reference.specs.Frames.{Run}
use Rattle.reference.specs.Output.{samples, frame_clips}
use Rattle.reference.specs.Refusals.{Decision, decide, convert_frame_places}
use Rattle.reference.specs.Promises.{by_decision}
use Rattle.reference.specs.declared.Converter.{Converter}
use Rattle.text.specs.Text.{with_text, Printed}
use Rattle.level_lines.specs.Lines.{last_line}
use Rattle.overs.specs.Overs.{Progress}
use Rattle.levels.specs.Levels.{piece_lines, piece_states}
use Rattle.codes.specs.Told.{ToldWhole}
use Rattle.codes.specs.Calls.{CCall}
use Rattle.c_converter.specs.Blocks.{CConverter, known_numbers, held_converter, Input, input_run}
use Rattle.c_levels.specs.Standings.{known_standings, held_standings, standing_numbers}

-- the lists lent: what is in progress, for samples, for lines, for their length and the clips, and for a refusal
pub record LevelLists : Type 0 where
  pub standings : List ℕ
  pub samples : List ℤ
  pub lines : List ℕ
  pub told : List ℕ
  pub «data» : List ℕ
  pub decibels : List Float

abbrev pub lent : List ℕ → List ℤ → List ℕ → List ℕ → List ℕ → List Float → LevelLists
lent s i l t d f = record { standings = s; samples = i; lines = l; told = t; «data» = d; decibels = f }

-- d is what it decides: of an accepted frame the samples, its lines under its number, their length and its clips, and
-- what is in progress after it
pub record LevelsDone (d : Decision) (conv : Converter) (r : Run) (number : ℕ) (before : List Progress) (old new : LevelLists) (answer : ℕ) : Type 0 where
  pub told : ToldWhole d answer new.«data» new.decibels
  pub sampled : new.samples ≡ by_decision d (samples conv r) old.samples
  pub lines : new.lines ≡ by_decision d (with_text old.lines 0 (piece_lines conv number before r)) old.lines
  pub counted : new.told ≡ by_decision d (length (piece_lines conv number before r) ∷ frame_clips conv r 0 ∷ []) old.told
  pub standings : new.standings ≡ by_decision d (standing_numbers (piece_states conv before r)) old.standings

-- understood are known numbers of a converter and ends, a presence below 4, and 864 bytes for the lines
abbrev pub levels_understood : CConverter → Input → LevelLists → Bool
levels_understood b i l = known_numbers b.numbers && (known_standings l.standings && (ltb i.presence 4 && leb 864 (length l.lines)))

abbrev pub LevelsCall : CConverter → Input → ℕ → LevelLists → LevelLists → ℕ → Type 0
LevelsCall b i number old new answer =
    let conv = held_converter b in
    CCall (levels_understood b i old) answer (new ≡ old)
    (LevelsDone (decide (convert_frame_places conv (input_run i) old.samples)) conv (input_run i) number (held_standings old.standings) old new answer)

-- the report's last line, of frames and clips
abbrev pub LastLineCall : ℕ → ℕ → List ℕ → List ℕ → ℕ → Type 0
LastLineCall frames clips lines lines' = Printed (last_line frames clips) lines 0 lines'
