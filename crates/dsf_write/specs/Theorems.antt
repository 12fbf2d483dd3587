-- What is proved of the files that are written: read, they give the frames back, and what was read from a file of their
-- kind is written back as it.
use Rattle.std.specs.Prelude.{◌≡◌, List, ◌++◌, map, ℕ, ◌*◌, ◌%◌, ◌≤◌, ◌<◌, T, length}
use Rattle.numbers.specs.Lists.{Each}
use Rattle.reference.specs.Frames.{frame, frame_count, frame_length}
use Rattle.text.specs.Text.{joined}
use Rattle.text.specs.Bytes.{Bytes}
use Rattle.dsf.specs.Dsf.{accepts, channels, frames, file_frame}
use Rattle.dsf_write.specs.Written.{head, laid_out, written, all_frames, Plain, Writable}

-- a written file is accepted, has as many frames as were written, and each is the frame written; and it is of the kind
-- that is written. Proved in proofs/Written, `written_reads`
pub record WrittenReads (n : ℕ) (fr : List ℕ) : Type 0 where
  pub accepted : T (accepts (written n fr))
  pub frames : frames (written n fr) ≡ frame_count n fr
  pub frame : Bytes fr → (f : ℕ) → f < frame_count n fr → file_frame (written n fr) f ≡ frame n fr f
  pub plain : Plain (written n fr)

abbrev pub DsfWrittenRead : Type 0
DsfWrittenRead = (n : ℕ) (fr : List ℕ) → Writable n fr → WrittenReads n fr

-- what was read from a file of that kind can be written, and gives its bytes. Proved in proofs/Rewritten, `rewritten`
abbrev pub Rewritten : Type 0
Rewritten = (file : List ℕ) → Bytes file → Plain file → Writable (channels file) (all_frames file) × (written (channels file) (all_frames file) ≡ file)

-- what was read, joined, holds each frame. Proved in proofs/Rewritten, `frame_of_all`
abbrev pub FrameOfAll : Type 0
FrameOfAll = (file : List ℕ) (f : ℕ) → f < frames file → frame (channels file) (all_frames file) f ≡ file_frame file f

-- frames that fill whole blocks: 128, which are 147 blocks of each channel, or a multiple of them
pub record WholeBlocks (n : ℕ) (fr : List ℕ) : Type 0 where
  pub whole : length fr ≡ frame_count n fr * frame_length n
  pub blocks : frame_count n fr % 128 ≡ 0

-- so a file is its header, the data of stretches of such frames, and the data of the frames after them, end to end.
-- Proved in proofs/Stretches, `written_stretches`
abbrev pub WrittenStretches : Type 0
WrittenStretches = (n : ℕ) (stretches : List (List ℕ)) (last : List ℕ) → 1 ≤ n → Each (WholeBlocks n) stretches
    → written n (joined stretches ++ last) ≡ head n (length (joined stretches ++ last)) ++ (joined (map (laid_out n) stretches) ++ laid_out n last)
