-- What is proved of frames.
use Rattle.std.specs.Prelude.{◌≡◌, List, ℕ, ◌+◌, ◌*◌, ◌/◌, ◌%◌, ◌≤◌, ◌<◌, T, length, get_or}
use Rattle.reference.specs.Frames.{idle, frame_bytes}
use Rattle.reference.specs.Refusals.{decide, accepted}
use Rattle.text.specs.Bytes.{Bytes}
use Rattle.dsf.specs.Dsf.{accepts, channels, sample_count, frames, file_frame, file_sample, sample_from_highest}
use Rattle.dsf.specs.Reading.{HeadOf}
use Rattle.dsf_frames.specs.Reading.{WindowOf, window_frame, window_places}

-- sample t of channel c of an accepted file is in one of its frames, a bit counted from the highest of a byte. Proved
-- in proofs/Samples, `samples_right`
abbrev pub SamplesRight : Type 0
SamplesRight =
    (file : List ℕ) → Bytes file → T (accepts file) → (c t : ℕ) → c < channels file → t < sample_count file
    → (t / 8 / frame_bytes < frames file)
    × (sample_from_highest t (get_or (file_frame file (t / 8 / frame_bytes)) (t / 8 % frame_bytes * channels file + c) 0) ≡ file_sample file c t)

-- past the last sample the bytes of a frame are idle. Proved in proofs/Samples, `idle_past`
abbrev pub IdlePast : Type 0
IdlePast =
    (file : List ℕ) (f c p : ℕ) → c < channels file → p < frame_bytes → sample_count file / 8 ≤ f * frame_bytes + p
    → get_or (file_frame file f) (p * channels file + c) 0 ≡ idle

-- out of a window of a file's data, the file's frame. Proved in proofs/Asked, `window_right`
abbrev pub WindowRight : Type 0
WindowRight =
    (file head : List ℕ) (n : ℕ) → HeadOf file head n → Bytes file → (window : List ℕ) (start : ℕ) → WindowOf file window start → (f room : ℕ)
    → decide (window_places head n f start (length window) room) ≡ accepted → window_frame head f window start ≡ file_frame file f
