-- What the reader promises of a frame, out of a whole file or out of a window of its data.
use Rattle.std.specs.Prelude.{◌≡◌, List, [], ◌∷◌, ◌++◌, Option, Some, None, unwrap_or, Result, min, cond, not, ◌&&◌, ℕ, ◌+◌, ◌-◌, ◌*◌, ◌/◌, ◌<◌, ltb, leb}
use Rattle.std.specs.Prelude.{length, get_or}
use Rattle.reference.specs.Frames.{frame_bytes, frame_length}
use Rattle.reference.specs.Refusals.{Place, place, decide, decision, number, lent_length}
use Rattle.reference.specs.Promises.{by_decision}
use Rattle.reference.specs.declared.PcmError.{PcmError}
use Rattle.dsf.specs.Dsf.{block, blocks, channels, bits_per_sample, sample_count, frames_in, frame_places, data_frame, file_data, file_frame}
use Rattle.dsf.specs.Reading.{header_places}
use Rattle.dsf_frames.specs.declared.FrameWindow.{FrameWindow}

-- a call that tries these places and gives this frame: `out` is the buffer at entry, `out'` at exit
pub record Framed (places : List Place) (frame out out' : List ℕ) (answer : Result (Unit {0}) PcmError) : Type 0 where
  pub decided : decision answer ≡ decide places
  pub written : out' ≡ by_decision (decide places) frame out

abbrev pub FramePromise : List ℕ → ℕ → List ℕ → List ℕ → Result (Unit {0}) PcmError → Type 0
FramePromise file f out = Framed (frame_places file f (length out)) (file_frame file f) out

-- ---- windows: a stretch of the data, which starts at byte 92 of the file

-- the groups of blocks that frame f touches, from the first's beginning to the last's end
unfoldable pub window_start : ℕ → ℕ → ℕ
window_start channels f = f * frame_bytes / block * block * channels

unfoldable pub window_end : ℕ → ℕ → ℕ → ℕ
window_end channels sample_count f = blocks (min (sample_count / 8) (f * frame_bytes + frame_bytes)) * block * channels

-- what a program reads for frame f; nothing of more than six channels or where there is no such frame
unfoldable pub window_of : ℕ → ℕ → ℕ → Option FrameWindow
window_of channels sample_count f =
    cond (leb channels 6 && ltb f (frames_in sample_count)) (Some (record { start = window_start channels f; end = window_end channels sample_count f })) None

-- the same with no bytes for nothing
unfoldable pub frame_window : ℕ → ℕ → ℕ → FrameWindow
frame_window channels sample_count f = unwrap_or (window_of channels sample_count f) (record { start = 0; end = 0 })

-- a frame asked of a window of `size` bytes from `start` on, into a buffer of `room` bytes
unfoldable pub asked_places : ℕ → ℕ → ℕ → ℕ → ℕ → ℕ → List Place
asked_places channels sample_count f start size room =
    place (leb (frames_in sample_count) f) 5 (number f ∷ [])
    ∷ place (not (leb start (window_start channels f) && leb (window_end channels sample_count f) (start + size))) 11 []
    ∷ lent_length 7 room (frame_length channels)
    ∷ []

-- with the file's first bytes and its length
unfoldable pub window_places : List ℕ → ℕ → ℕ → ℕ → ℕ → ℕ → List Place
window_places head n f start size room = header_places head n ++ asked_places (channels head) (sample_count head) f start size room

-- byte j of the data, which stands at j - start of the window
abbrev pub window_data : List ℕ → ℕ → ℕ → ℕ
window_data window start j = get_or window (j - start) 0

abbrev pub window_frame : List ℕ → ℕ → List ℕ → ℕ → List ℕ
window_frame head f window start = data_frame (window_data window start) (channels head) (bits_per_sample head) (sample_count head) f

abbrev pub WindowPromise : List ℕ → ℕ → ℕ → List ℕ → ℕ → List ℕ → List ℕ → Result (Unit {0}) PcmError → Type 0
WindowPromise head n f window start out = Framed (window_places head n f start (length window) (length out)) (window_frame head f window start) out

-- the file has the window's bytes: of every such file the window's frame is the file's (proofs/Asked, `window_right`)
pub record WindowOf (file window : List ℕ) (start : ℕ) : Type 0 where
  pub holds : (i : ℕ) → i < length window → get_or window i 0 ≡ file_data file (start + i)
