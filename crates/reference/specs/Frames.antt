-- Module 3, channel bytes: frames, a run with its neighbours, and the bytes of one channel by position.
use Rattle.std.specs.Prelude.{List, ◌++◌, Bool, true, false, ℕ, ◌*◌, ◌+◌, ◌/◌, length, get_or, take, drop, replicate}
use Rattle.reference.specs.declared.Run.{Run as Record}

-- bytes of a frame: of one channel, and of all
abbrev pub frame_bytes : ℕ
frame_bytes = 4704

abbrev pub frame_length : ℕ → ℕ
frame_length channels = frame_bytes * channels

-- how many whole frames the bytes hold
unfoldable pub frame_count : ℕ → List ℕ → ℕ
frame_count channels bytes = length bytes / frame_length channels

-- frame k of a list of frames
unfoldable pub frame : ℕ → List ℕ → ℕ → List ℕ
frame channels bytes k = take (frame_length channels) (drop (k * frame_length channels) bytes)

-- the byte that every position outside reads
abbrev pub idle : ℕ
idle = 0x69

-- document 01's run: its frames, and before and after them a neighbour, which is present or absent
pub record Run : Type 0 where
  pub has_before : Bool
  pub before : List ℕ
  pub frames : List ℕ
  pub has_after : Bool
  pub after : List ℕ

abbrev pub run : Bool → List ℕ → List ℕ → Bool → List ℕ → Run
run hb b f ha a = record { has_before = hb; before = b; frames = f; has_after = ha; after = a }

-- the run that a run record stands for
abbrev pub run_of : Record → Run
run_of d = run d.has_before d.before.now d.frames.now d.has_after d.after.now

-- a neighbour's frame: an absent one counts as one filled with the idle byte, and its slice is not read
unfoldable pub neighbour : ℕ → Bool → List ℕ → List ℕ
neighbour channels true bytes = bytes
neighbour channels false bytes = replicate (frame_length channels) idle

abbrev pub before_frame : ℕ → Run → List ℕ
before_frame channels r = neighbour channels r.has_before r.before

abbrev pub after_frame : ℕ → Run → List ℕ
after_frame channels r = neighbour channels r.has_after r.after

-- the frame before, the run's frames, the frame after
unfoldable pub sequence : ℕ → Run → List ℕ
sequence channels r = before_frame channels r ++ (r.frames ++ after_frame channels r)

-- the byte of channel c at position p, counted from the first byte of the frame before the run: p is p - 4,704 in
-- document 01. No sample of a run reads an earlier one (`no_earlier_byte`, proofs/Frames)
unfoldable pub channel_byte : ℕ → List ℕ → ℕ → ℕ → ℕ
channel_byte channels bytes c p = get_or bytes (p * channels + c) idle
