-- What a frame out of a window asks for; no part of a promise.
use Rattle.std.specs.Prelude.{◌≡◌, ℕ, ◌+◌, ◌*◌, ◌/◌, ◌≤◌, ◌<◌}
use Rattle.reference.specs.Frames.{frame_bytes, frame_length}
use Rattle.dsf_frames.specs.Reading.{window_start, window_end}

-- a window of `size` bytes from `start` of the data on holds frame f, and the buffer is a frame's
pub record WindowArgs (channels samples f start size out : ℕ) : Type 0 where
  pub one : 1 ≤ channels
  pub six : channels ≤ 6
  pub asked : f * frame_bytes < samples / 8
  pub begins : start ≤ window_start channels f
  pub covers : window_end channels samples f ≤ start + size
  pub lent : out ≡ frame_length channels
