-- A run as three slices: the frame before it or nothing, its frames, the frame after it or nothing.
use Rattle.std.specs.Prelude.{◌≡◌, List, [], cond, ℕ, ◌+◌, ◌-◌, ◌*◌, ◌≤◌, ◌<◌, ltb, leb, eqb, length}
use Rattle.reference.specs.Frames.{Run, run, frame_length, frame, sequence, channel_byte}

-- an empty neighbour is an absent one
unfoldable pub lent_run : List ℕ → List ℕ → List ℕ → Run
lent_run b f a = run (ltb 0 (length b)) b f (ltb 0 (length a)) a

-- the slices are those of a run of `count` frames
pub record Lent (ch count : ℕ) (b f a : List ℕ) : Type 0 where
  pub some : 0 < ch
  pub few : ch ≤ 6
  pub limit : count ≤ 540000
  pub whole : length f ≡ count * frame_length ch
  pub first : 0 < length b → length b ≡ frame_length ch
  pub last : 0 < length a → length a ≡ frame_length ch

-- frame q of the sequence, counted from the frame before the run; nothing where no slice holds it
unfoldable pub frame_part : ℕ → ℕ → List ℕ → List ℕ → List ℕ → ℕ → List ℕ
frame_part ch count b f a q = cond (eqb q 0) b (cond (leb q count) (frame ch f (q - 1)) (cond (eqb q (count + 1)) a []))

-- the bytes of channel c by position
unfoldable pub byte_at : ℕ → List ℕ → List ℕ → List ℕ → ℕ → ℕ → ℕ
byte_at ch b f a c = channel_byte ch (sequence ch (lent_run b f a)) c
