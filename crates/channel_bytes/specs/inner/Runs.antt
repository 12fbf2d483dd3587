-- What slices that are lent stand for.
use Rattle.std.specs.Prelude.{ℕ}
use Rattle.reference.specs.Frames.{Run}
use Rattle.channel_bytes.specs.inner.Lent.{lent_run, byte_at}
use Rattle.channel_bytes.specs.declared.slices.Slices.{Slices}

-- the run
abbrev pub slices_run : Slices → Run
slices_run s = lent_run s.before.now s.frames.now s.after.now

-- the bytes of channel c by position
abbrev pub slices_bytes : Slices → ℕ → ℕ → ℕ
slices_bytes s c = byte_at s.channels s.before.now s.frames.now s.after.now c
