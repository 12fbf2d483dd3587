use Rattle.std.proofs.Common.{◌≡◌, ℕ, ◌+◌, ◌*◌, ◌/◌, ◌<◌, length, get_or, min}
use Rattle.dsf_columns.specs.inner.Columns.{column_byte}
use Rattle.dsf_frames.proofs.frames.frame_from_window.Given as goal

abbrev pub invariant-loop-number : goal.invariant-loop-number
invariant-loop-number l =
    (length l.out ≡ length l.initial.out)
    × ((d k : ℕ) → d < l.number → k < 4704
    → get_or l.out (k * l.channels + d) 0 ≡ column_byte l.window.bytes.now l.table l.channels (l.f * 4704) (min (l.fn.header.samples / 8) (l.f * 4704 + 4704)) l.window.start d k)
