use Rattle.std.proofs.Common.{length, ◌-◌, ◌≤◌}
use Rattle.numbers.specs.inner.Lists.{Held}
use Rattle.channel_bytes.specs.inner.Lent.{byte_at}
use Rattle.channel_bytes.proofs.slices.Slices.gather.Given as goal

abbrev pub invariant-loop-k : goal.invariant-loop-k
invariant-loop-k l = (l.k ≤ length l.initial.bytes) × Held 0 (byte_at l.self.channels l.self.before.now l.self.frames.now l.self.after.now l.channel) l.position l.k l.bytes

abbrev pub decreases-loop-k : goal.decreases-loop-k
decreases-loop-k l = length l.initial.bytes - l.k
