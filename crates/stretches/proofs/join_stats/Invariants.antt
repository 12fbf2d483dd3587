use Rattle.std.proofs.Common.{◌≡◌, length}
use Rattle.numbers.specs.inner.Lists.{Held}
use Rattle.reference.specs.Statistics.{no_samples, joined_channel, channel_of}
use Rattle.stretches.proofs.join_stats.Given as goal

-- so many channels are joined
abbrev pub invariant-loop-c : goal.invariant-loop-c
invariant-loop-c l = (length l.channels ≡ 6) × Held no_samples (λ c. joined_channel (channel_of l.fn.a c) (channel_of l.fn.b c)) 0 l.c l.channels
