use Rattle.std.proofs.Common.{◌+◌, ◌*◌, get_or}
use Rattle.numbers.specs.inner.Lists.{Held}
use Rattle.channel_bytes.proofs.pick.Given as goal

abbrev pub invariant-loop-j : goal.invariant-loop-j
invariant-loop-j l = Held 0 (λ i. get_or l.part (i * l.channels + l.channel) 0x69) l.offset l.j l.places
