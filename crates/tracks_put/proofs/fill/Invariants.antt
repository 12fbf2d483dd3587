use Rattle.std.proofs.Common.{◌+◌, ◌-◌}
use Rattle.numbers.specs.inner.Lists.{Written}
use Rattle.reference.specs.Frames.{idle}
use Rattle.tracks_put.proofs.fill.Given as goal

abbrev pub invariant-loop-j : goal.invariant-loop-j
invariant-loop-j l = Written 0 (λ i. l.at + i) (λ i. idle) (l.j - l.at) l.initial.out l.out
