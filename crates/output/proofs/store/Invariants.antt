use Rattle.std.proofs.Common.{ℕ, ◌+◌, ℤ, pos, length}
use Rattle.numbers.specs.inner.Lists.{Held}
use Rattle.output.specs.inner.Fills.{Drawn}
use Rattle.output.proofs.store.Given as goal

abbrev pub invariant-loop-k : goal.invariant-loop-k
invariant-loop-k g l =
    (S : ℕ → ℕ → ℤ) → Held (pos 0) (S l.channel) l.n (length l.samples) l.samples
    → Drawn g.P.Place.layout S l.channels l.n (l.n + l.k) l.channel (l.channel + 1) l.initial.out l.out
