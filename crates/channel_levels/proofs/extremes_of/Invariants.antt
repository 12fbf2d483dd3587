use Rattle.std.proofs.Common.{◌≡◌, ◌*◌, ◌+◌, get_or, pos}
use Rattle.numbers.specs.Extremes.{lesser, greater, extreme}
use Rattle.channel_levels.proofs.extremes_of.Given as goal

abbrev pub invariant-loop-k : goal.invariant-loop-k
invariant-loop-k l =
    (l.low ≡ extreme lesser (λ n. get_or l.samples (n * l.ch + l.c) (pos 0)) 0 l.k) × (l.high ≡ extreme greater (λ n. get_or l.samples (n * l.ch + l.c) (pos 0)) 0 l.k)
