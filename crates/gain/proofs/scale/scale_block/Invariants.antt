use Rattle.std.proofs.Common.{◌≡◌, ℕ, ◌<◌}
use Rattle.numbers.specs.Sums.{at0}
use Rattle.numbers.specs.Lists.{count}
use Rattle.reference.specs.Scaling.{scaled, clamp, clips}
use Rattle.gain.proofs.Order.{least_y, greatest_y}
use Rattle.gain.proofs.scale.scale_block.Given as goal

-- the first i samples are written, their clips counted, their least and greatest y known
abbrev pub invariant-loop-i : goal.invariant-loop-i
invariant-loop-i l = record {
  done : (k : ℕ) → k < l.i → at0 l.out k ≡ clamp (scaled l.factor (at0 l.ys k));
  counted : l.clipped ≡ count (λ k. clips (scaled l.factor (at0 l.ys k))) 0 l.i;
  low : l.least ≡ least_y l.ys l.i;
  high : l.greatest ≡ greatest_y l.ys l.i;
}
