use Rattle.std.proofs.Common.{◌≡◌, ◌+◌, ap, arith, rules, length-set}
use Rattle.numbers.proofs.Lists.{held_none, held_more, is_tabulate}
use Rattle.reference.specs.Statistics.{no_samples, joined_channel, joined_stats, channel_of}
use Rattle.stretches.proofs.join_stats.Goals as goal

pub loop-c-init : goal.loop-c-init
loop-c-init c = (search rules, held_none)

pub loop-c-preserved : goal.loop-c-preserved
unfolding channel_of no_samples
loop-c-preserved c =
    let l = c.loop-c in
    let z : 0 + l.c ≡ l.c = omega arith in
    (simp length-set l.invariant.0, held_more l.invariant.1 (omega (arith, l.invariant.0)) (rw z c.join.ensures))

pub returns : goal.returns
unfolding joined_stats
returns c =
    let l = c.loop-c in
    ap (λ m. record { channels = m })
    (is_tabulate (λ k. joined_channel (channel_of c.args.a k) (channel_of c.args.b k)) 0 6 no_samples l.channels l.invariant.0 (λ k s. l.invariant.1.is k (omega arith)))
