use Rattle.std.proofs.Common.{◌≡◌, ◌+◌, ◌-◌, ◌*◌, ◌≤◌}
use Rattle.numbers.specs.inner.Lists.{Written}
use Rattle.tracks_put.specs.inner.Putting.{table_byte}
use Rattle.tracks_put.proofs.channel.Given as goal

abbrev pub invariant-loop-q : goal.invariant-loop-q
invariant-loop-q l =
    let a = l.channel in
    (a.first ≤ l.q) × (l.q ≤ a.end)
    × (l.j ≡ l.at + (l.q - a.first) * a.channels)
    × Written 0 (λ i. l.at + i * a.channels) (table_byte l.window.bytes.now l.table a.channels l.window.start a.number a.first) (l.q - a.first) l.initial.out l.out

abbrev pub decreases-loop-q : goal.decreases-loop-q
decreases-loop-q l = l.channel.end - l.q
