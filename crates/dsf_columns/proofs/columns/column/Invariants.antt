use Rattle.std.proofs.Common.{◌+◌, ◌-◌, ◌*◌, ◌≤◌}
use Rattle.numbers.specs.inner.Lists.{Written}
use Rattle.dsf_columns.specs.inner.Columns.{column_byte}
use Rattle.dsf_columns.proofs.columns.column.Given as goal

abbrev pub invariant-loop-q : goal.invariant-loop-q
invariant-loop-q l =
    let a = l.channel in
    (a.first ≤ l.q) × (l.q ≤ a.end)
    × Written 0 (λ i. a.number + i * a.channels) (column_byte l.window.bytes.now l.table a.channels a.first a.end l.window.start a.number) (l.q - a.first) l.initial.out l.out

abbrev pub decreases-loop-q : goal.decreases-loop-q
decreases-loop-q l = l.channel.end - l.q
