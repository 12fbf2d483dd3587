use Rattle.std.proofs.Common.{◌-◌}
use Rattle.tracks_put.specs.inner.Putting.{table_byte, Placed}
use Rattle.tracks_put.proofs.put.Given as goal

abbrev pub invariant-loop-number : goal.invariant-loop-number
invariant-loop-number l =
    let p = l.part in
    Placed l.channels p.at (p.to - p.from) l.number (λ d. table_byte l.window.bytes.now l.table l.channels l.window.start d p.from) l.initial.out l.out
