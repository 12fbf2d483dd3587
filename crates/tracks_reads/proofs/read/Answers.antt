use Rattle.tracks_reads.proofs.Stretches.{some_start, some_end, no_start, no_end}
use Rattle.tracks_reads.proofs.read.Goals as goal

pub returns-then-from-to : goal.returns-then-from-to
returns-then-from-to c =
    let a = c.args in
    let n = a.channels in
    let s = a.length in
    let h = rw (c.saturating_sub-from.ensures, c.min-to.ensures, c.saturating_sub.ensures) at c.if-from-to.true in
    rw (c.saturating_sub-from.ensures, c.min-to.ensures, c.saturating_sub.ensures) (some_start n s a.begins a.span h, some_end n s a.begins a.span h)

pub returns : goal.returns
returns c =
    let a = c.args in
    let n = a.channels in
    let s = a.length in
    let h = rw (c.saturating_sub-from.ensures, c.min-to.ensures, c.saturating_sub.ensures) at c.if-from-to.false in
    (no_start n s a.begins a.span h, no_end n s a.begins a.span h)
