use Rattle.std.proofs.Common.{◌≤◌, arith}
use Rattle.tracks_reads.specs.inner.Reading.{ReadArgs, read_to}
use Rattle.tracks_reads.proofs.Stretches.{in_order, bounded}
use Rattle.tracks_reads.proofs.Ahead.{begin, short, go_on, ended}
use Rattle.tracks_reads.proofs.windows.Goals as goal

pub loop-k-init : goal.loop-k-init
loop-k-init c = begin c.args.tracks.heads.now c.args.tracks.lengths.now c.args.channels c.args.span

pub overflow_sub-bytes : goal.overflow_sub-bytes
overflow_sub-bytes c = rw (c.read-read.ensures.0, c.read-read.ensures.1) (in_order c.args.channels c.length-length.result c.loop-k.begins c.args.span)

pub overflow_add-bytes : goal.overflow_add-bytes
overflow_add-bytes c =
    let a = c.args in
    let l = c.loop-k in
    let read : ReadArgs a.channels a.span = record { six = c.requires.six; most = c.requires.most } in
    let most : read_to a.channels c.length-length.result l.begins a.span ≤ 15240984570 = bounded a.channels c.length-length.result l.begins a.span read in
    omega (arith, l.invariant.few, c.read-read.ensures.1, c.requires.is.few, c.loop-k-test.true)

pub overflow_add-begins : goal.overflow_add-begins
overflow_add-begins c =
    let a = c.args in
    let l = c.loop-k in
    omega (arith, short a.tracks.heads.now a.tracks.lengths.now a.channels a.span l.k l.begins l.bytes l.invariant c.loop-k-test.true c.length-length.result c.length-length.ensures, c.requires.short)

pub loop-k-preserved : goal.loop-k-preserved
loop-k-preserved c =
    let a = c.args in
    let l = c.loop-k in
    go_on a.tracks.heads.now a.tracks.lengths.now a.channels a.span l.k l.begins l.bytes l.invariant c.loop-k-test.true c.length-length.result c.length-length.ensures
    (record { six = c.requires.six; most = c.requires.most }) c.read-read.ensures.0 c.read-read.ensures.1

pub returns : goal.returns
returns c = ended c.args.tracks.heads.now c.args.tracks.lengths.now c.args.channels c.args.span c.loop-k.k c.loop-k.begins c.loop-k.bytes c.loop-k.invariant c.loop-k-test.false
