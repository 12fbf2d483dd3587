use Rattle.std.proofs.Common.{arith, ◌≡◌, ◌+◌, ◌-◌, ◌*◌, length, refl}
use Rattle.numbers.specs.Lists.{tabulate}
use Rattle.text.specs.Text.{joined}
use Rattle.text.proofs.Printing.{none_printed, overwritten, more, filled}
use Rattle.tracks_plan.specs.Writes.{numbers_at, writes}
use Rattle.tracks_plan.proofs.writing.writes.Goals as goal

pub loop-k-init : goal.loop-k-init
unfolding tabulate joined
loop-k-init c = none_printed c.args.out.now

pub loop-k-preserved : goal.loop-k-preserved
loop-k-preserved c =
    let l = c.loop-k in
    let a = c.args in
    let is = rw c.write_of-write.ensures at c.put.ensures in
    let three : 3 * l.k + 3 - 3 * l.k ≡ 3 = omega arith in
    let one = overwritten l.out (3 * l.k) (3 * l.k + 3 - 3 * l.k) is three in
    more (numbers_at a.marks.now a.place a.bytes) l.k l.invariant (record { written = one.written; after = omega arith }) refl

pub returns : goal.returns
unfolding writes
returns c =
    let l = c.loop-k in
    let all : l.k ≡ length c.args.marks.now - 1 = omega arith in
    rw (← all) (filled l.invariant (omega (arith, l.invariant.after)))
