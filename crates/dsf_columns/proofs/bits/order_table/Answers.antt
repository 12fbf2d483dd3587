use Rattle.std.proofs.Common.{◌≡◌, ◌+◌, arith, refl, ap, sym, ◌∙◌, length-set}
use Rattle.numbers.proofs.Lists.{held_none, held_more}
use Rattle.dsf.specs.inner.Orders.{ordered}
use Rattle.dsf_columns.proofs.bits.order_table.Goals as goal

pub loop-x-init : goal.loop-x-init
loop-x-init c = (refl, held_none)

pub loop-x-preserved : goal.loop-x-preserved
loop-x-preserved c =
    let l = c.loop-x in
    let z : 0 + l.x ≡ l.x = omega arith in
    (simp length-set l.invariant.0, held_more l.invariant.1 (omega arith) (c.ours.ensures ∙ ap (ordered c.args.order) (sym z)))

pub returns : goal.returns
returns c =
    let l = c.loop-x in
    record { is = λ x h. let z : 0 + x ≡ x = omega arith in rw z at (l.invariant.1.is x (omega arith)) }
