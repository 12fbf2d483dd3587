use Rattle.std.proofs.Common.{rules, arith, ◌≡◌, ◌+◌, ◌-◌, pos, get_or, ◌∙◌}
use Rattle.std.proofs.lemmas.List.{places}
use Rattle.numbers.specs.Sums.{at0}
use Rattle.numbers.proofs.Pieces.{written_piece}
use Rattle.lanes.proofs.Arms.add_block.Goals as goal

pub returns : goal.returns
returns g c =
    let i = c.args.i in
    let a = c.args.self in
    let e : i + g.row.L - i ≡ g.row.L = omega arith in
    rw e
    (written_piece i g.row.L c.args.y.now c.copy_from_slice-2.new.self (omega arith) (search rules) (pos 0) _
    (λ l m.
    let from : get_or c.copy_from_slice.new.self l (pos 0) ≡ at0 c.args.y.now (i + l) = search (rules, places) in
    let to : get_or c.copy_from_slice-2.new.self l (pos 0) ≡ at0 c.pairs-t.result l = search rules in
    let there = c.at.ensures in
    let down : a.end + i + l - 1 ≡ a.end + (i + l) - 1 = omega arith in
    let up : a.up + i + l ≡ a.up + (i + l) = omega arith in
    to ∙ (rw (from, there.0, there.1, there.2, there.3, down, up) at (c.pairs-t.ensures.is l m))))
