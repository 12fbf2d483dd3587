-- `turn` meets its contract.
use Rattle.std.proofs.Common.{◌*◌, length, refl, arith}
use borrow.Rule.Slice.PartMut.{mid_len}
use Rattle.level_turns.proofs.Buffer.{one_long, turned}
use Rattle.level_turns.proofs.Window.turn.Goals as goal

pub tell-requires-clause-one_long : goal.tell-requires-clause-one_long
tell-requires-clause-one_long g c = one_long c.args.self.now.size _ _ _ _ c.requires.whole.0 c.at_hand-run.ensures (omega arith)

pub returns-clause-turned : goal.returns-clause-turned
returns-clause-turned g c =
    let three = c.args.self.now.three.now in
    let size = c.args.self.now.size in
    let far = mid_len (2 * size) (length three) three (omega arith) in
    turned size three _ c.fill.new.bytes _ _ refl (omega (arith, c.fill.auto.bytes, far)) c.move_on.ensures c.args.self.now.long (omega arith) _ _ _ _
    c.in_ok-tell.ensures.told c.in_ok-tell.ensures.wrote c.at_hand-run.ensures c.requires.whole.1
    (omega (arith, c.in_ok-left.ensures.fits, far)) c.in_ok-left.ensures.bytes (λ l. c.in_ok-left.ensures.end (omega (arith, l, far)))
