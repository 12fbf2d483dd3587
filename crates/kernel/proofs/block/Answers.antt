use Rattle.std.proofs.Common.{arith, ◌∙◌, ◌*◌, ◌+◌, ◌-◌, ◌≤◌, length-take-le}
use Rattle.routes.specs.declared.Route.TheVariants.{Narrow88, Narrow176, Wide176}
use Rattle.routes.specs.inner.Routes.{FirstTables, block_length}
use Rattle.kernel.proofs.Blocks.{blocked_front, blocked_88, blocked_176, blocked_352, blocked_wide176, blocked_wide352}
use Rattle.kernel.proofs.Blocks.{fresh_few, halved_taps, plain_176, plain_352, wide_176, wide_352}
use Rattle.kernel.proofs.block.Goals as goal

pub narrow88-requires : goal.narrow88-requires
unfolding FirstTables
narrow88-requires c =
    record {
      byte_tables = rw c.in-Narrow88.is at c.requires.first_tables;
      halved_filter = halved_taps (rw c.in-Narrow88.is at c.requires.some_taps);
      lengths = (length-take-le 372 c.args.bytes.now (omega arith), length-take-le 84 c.args.y.now (omega arith));
    }

pub returns-in-Narrow88 : goal.returns-in-Narrow88
unfolding block_length
returns-in-Narrow88 c =
    let first = c.args.first in
    let long = c.narrow88.auto.y ∙ length-take-le 84 c.args.y.now (omega arith) in
    rw c.in-Narrow88.is (blocked_front Narrow88 first _ (omega (arith, long)) (blocked_88 first c.narrow88.ensures.held))

pub narrow176-requires : goal.narrow176-requires
unfolding FirstTables
narrow176-requires c =
    record {
      byte_tables = rw c.in-Narrow176.is at c.requires.first_tables;
      low_pass = plain_176 (rw c.in-Narrow176.is at c.requires.some_taps);
      lengths = (length-take-le 372 c.args.bytes.now (omega arith), length-take-le 168 c.args.y.now (omega arith));
    }

pub returns-in-Narrow176 : goal.returns-in-Narrow176
unfolding block_length
returns-in-Narrow176 c =
    let first = c.args.first in
    let long = c.narrow176.auto.y ∙ length-take-le 168 c.args.y.now (omega arith) in
    rw c.in-Narrow176.is (blocked_front Narrow176 first _ (omega (arith, long)) (blocked_176 first c.narrow176.ensures.held))

-- at 352,800 k values of w are new
pub slice_bounds-narrow352-end : goal.slice_bounds-narrow352-end
slice_bounds-narrow352-end c =
    let new = rw c.in-Narrow352.is at c.fresh-k.ensures.0 in
    omega (arith, new, fresh_few c.args.first)

pub narrow352-requires : goal.narrow352-requires
unfolding FirstTables
narrow352-requires c =
    let new = rw c.in-Narrow352.is at c.fresh-k.ensures.0 in
    let few : (168 ≤ c.fresh-k.result) × (c.fresh-k.result ≤ 184) = rw new (fresh_few c.args.first) in
    record {
      byte_tables = rw c.in-Narrow352.is at c.requires.first_tables;
      low_pass = plain_352 (rw c.in-Narrow352.is at c.requires.some_taps);
      le_k = (few.0, few.1, length-take-le (2 * c.fresh-k.result + 36 - 0) c.args.bytes.now (omega arith) ∙ omega arith, omega arith);
    }

pub returns-in-Narrow352 : goal.returns-in-Narrow352
returns-in-Narrow352 c =
    let new = rw c.in-Narrow352.is at c.fresh-k.ensures.0 in
    rw c.in-Narrow352.is (blocked_352 c.args.first c.fresh-k.result new c.narrow352.ensures)

pub wide176-requires-clause-byte_tables : goal.wide176-requires-clause-byte_tables
unfolding FirstTables
wide176-requires-clause-byte_tables c = rw c.in-Wide176.is at c.requires.first_tables

pub wide176-requires-clause-h_value : goal.wide176-requires-clause-h_value
wide176-requires-clause-h_value c = wide_176 (rw c.in-Wide176.is at c.requires.some_taps)

pub returns-in-Wide176 : goal.returns-in-Wide176
unfolding block_length
returns-in-Wide176 c =
    let long = c.wide176.auto.y ∙ length-take-le 84 c.args.y.now (omega arith) in
    rw c.in-Wide176.is (blocked_front Wide176 c.args.first _ (omega (arith, long)) (blocked_wide176 c.args.first c.wide176.ensures.held))

pub wide352-requires-clause-byte_tables : goal.wide352-requires-clause-byte_tables
unfolding FirstTables
wide352-requires-clause-byte_tables c = rw c.in-Wide352.is at c.requires.first_tables

pub wide352-requires-clause-h_value : goal.wide352-requires-clause-h_value
wide352-requires-clause-h_value c = wide_352 (rw c.in-Wide352.is at c.requires.some_taps)

pub returns-in-Wide352 : goal.returns-in-Wide352
returns-in-Wide352 c = rw c.in-Wide352.is (blocked_wide352 c.args.first c.wide352.ensures.held)
