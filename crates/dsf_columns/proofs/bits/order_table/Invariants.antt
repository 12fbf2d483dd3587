use Rattle.std.proofs.Common.{◌≡◌, length}
use Rattle.numbers.specs.inner.Lists.{Held}
use Rattle.dsf.specs.inner.Orders.{ordered}
use Rattle.dsf_columns.proofs.bits.order_table.Given as goal

abbrev pub invariant-loop-x : goal.invariant-loop-x
invariant-loop-x l = (length l.table ≡ 256) × Held 0 (ordered l.order) 0 l.x l.table
