use Rattle.std.proofs.Common.{◌≡◌, ◌+◌, ◌*◌, ◌^◌, ◌≤◌, nat_abs, get_or}
use Rattle.numbers.specs.Sums.{sum_to, at0}
use Rattle.first_stage.proofs.table_sum.Given as goal

abbrev pub invariant-loop-j : goal.invariant-loop-j
invariant-loop-j l = (nat_abs l.sum ≤ l.j * 2 ^ 27) × (l.sum ≡ sum_to l.j (λ i. at0 l.tables (256 * i + get_or l.window i 0)))
