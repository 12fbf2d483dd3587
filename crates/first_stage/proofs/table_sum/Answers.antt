use Rattle.std.proofs.Common.{rules, arith, refl, ◌≡◌, ◌+◌, ◌*◌, ◌^◌, ◌≤◌, nat_abs, ◌+ℤ◌, ℤ, to_z, of_z, w32, get_or, ap, add-one, to_z-of_z}
use Rattle.numbers.specs.Sums.{sum_to, at0}
use Rattle.numbers.proofs.Integers.{sfits_abs, abs_add}
use Rattle.first_stage.proofs.table_sum.Goals as goal

pub loop-j-init : goal.loop-j-init
unfolding sum_to
loop-j-init c = (omega arith, refl)

pub loop-j-preserved : goal.loop-j-preserved
unfolding sum_to
loop-j-preserved c =
    let j = c.loop-j.j in
    let old : ℤ = to_z w32 c.loop-j.sum-bits in
    let entry : ℤ = at0 c.args.tables.now (256 * j + c.from.result) in
    let byte : c.from.result ≡ get_or c.args.window.now j 0 = search rules in
    let small = c.requires.small (256 * j + c.from.result) in
    let more : nat_abs (old +ℤ entry) ≤ (j + 1) * 2 ^ 27 = omega (arith, abs_add old entry, small) in
    let e : to_z w32 (of_z w32 entry) ≡ entry = to_z-of_z {w = w32} (sfits_abs (omega (arith, small))) in
    let sum : to_z w32 (of_z w32 (old +ℤ to_z w32 (of_z w32 entry))) ≡ old +ℤ entry = rw e (to_z-of_z {w = w32} (sfits_abs (omega (arith, more)))) in
    (rw sum more, rw (add-one, sum, byte) (ap (λ (z : ℤ). z +ℤ at0 c.args.tables.now (256 * j + get_or c.args.window.now j 0)) c.loop-j.invariant.1))
