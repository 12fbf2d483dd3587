-- `sums` meets its contract: taps 1, …, k - 1 are added up.
use Rattle.std.proofs.Common.{rules, arith, ◌^◌, ◌<◌, slice_index_or, pos}
use lib.Signed.{mag}
use Rattle.label_taps.proofs.Taps.{none_added, next_fits, next_size, one_added, twice_fits, sum_fits_2, sum_whole, sum_small, size_small, size_whole}
use Rattle.label_taps.proofs.sums.Goals as goal

pub loop-k-init : goal.loop-k-init
loop-k-init c = none_added _ c.requires.0

pub overflow_add-sum : goal.overflow_add-sum
overflow_add-sum c =
    let m : mag (slice_index_or c.args.h.now c.loop-k.k (pos 0)) < 2 ^ 31 = search rules in
    next_fits c.loop-k.invariant c.requires.1 c.loop-k-test.true m

pub overflow_add-size : goal.overflow_add-size
overflow_add-size c =
    let m : mag (slice_index_or c.args.h.now c.loop-k.k (pos 0)) < 2 ^ 31 = search rules in
    record { fits = omega (arith, next_size c.loop-k.invariant c.requires.1 c.loop-k-test.true m c.unsigned_abs.ensures.value) }

pub loop-k-preserved : goal.loop-k-preserved
loop-k-preserved c =
    let m : mag (slice_index_or c.args.h.now c.loop-k.k (pos 0)) < 2 ^ 31 = search rules in
    one_added c.loop-k.invariant c.requires.1 c.loop-k-test.true m c.unsigned_abs.ensures.value

pub overflow_mul-result : goal.overflow_mul-result
overflow_mul-result c =
    let m : mag (slice_index_or c.args.h.now 0 (pos 0)) < 2 ^ 31 = search rules in
    twice_fits c.loop-k.invariant c.requires.1 c.loop-k-test.false m

pub overflow_add-result : goal.overflow_add-result
overflow_add-result c =
    let m : mag (slice_index_or c.args.h.now 0 (pos 0)) < 2 ^ 31 = search rules in
    sum_fits_2 c.loop-k.invariant c.requires.1 c.loop-k-test.false m

pub overflow_mul-result-2 : goal.overflow_mul-result-2
overflow_mul-result-2 c =
    let m : mag (slice_index_or c.args.h.now 0 (pos 0)) < 2 ^ 31 = search rules in
    record { fits = omega (arith, size_small c.loop-k.invariant c.requires.1 c.loop-k-test.false m c.unsigned_abs-2.ensures.value) }

pub overflow_add-result-2 : goal.overflow_add-result-2
overflow_add-result-2 c =
    let m : mag (slice_index_or c.args.h.now 0 (pos 0)) < 2 ^ 31 = search rules in
    record { fits = omega (arith, size_small c.loop-k.invariant c.requires.1 c.loop-k-test.false m c.unsigned_abs-2.ensures.value) }

pub returns : goal.returns
returns c =
    let m : mag (slice_index_or c.args.h.now 0 (pos 0)) < 2 ^ 31 = search rules in
    let all = c.loop-k-test.false in
    (sum_whole c.loop-k.invariant c.requires.1 all m, size_whole c.loop-k.invariant c.requires.1 all m c.unsigned_abs-2.ensures.value, sum_small c.loop-k.invariant c.requires.1 all m)
