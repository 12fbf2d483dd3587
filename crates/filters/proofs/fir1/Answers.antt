use Rattle.std.proofs.Common.{rules, arith, ◌≡◌, ◌+◌, ◌-◌, ◌*◌, ◌^◌, length, to_z, of_z, w64}
use Rattle.numbers.specs.Sums.{at0}
use Rattle.reference.specs.Stages.{tap}
use Rattle.filters.specs.inner.Filters.{same_rate}
use Rattle.filters.proofs.Bias.{same_sums, filled_sums, filled_round}
use Rattle.lanes.proofs.Pairs.{centre_size}
use Rattle.filters.proofs.Places.{filled_small}
use Rattle.filters.proofs.fir1.Goals as goal

pub add-requires-clause-small : goal.add-requires-clause-small
add-requires-clause-small c =
    let h = c.args.h.now in
    let e : to_z w64 (of_z w64 (at0 h 0)) ≡ tap h 0 = search rules in
    filled_small ((127 - length h) * 2 ^ 56) c.centre.ensures (λ j. rw e (omega (arith, centre_size (tap h 0) (c.requires.filter.small.size 0) c.bias_all.ensures.low (length h - 1 + j))))

pub all-requires : goal.all-requires
all-requires c =
    let h = c.args.h.now in
    let x = c.args.x.now in
    let e : to_z w64 (of_z w64 (at0 h 0)) ≡ tap h 0 = search rules in
    let sums = same_sums h x _ c.requires.filter (omega arith) c.bias_all.ensures (rw e at c.centre.ensures) c.add.ensures in
    (omega arith, omega arith, filled_sums (same_rate h x) sums _ (omega (arith, sums.same)) c.requires.fit)

pub returns-clause-filled : goal.returns-clause-filled
returns-clause-filled c =
    let h = c.args.h.now in
    let x = c.args.x.now in
    let e : to_z w64 (of_z w64 (at0 h 0)) ≡ tap h 0 = search rules in
    let sums = same_sums h x _ c.requires.filter (omega arith) c.bias_all.ensures (rw e at c.centre.ensures) c.add.ensures in
    filled_round (same_rate h x) sums 24 c.all.ensures
