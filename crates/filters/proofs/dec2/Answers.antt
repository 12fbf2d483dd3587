use Rattle.std.proofs.Common.{rules, arith, ◌≡◌, ◌+◌, ◌-◌, ◌*◌, ◌^◌, length, to_z, of_z, w64}
use Rattle.numbers.specs.Sums.{at0}
use Rattle.reference.specs.Stages.{tap}
use Rattle.lanes.specs.inner.Lanes.{Small}
use Rattle.filters.specs.inner.Filters.{half_rate, seconds}
use Rattle.filters.specs.inner.Biases.{Copied}
use Rattle.filters.proofs.Bias.{half_sums, filled_sums, filled_round}
use Rattle.lanes.proofs.Pairs.{copied_size, centre_size, arms_size}
use Rattle.filters.proofs.Places.{filled_small, gained_small, length_seconds}
use Rattle.filters.proofs.dec2.Goals as goal

pub add-requires-clause-small : goal.add-requires-clause-small
add-requires-clause-small c =
    let h = c.args.he.now in
    let e : to_z w64 (of_z w64 (at0 h 0)) ≡ tap h 0 = search rules in
    filled_small ((127 - length h) * 2 ^ 56) c.centre.ensures (λ j. rw e (omega (arith, centre_size (tap h 0) (c.requires.phases.small_even.size 0) c.bias_second.ensures.low (length h - 1 + j))))

pub add-requires-2-clause-small : goal.add-requires-2-clause-small
add-requires-2-clause-small c =
    let h = c.args.he.now in
    let n = length c.args.ho.now in
    let small = c.requires.phases.small_even in
    let low = c.bias_second.ensures.low in
    let e : to_z w64 (of_z w64 (at0 h 0)) ≡ tap h 0 = search rules in
    let started : Small (2 ^ 55) c.centre.new.y = filled_small (2 ^ 55) c.centre.ensures (λ j. rw e (centre_size (tap h 0) (small.size 0) low (length h - 1 + j))) in
    gained_small _ ((127 - n) * 2 ^ 56) c.add.ensures started (λ j. arms_size h _ 1 _ _ (length h - 1) small (copied_size low)) (omega arith)

pub all-requires : goal.all-requires
all-requires c =
    let he = c.args.he.now in
    let ho = c.args.ho.now in
    let x = c.args.x.now in
    let f = length ho + 1 - length he in
    let g = length he - length ho in
    let e : to_z w64 (of_z w64 (at0 he 0)) ≡ tap he 0 = search rules in
    let even : Copied (length (seconds f x)) (seconds f x) c.bias_second.new.v = rw (length_seconds f x) c.bias_second.ensures in
    let odd : Copied (length (seconds g x)) (seconds g x) c.bias_second-2.new.v = rw (length_seconds g x) c.bias_second-2.ensures in
    let sums = half_sums he ho (seconds f x) (seconds g x) _ _ (omega (arith, length_seconds f x))
    (omega (arith, length_seconds g x)) even odd c.requires.phases (rw e at c.centre.ensures) c.add.ensures c.add-2.ensures in
    (omega arith, omega arith, filled_sums (half_rate he ho (seconds f x) (seconds g x)) sums _ (omega (arith, sums.same)) c.requires.fit)

pub returns-clause-filled : goal.returns-clause-filled
returns-clause-filled c =
    let he = c.args.he.now in
    let ho = c.args.ho.now in
    let x = c.args.x.now in
    let f = length ho + 1 - length he in
    let g = length he - length ho in
    let e : to_z w64 (of_z w64 (at0 he 0)) ≡ tap he 0 = search rules in
    let even : Copied (length (seconds f x)) (seconds f x) c.bias_second.new.v = rw (length_seconds f x) c.bias_second.ensures in
    let odd : Copied (length (seconds g x)) (seconds g x) c.bias_second-2.new.v = rw (length_seconds g x) c.bias_second-2.ensures in
    let sums = half_sums he ho (seconds f x) (seconds g x) _ _ (omega (arith, length_seconds f x))
    (omega (arith, length_seconds g x)) even odd c.requires.phases (rw e at c.centre.ensures) c.add.ensures c.add-2.ensures in
    filled_round (half_rate he ho (seconds f x) (seconds g x)) sums 24 c.all.ensures
