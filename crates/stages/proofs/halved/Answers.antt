-- `halved`: the two parts of h are the even and the odd taps, so what `dec2` sums is the filter at every second place.
use Rattle.std.proofs.Common.{◌≡◌, List, ℕ, ℤ, ◌+◌, ◌-◌, ◌*◌, ◌<◌, length, ap, arith}
use Rattle.reference.specs.Rounding.{R}
use Rattle.reference.specs.Stages.{M}
use Rattle.filters.specs.inner.Filters.{even_taps, odd_taps, same_rate, half_rate, seconds}
use Rattle.numbers.proofs.Lists.{written_as}
use Rattle.filters.proofs.Signals.{split_halves, halves_phases}
use Rattle.filters.proofs.Seconds.{decimated}
use Rattle.routes.proofs.Filters.{halves_length, even_half, odd_half}
use Rattle.stages.proofs.Smalls.{small_fit}
use Rattle.stages.proofs.halved.Goals as goal

-- what `dec2` sums, with the halves he and ho of F
sum_is : (F x : List ℤ) {he ho : List ℤ} → he ≡ even_taps F → ho ≡ odd_taps F → (i : ℕ) → 0 < length F → 2 * i + 2 * M F < length x
    → half_rate he ho (seconds (length ho + 1 - length he) x) (seconds (length he - length ho) x) i ≡ same_rate F x (2 * i)
unfolding same_rate
sum_is F x even odd i some room = rw (even, odd) (decimated F x some i room)

pub dec2-requires-clause-phases : goal.dec2-requires-clause-phases
dec2-requires-clause-phases c = let f = c.requires.halved_filter in rw (even_half f.F f.halved, odd_half f.F f.halved) (halves_phases (split_halves f.F) f.keeps)

pub dec2-requires-clause-fit : goal.dec2-requires-clause-fit
dec2-requires-clause-fit c =
    let f = c.requires.halved_filter in
    let long = halves_length f.F f.halved in
    let fit = small_fit f.F (2 * length c.args.y.now) f.small c.requires.small in
    record {
      fits = λ i m. rw (sum_is f.F c.args.x.now (even_half f.F f.halved) (odd_half f.F f.halved) i (omega (arith, long)) (omega (arith, long))) (fit.fits (2 * i) (omega arith));
    }

pub returns-clause-filled : goal.returns-clause-filled
returns-clause-filled c =
    λ F halved.
    let long = halves_length F halved in
    written_as c.dec2.ensures.filled
    (λ i m. ap (λ (z : ℤ). R z 24) (sum_is F c.args.x.now (even_half F halved) (odd_half F halved) i (omega (arith, c.requires, long)) (omega (arith, c.requires, long))))
