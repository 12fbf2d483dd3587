-- `eight` meets its contract: four times two taps, two places apart, are all eight; each time the lanes have room for
-- them.
use Rattle.std.proofs.Common.{rules, arith, ◌≡◌, ◌+◌, ◌-◌, ◌*◌, ◌^◌, ◌≤◌, ◌<◌, ℕ, List, true, false, get_or, refl, ◌∙◌}
use Rattle.reference.specs.Taps.{HB}
use Rattle.lanes.specs.inner.Lanes.{copied, Lanes}
use Rattle.lanes.proofs.Places.{added_then}
use Rattle.filters.specs.inner.Filters.{odd_taps}
use Rattle.band.specs.inner.Bands.{odd_sizes}
use Rattle.band.proofs.Turns.{in_turn, size_fits, two_is, two_lanes, all_eight, four}
use Rattle.band.proofs.eight.Goals as goal

fits : {s : List ℕ} → s ≡ odd_sizes → (k : ℕ) → k < 8 → get_or s k 0 ≤ 2 ^ 25
fits e k l = rw e (size_fits k l)

pub two-a-requires : goal.two-a-requires
two-a-requires g c =
    let b = c.args.band in
    let i = c.args.i in
    (search rules, ((omega arith, omega arith, fits b.odd 0 (omega arith), fits b.odd 2 (omega arith)), (b.low, record { size = λ l m. omega (arith, c.requires.lanes.size l m) })))

pub two-b-requires : goal.two-b-requires
two-b-requires g c =
    let b = c.args.band in
    let i = c.args.i in
    let l1 : Lanes g.row.L (3 * 2 ^ 56) c.two-a.result = two_lanes (2 ^ 55) (3 * 2 ^ 56) false _ _ (i + 5) (i + 8)
    (fits b.odd 0 (omega arith)) (fits b.odd 2 (omega arith)) b.low c.requires.lanes c.two-a.ensures (omega arith) in
    (search rules, ((omega arith, omega arith, fits b.odd 1 (omega arith), fits b.odd 3 (omega arith)), (b.low, record { size = λ l m. omega (arith, l1.size l m) })))

pub two-c-requires : goal.two-c-requires
two-c-requires g c =
    let b = c.args.band in
    let i = c.args.i in
    let l1 : Lanes g.row.L (3 * 2 ^ 56) c.two-a.result = two_lanes (2 ^ 55) (3 * 2 ^ 56) false _ _ (i + 5) (i + 8)
    (fits b.odd 0 (omega arith)) (fits b.odd 2 (omega arith)) b.low c.requires.lanes c.two-a.ensures (omega arith) in
    let l2 : Lanes g.row.L (5 * 2 ^ 56) c.two-b.result = two_lanes (3 * 2 ^ 56) (5 * 2 ^ 56) true _ _ (i + 4)
    (i + 9) (fits b.odd 1 (omega arith)) (fits b.odd 3 (omega arith)) b.low l1 c.two-b.ensures (omega arith) in
    (search rules, ((omega arith, omega arith, fits b.odd 4 (omega arith), fits b.odd 6 (omega arith)), (b.low, record { size = λ l m. omega (arith, l2.size l m) })))

pub two-requires : goal.two-requires
two-requires g c =
    let b = c.args.band in
    let i = c.args.i in
    let l1 : Lanes g.row.L (3 * 2 ^ 56) c.two-a.result = two_lanes (2 ^ 55) (3 * 2 ^ 56) false _ _ (i + 5) (i + 8)
    (fits b.odd 0 (omega arith)) (fits b.odd 2 (omega arith)) b.low c.requires.lanes c.two-a.ensures (omega arith) in
    let l2 : Lanes g.row.L (5 * 2 ^ 56) c.two-b.result = two_lanes (3 * 2 ^ 56) (5 * 2 ^ 56) true _ _ (i + 4)
    (i + 9) (fits b.odd 1 (omega arith)) (fits b.odd 3 (omega arith)) b.low l1 c.two-b.ensures (omega arith) in
    let l3 : Lanes g.row.L (7 * 2 ^ 56) c.two-c.result = two_lanes (5 * 2 ^ 56) (7 * 2 ^ 56) false _ _ (i + 1)
    (i + 12) (fits b.odd 4 (omega arith)) (fits b.odd 6 (omega arith)) b.low l2 c.two-c.ensures (omega arith) in
    (search rules, ((omega arith, omega arith, fits b.odd 5 (omega arith), fits b.odd 7 (omega arith)), (b.low, record { size = λ l m. omega (arith, l3.size l m) })))

pub returns : goal.returns
returns g c =
    let b = c.args.band in
    let i = c.args.i in
    let h = odd_taps HB in
    let s = copied b.v.now in
    added_then (added_then (added_then c.two-a.ensures c.two-b.ensures (λ l. refl)) c.two-c.ensures (λ l. refl)) c.two.ensures
    (λ l. four
    (two_is h s i l 0 (i + 5) (i + 8) (rw b.odd (in_turn 0 (omega arith))) (rw b.odd (in_turn 2 (omega arith))) (omega arith) (omega arith))
    (two_is h s i l 1 (i + 4) (i + 9) (rw b.odd (in_turn 1 (omega arith))) (rw b.odd (in_turn 3 (omega arith))) (omega arith) (omega arith))
    (two_is h s i l 4 (i + 1) (i + 12) (rw b.odd (in_turn 4 (omega arith))) (rw b.odd (in_turn 6 (omega arith))) (omega arith) (omega arith))
    (two_is h s i l 5 i (i + 13) (rw b.odd (in_turn 5 (omega arith))) (rw b.odd (in_turn 7 (omega arith))) (omega arith) (omega arith))
    ∙ all_eight h s (8 + (i + l) - 1) (8 + (i + l)))
