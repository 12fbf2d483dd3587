-- `series`: one term more.
use Rattle.std.proofs.Common.{◌≡◌, ℕ, suc, ◌+◌, ◌-◌, ◌<◌, refl, sym, ◌∙◌, add-one, arith, Float}
use lib.Ieee.{binary64, add, mul, div, of_int, of_bits}
use Rattle.reference.specs.Scaling.{whole, series}
use Rattle.gain.proofs.db.series.Goals as goal

series_step : (r : Float) (k : ℕ) (term sum : Float) → k < 26 → series r (26 - k) k term sum
    ≡ series r (26 - (k + 1)) (k + 1) (div binary64 (mul binary64 term r) (whole k)) (add binary64 sum (div binary64 (mul binary64 term r) (whole k)))
unfolding series
series_step r k term sum h =
    let e : 26 - k ≡ suc (26 - (k + 1)) = omega arith in
    rw (e, add-one)

series_done : (r : Float) (k : ℕ) (term sum : Float) → k ≡ 26 → sum ≡ series r (26 - k) k term sum
unfolding series
series_done r k term sum e = rw e

pub loop-k-init : goal.loop-k-init
unfolding of_bits of_int
loop-k-init c = (omega arith, omega arith, refl)

pub loop-k-preserved : goal.loop-k-preserved
loop-k-preserved c =
    let l = c.loop-k in
    (omega arith, omega arith, sym (series_step _ l.k l.term l.sum (omega arith)) ∙ l.invariant.2)

pub returns : goal.returns
returns c = let l = c.loop-k in series_done _ l.k l.term l.sum (omega arith) ∙ l.invariant.2
