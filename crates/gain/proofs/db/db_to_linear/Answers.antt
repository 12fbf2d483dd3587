-- `db_to_linear`: one square more.
use Rattle.std.proofs.Common.{◌≡◌, ℕ, suc, ◌+◌, ◌-◌, ◌<◌, sym, ◌∙◌, arith, Float}
use lib.Ieee.{binary64, mul, of_int, of_bits}
use Rattle.reference.specs.Scaling.{squared, db_to_linear, exponent, LN_10}
use Rattle.gain.proofs.db.db_to_linear.Goals as goal

squared_step : (k : ℕ) (x : Float) → k < 5 → squared (5 - k) x ≡ squared (5 - (k + 1)) (mul binary64 x x)
unfolding squared
squared_step k x h =
    let e : 5 - k ≡ suc (5 - (k + 1)) = omega arith in
    rw e

squared_done : (k : ℕ) (x : Float) → k ≡ 5 → x ≡ squared (5 - k) x
unfolding squared
squared_done k x e = rw e

pub loop-init : goal.loop-init
unfolding exponent LN_10 of_bits of_int
loop-init c = (omega arith, rw (c.series-power.ensures, c.magnitude.ensures))

pub loop-preserved : goal.loop-preserved
loop-preserved c = let l = c.loop in (omega arith, sym (squared_step l.counter l.power (omega arith)) ∙ l.invariant.1)

pub returns-then-db : goal.returns-then-db
unfolding of_bits of_int db_to_linear
returns-then-db c = let l = c.loop in rw (squared_done l.counter l.power (omega arith) ∙ l.invariant.1, c.if-db.true)

pub returns-else-db : goal.returns-else-db
unfolding of_bits of_int db_to_linear
returns-else-db c = let l = c.loop in rw (squared_done l.counter l.power (omega arith) ∙ l.invariant.1, c.if-db.false)
