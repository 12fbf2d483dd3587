-- `db_to_linear`: what is left to square gives what the whole gives.
use Rattle.std.proofs.Common.{◌≡◌, ◌-◌, ◌≤◌}
use Rattle.reference.specs.Scaling.{series, squared, exponent, whole}
use Rattle.gain.proofs.db.db_to_linear.Given as goal

abbrev pub invariant-loop : goal.invariant-loop
invariant-loop l = (l.counter ≤ 5) × (squared (5 - l.counter) l.power ≡ squared 5 (series (exponent l.db) 25 1 (whole 1) (whole 1)))
