-- `labelled`: a number of 64 bits has at most 20 digits.
use Rattle.std.proofs.Common.{arith}
use Rattle.text.proofs.Numerals.{places}
use Rattle.text.proofs.Writing.{both}
use Rattle.text.proofs.putting.Text.labelled.Goals as goal

pub decimal-requires : goal.decimal-requires
decimal-requires c = omega (arith, places 19 c.args.n (omega (arith, c.ranges.n)))

pub returns-clause-printed : goal.returns-clause-printed
returns-clause-printed c = both c.put.ensures c.decimal.ensures

pub returns-clause-upper_bound : goal.returns-clause-upper_bound
returns-clause-upper_bound c = omega (arith, places 19 c.args.n (omega (arith, c.ranges.n)))
