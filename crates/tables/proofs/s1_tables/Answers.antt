-- `s1_tables`: the rule computed at each of the 2,048 entries, and compared.
use Rattle.std.proofs.Common.{◌/◌, ◌%◌, pos, refl}
use Rattle.numbers.specs.Sums.{sum_to}
use Rattle.reference.specs.Taps.{S1}
use Rattle.reference.specs.Stages.{entry, bit, sign}
use Rattle.tables.proofs.Computed.{at}
use Rattle.tables.proofs.s1_tables.Goals as goal

pub returns : goal.returns
unfolding entry sum_to bit sign S1
returns c = record { long = refl; rule = at (λ k. entry S1 8 (k / 256) (k % 256)) (pos 0) 2048 }
