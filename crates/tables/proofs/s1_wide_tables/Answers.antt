-- `s1_wide_tables`: the rule computed at each of the 3,072 entries, and compared.
use Rattle.std.proofs.Common.{◌/◌, ◌%◌, pos, refl}
use Rattle.numbers.specs.Sums.{sum_to}
use Rattle.reference.specs.Taps.{S1_WIDE}
use Rattle.reference.specs.Stages.{entry, bit, sign}
use Rattle.tables.proofs.Computed.{at}
use Rattle.tables.proofs.s1_wide_tables.Goals as goal

pub returns : goal.returns
unfolding entry sum_to bit sign S1_WIDE
returns c = record { long = refl; rule = at (λ k. entry S1_WIDE 12 (k / 256) (k % 256)) (pos 0) 3072 }
