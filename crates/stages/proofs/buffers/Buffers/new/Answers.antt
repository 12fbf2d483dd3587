use Rattle.filters.proofs.Places.{low_zeros}
use Rattle.stages.proofs.Smalls.{zeros_small}
use Rattle.stages.proofs.buffers.Buffers.new.Goals as goal

pub invariant_of-result : goal.invariant_of-result
invariant_of-result c = record { lent = c.half_sizes.ensures; x_small = zeros_small 512; kept_small = zeros_small 184; biased_low = low_zeros 456; second_low = low_zeros 200 }
