-- The order of bits that a header tells, and a byte of that order in ours, highest bit first.
use Rattle.std.specs.Prelude.{cond, ℕ, eqb}
use Rattle.dsf.specs.Dsf.{turned}
use Rattle.dsf.specs.declared.BitOrder.{BitOrder}
use Rattle.dsf.specs.declared.BitOrder.TheVariants.{LowestFirst, HighestFirst}

-- by the bits per sample: 1 is lowest bit first
abbrev pub bit_order : ℕ → BitOrder
bit_order bits = cond (eqb bits 1) LowestFirst HighestFirst

abbrev pub ordered : BitOrder → ℕ → ℕ
ordered LowestFirst x = turned x
ordered HighestFirst x = x
