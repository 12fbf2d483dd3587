-- `nearest_even`: MAGIC added and taken away again.
use lib.Ieee.{of_bits}
use Rattle.floats.proofs.Middle.{nearest_is}
use Rattle.gain.proofs.scale.nearest_even.Goals as goal

pub returns : goal.returns
unfolding of_bits
returns c = nearest_is c.args.x c.requires
