use Rattle.std.proofs.Common.{arith, ap, ◌∙◌, length}
use Rattle.band.proofs.Turns.{eight_sizes}
use Rattle.band.proofs.Bands.{band_whole, band_rounded}
use Rattle.band.proofs.half.Goals as goal

pub invariant_of-places : goal.invariant_of-places
invariant_of-places c = record { eight = ap length c.requires.lent ∙ eight_sizes; odd = c.requires.lent; low = c.bias_all.ensures.low }

pub places-requires-clause-whole : goal.places-requires-clause-whole
places-requires-clause-whole c = band_whole c.args.y.now c.args.xo.now _ (omega arith) c.bias_all.ensures c.requires.fit

pub returns-clause-filled : goal.returns-clause-filled
returns-clause-filled c = band_rounded c.args.y.now c.args.xo.now _ (omega arith) c.bias_all.ensures c.places.ensures
