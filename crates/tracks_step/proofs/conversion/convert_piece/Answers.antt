use Rattle.tracks_step.specs.inner.Slices.{sliced}
use Rattle.tracks_step.proofs.Slicing.{part_is, rest_is, converted}
use Rattle.tracks_step.proofs.conversion.convert_piece.Goals as goal

pub returns : goal.returns
unfolding sliced
returns c =
    let l = c.args.frames.now in
    let of_parts = rw c.min.ensures at c.convert.ensures in
    let middle = rw (part_is l) at of_parts in
    converted c.convert.result c.requires (rw (rest_is l) at middle)
