use Rattle.output.proofs.Boxes.{three_bits, three_bytes}
use Rattle.output.proofs.U8Place.put.Goals as goal

pub returns : goal.returns
returns c =
    let t = three_bits c.args.sample c.ranges.sample in
    rw (c.to_le_bytes.ensures, t.0, t.1, t.2) (three_bytes c.args.out.now c.args.item c.args.sample c.requires)
