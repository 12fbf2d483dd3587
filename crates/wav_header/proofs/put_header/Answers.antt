use Rattle.wav_header.proofs.ThreeParts.{three_put}
use Rattle.wav_header.proofs.put_header.Goals as goal

pub returns : goal.returns
returns c =
    let a = c.args in
    three_put a.rate a.channels a.n a.out.now c.riff-first.ensures c.from.ensures c.format-second.ensures c.data_head-third.ensures
    c.copy_from_slice.ensures.after c.copy_from_slice-2.ensures.after c.copy_from_slice-3.ensures.after
