use Rattle.std.proofs.Common.{refl}
use Rattle.reference.specs.Frames.{frame_count}
use Rattle.dsf_write.specs.Written.{written_channel, written_byte, laid_out}
use Rattle.dsf_write.proofs.Writing.{frames_fit, frames_few, laid_whole}
use Rattle.dsf_write.proofs.fill_laid.Goals as goal

pub put_data-requires : goal.put_data-requires
unfolding frame_count written_channel
put_data-requires c =
    let n = c.args.channels in
    let fr = c.args.frames.now in
    record { one = c.requires.0.one; bytes_are = refl; held = frames_fit n fr; room = frames_few n fr c.requires.0; lent = c.requires.1 }

pub returns : goal.returns
unfolding laid_out
returns c = rw c.requires.1 at (laid_whole (written_byte c.args.channels c.args.frames.now) _ _ c.put_data.ensures)
