use Rattle.std.proofs.Common.{ℕ, length, ap, ◌∙◌, arith, length-take}
use Rattle.text.specs.Bytes.{number_of, number_at}
use Rattle.dsf.proofs.Alike.{piece_is}
use Rattle.text.proofs.Bytes.{number_filled}
use Rattle.dsf.proofs.bytes.number.Goals as goal

pub returns : goal.returns
unfolding number_at
returns c =
    let a = c.args in
    let piece = piece_is a.file.now a.start a.size c.min-first.result c.min-last.result c.min-first.ensures c.min-last.ensures in
    c.from_le_bytes.ensures ∙ number_filled c.copy_from_slice.new.self _ c.copy_from_slice.ensures.after (omega (arith, ap length piece, length-take {A = ℕ})) ∙ ap number_of piece
