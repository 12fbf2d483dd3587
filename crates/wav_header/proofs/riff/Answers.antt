use Rattle.std.proofs.Common.{refl, ◌∙◌}
use Rattle.text.specs.Text.{text, joined}
use Rattle.text.specs.Bytes.{bytes}
use Rattle.wav_header.specs.inner.Parts.{riff}
use Rattle.text.proofs.Bytes.{four_bytes}
use Rattle.wav_header.proofs.riff.Goals as goal

pub returns : goal.returns
unfolding riff joined text bytes
returns c =
    let size = c.copy_from_slice.ensures.after ∙ c.to_le_bytes.ensures ∙ four_bytes _ in
    rw size refl
