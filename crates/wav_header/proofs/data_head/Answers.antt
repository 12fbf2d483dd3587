use Rattle.std.proofs.Common.{ap, refl, ◌∙◌, take}
use Rattle.text.specs.Text.{text, joined}
use Rattle.text.specs.Bytes.{bytes}
use Rattle.wav_header.specs.inner.Parts.{data_head}
use Rattle.text.proofs.Bytes.{low_bytes}
use Rattle.wav_header.proofs.data_head.Goals as goal

pub returns : goal.returns
unfolding data_head joined text bytes
returns c =
    let size = c.copy_from_slice.ensures.after ∙ ap (take 4) c.to_le_bytes.ensures ∙ low_bytes _ in
    rw size refl
