use Rattle.std.proofs.Common.{refl, ◌∙◌}
use Rattle.text.specs.Text.{text, joined}
use Rattle.text.specs.Bytes.{bytes}
use Rattle.wav_header.specs.inner.Parts.{format_part}
use Rattle.text.proofs.Bytes.{two_bytes, four_bytes}
use Rattle.wav_header.proofs.format.Goals as goal

pub returns : goal.returns
unfolding format_part joined text bytes
returns c =
    let channels = c.copy_from_slice.ensures.after ∙ c.to_le_bytes.ensures ∙ two_bytes _ in
    let rate = c.copy_from_slice-2.ensures.after ∙ c.to_le_bytes-2.ensures ∙ four_bytes _ in
    let second = c.copy_from_slice-3.ensures.after ∙ c.to_le_bytes-3.ensures ∙ four_bytes _ in
    let sample = c.copy_from_slice-4.ensures.after ∙ c.to_le_bytes-4.ensures ∙ two_bytes _ in
    rw (channels, rate, second, sample) refl
