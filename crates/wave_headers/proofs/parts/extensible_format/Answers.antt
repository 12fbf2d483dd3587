use Rattle.std.proofs.Common.{refl, ap, ◌∙◌, take, drop}
use Rattle.text.specs.Text.{text, joined}
use Rattle.text.specs.Bytes.{bytes}
use Rattle.wav_header.specs.inner.Parts.{format_part}
use Rattle.wave_headers.specs.Headers.{extensible_format, samples_told}
use Rattle.text.proofs.Bytes.{four_bytes}
use Rattle.wave_headers.proofs.parts.extensible_format.Goals as goal

pub returns : goal.returns
unfolding extensible_format samples_told format_part joined text bytes
returns c =
    let told = c.copy_from_slice.ensures.after ∙ ap (λ l. take 14 (drop 10 l)) c.format-plain.ensures in
    let mask = c.copy_from_slice-2.ensures.after ∙ c.to_le_bytes.ensures ∙ four_bytes _ in
    rw (told, mask) refl
