use Rattle.std.proofs.Common.{refl, ◌∙◌}
use Rattle.text.specs.Text.{text, joined}
use Rattle.text.specs.Bytes.{bytes}
use Rattle.wave_headers.specs.Headers.{rf64}
use Rattle.text.proofs.Bytes.{eight_bytes}
use Rattle.wave_headers.proofs.parts.rf64.Goals as goal

pub returns : goal.returns
unfolding rf64 joined text bytes
returns c =
    let size = c.copy_from_slice.ensures.after ∙ c.to_le_bytes.ensures ∙ eight_bytes _ in
    let long = c.copy_from_slice-2.ensures.after ∙ c.to_le_bytes-2.ensures ∙ eight_bytes _ in
    let count = c.copy_from_slice-3.ensures.after ∙ c.to_le_bytes-3.ensures ∙ eight_bytes _ in
    rw (size, long, count) refl
