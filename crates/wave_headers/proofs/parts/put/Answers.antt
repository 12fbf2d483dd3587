use Rattle.std.proofs.Common.{ap, ◌∙◌}
use Rattle.wav_header.specs.inner.Parts as parts
use Rattle.wave_headers.specs.Headers as headers
use Rattle.wave_headers.proofs.Putting.{plain_is, extensible_is, long_is, long_extensible_is, made}
use Rattle.wave_headers.proofs.parts.put.Goals as goal

pub returns-in-Plain : goal.returns-in-Plain
returns-in-Plain c =
    let size = rw c.in-Plain.is at c.riff_size-size.ensures.0 in
    rw c.in-Plain.is (made _ _ c.put_three.ensures (c.riff.ensures ∙ ap parts.riff size) c.format.ensures (plain_is _ _ _ _))

pub returns-in-Extensible : goal.returns-in-Extensible
returns-in-Extensible c =
    let size = rw c.in-Extensible.is at c.riff_size-size.ensures.0 in
    rw c.in-Extensible.is (made _ _ c.put_three-in-Extensible.ensures (c.riff-in-Extensible.ensures ∙ ap parts.riff size) c.extensible_format.ensures (extensible_is _ _ _ _))

pub returns-in-Rf64 : goal.returns-in-Rf64
unfolding headers.sample_count
returns-in-Rf64 c =
    let size = rw c.in-Rf64.is at c.riff_size-size.ensures.0 in
    rw c.in-Rf64.is (made _ _ c.put_three-in-Rf64.ensures (rw size at c.rf64.ensures) c.format-in-Rf64.ensures (long_is _ _ _ _))

pub returns-in-Rf64Extensible : goal.returns-in-Rf64Extensible
unfolding headers.sample_count
returns-in-Rf64Extensible c =
    let size = rw c.in-Rf64Extensible.is at c.riff_size-size.ensures.0 in
    rw c.in-Rf64Extensible.is
    (made _ _ c.put_three-in-Rf64Extensible.ensures (rw size at c.rf64-in-Rf64Extensible.ensures) c.extensible_format-format.ensures (long_extensible_is _ _ _ _))
