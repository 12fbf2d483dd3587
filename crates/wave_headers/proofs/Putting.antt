-- A header of its parts.
use Rattle.std.proofs.Common.{◌≡◌, refl, List, ◌++◌, ℕ}
use Rattle.text.specs.Text.{text, joined, with_text}
use Rattle.text.specs.Bytes.{bytes}
use Rattle.wav_header.specs.inner.Parts as parts
use Rattle.wave_headers.specs.Headers.{riff_size, sample_count, elsewhere, riff_fields, rf64, samples_told, plain_format, extensible_format, data_fields, kind_fields, kind_header}
use Rattle.wave_headers.specs.declared.HeaderKind.TheVariants.{Plain, Extensible, Rf64, Rf64Extensible}

module _ (rate channels speakers n : ℕ) where
  pub plain_is : kind_header Plain rate channels speakers n ≡ parts.riff (riff_size Plain n) ++ (parts.format_part rate channels ++ parts.data_head n)
  unfolding kind_header kind_fields riff_fields plain_format samples_told data_fields parts.riff parts.format_part parts.data_head joined text bytes
  plain_is = refl

  pub extensible_is : kind_header Extensible rate channels speakers n ≡ parts.riff (riff_size Extensible n) ++ (joined (extensible_format rate channels speakers) ++ parts.data_head n)
  unfolding kind_header kind_fields riff_fields extensible_format samples_told data_fields parts.riff parts.data_head joined text bytes
  extensible_is = refl

  pub long_is : kind_header Rf64 rate channels speakers n ≡ joined (rf64 (riff_size Rf64 n) n (sample_count channels n)) ++ (parts.format_part rate channels ++ parts.data_head elsewhere)
  unfolding kind_header kind_fields rf64 plain_format samples_told data_fields parts.format_part parts.data_head joined text bytes
  long_is = refl

  pub long_extensible_is : kind_header Rf64Extensible rate channels speakers n ≡ joined (rf64 (riff_size Rf64Extensible n) n (sample_count channels n))
      ++ (joined (extensible_format rate channels speakers) ++ parts.data_head elsewhere)
  unfolding kind_header kind_fields rf64 extensible_format samples_told data_fields parts.data_head joined text bytes
  long_extensible_is = refl

-- as it was put, with the parts as they were made
pub made : (out : List ℕ) (size : ℕ) {new f first s second h : List ℕ} → new ≡ with_text out 0 (f ++ (s ++ parts.data_head size)) → f ≡ first → s ≡ second
    → h ≡ first ++ (second ++ parts.data_head size) → new ≡ with_text out 0 h
made out size e p q r = rw (e, p, q, r) refl
