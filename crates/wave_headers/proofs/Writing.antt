-- A header written, or refused.
use Rattle.std.proofs.Common.{◌≡◌, refl, sym, ap, ◌∙◌, List, true, false, not, ℕ, ◌≤◌, zero-add, arith, length, Ok, Err, []}
use Rattle.text.specs.Text.{text, joined, with_text}
use Rattle.text.specs.Bytes.{bytes}
use Rattle.reference.specs.Codes.{hertz}
use Rattle.reference.specs.Refusals.{Decision, accepted, refused, decide, is_accepted}
use Rattle.reference.specs.declared.PcmRate.{PcmRate}
use Rattle.reference.specs.declared.PcmRate.TheVariants.{Hz88200, Hz176400, Hz352800}
use Rattle.reference.specs.declared.PcmError.TheVariants.{NotWav}
use Rattle.reference.proofs.Refusals.{at_first, at_next, at_end}
use Rattle.reference.proofs.Promises.{exit_accepted, exit_refused}
use Rattle.wave_headers.specs.Speakers.{mask}
use Rattle.wave_headers.specs.Headers.{header_length, riff_fields, rf64, samples_told, plain_format, extensible_format, data_fields, kind_fields, kind_header}
use Rattle.wave_headers.specs.Choice.{kind_of, writable, kind_places}
use Rattle.wave_headers.specs.inner.Parts.{HeaderArgs}
use Rattle.wave_headers.specs.Promises.{headed, HeaderPromise}
use Rattle.wave_headers.specs.declared.Format.{Format}
use Rattle.wave_headers.specs.declared.HeaderKind.{HeaderKind}
use Rattle.wave_headers.specs.declared.HeaderKind.TheVariants.{Plain, Extensible, Rf64, Rf64Extensible}
use Rattle.wave_headers.proofs.Choosing.{few_placed, writable_placed, writable_holds}

-- ---- lengths

pub length_header : (kind : HeaderKind) (rate channels speakers n : ℕ) → length (kind_header kind rate channels speakers n) ≡ header_length kind
unfolding kind_header kind_fields riff_fields rf64 plain_format extensible_format samples_told data_fields joined text bytes
length_header Plain rate channels speakers n = refl
length_header Extensible rate channels speakers n = refl
length_header Rf64 rate channels speakers n = refl
length_header Rf64Extensible rate channels speakers n = refl

pub hertz_small : (rate : PcmRate) → hertz rate ≤ 352800
hertz_small Hz88200 = omega arith
hertz_small Hz176400 = omega arith
hertz_small Hz352800 = omega arith

-- ---- the promise

module _ (asked : Format) (rate : PcmRate) (channels type n : ℕ) (out : List ℕ) where
  abbrev d : Decision
  d = decide (kind_places asked channels type n)

  abbrev kind : HeaderKind
  kind = kind_of asked channels n

  pub none_written : writable asked channels type n ≡ false → HeaderPromise asked rate channels type n out out (Err NotWav)
  unfolding kind_places is_accepted
  none_written e =
      let p : d ≡ refused 12 [] = at_first _ _ (ap not e) in
      record { decided = sym p; told = tt; written = sym (exit_refused d (headed kind rate channels type n out) out (ap is_accepted p)) }

  pub writes : {out' : List ℕ} {l : ℕ} → writable asked channels type n ≡ true → out' ≡ with_text out 0 (kind_header kind (hertz rate) channels (mask type) n) → l ≡ header_length kind
      → HeaderPromise asked rate channels type n out out' (Ok l)
  unfolding kind_places headed with_text
  writes e w t =
      let p : d ≡ accepted = at_next _ _ (ap not e) ∙ at_end in
      let k = length_header kind (hertz rate) channels (mask type) n in
      record {
        decided = sym p;
        told = t;
        written = w ∙ rw (k, zero-add (header_length kind)) refl ∙ sym (exit_accepted d (headed kind rate channels type n out) out p);
      }

  pub put_args : {hz : ℕ} → hz ≡ hertz rate → 104 ≤ length out → writable asked channels type n ≡ true → HeaderArgs kind hz channels n (length out)
  put_args h r e =
      let p = few_placed channels type (writable_placed asked channels type n e) in
      record { slow = rw h (hertz_small rate); some = p.0; few = p.1; told = writable_holds asked channels type n e; fits = r }
