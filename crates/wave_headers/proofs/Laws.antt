-- Laws of the headers: the plain one is wav_header's, lengths, what a reader finds in the fields, what is accepted.
use Rattle.std.proofs.Common.{◌≡◌, refl, sym, ap, ◌∙◌, List, [], ◌∷◌, append-nil, Bool, true, false, cond, not, ◌&&◌, ℕ, ◌+◌, ◌-◌, ◌*◌, ◌%◌, ◌^◌, ◌≤◌, ◌<◌}
use Rattle.std.proofs.Common.{mul-le-mul, mul-div_cancel, div-le_self, arith, length, replicate, length-append, le-leb, eq-eqb, leb}
use native.Mathlib.Nat.{mul-mod_left}
use lib.ListN.{length-replicate}
use borrow.Author.Tests.{not-false}
use Rattle.text.specs.Text.{text, joined}
use Rattle.text.specs.Bytes.{bytes, number_of, number_at}
use Rattle.text.proofs.Bytes.{number_bytes}
use Rattle.reference.specs.Codes.{hertz}
use Rattle.reference.specs.Refusals.{place, decide, accepted, refused}
use Rattle.reference.specs.declared.PcmRate.{PcmRate}
use Rattle.reference.proofs.Refusals.{at_next, at_end, pass}
use Rattle.wav_header.specs.Header as wav
use Rattle.wav_header.specs.Header.{sample_bytes}
use Rattle.wav_format.specs.Wav.{wav_file}
use Rattle.wave_headers.specs.Speakers.{mask}
use Rattle.wave_headers.specs.Headers.{header_length, pad, riff_size, sample_count, elsewhere, riff_fields, rf64, samples_told}
use Rattle.wave_headers.specs.Headers.{plain_format, extensible_format, data_fields, kind_fields, kind_header, padded, wave_file}
use Rattle.wave_headers.specs.Choice.{most_of_kind, holds, short, long, kind_of, few_for, placed, whole_samples, writable, kind_places}
use Rattle.wave_headers.specs.Fields.{format_at, FormatAt, LongSizes, SizesTold, SpeakersTold}
use Rattle.wave_headers.specs.Laws.{PlainHeader, PlainFile, LengthHeader, ToldSize, AllFound, AutoAccepted, Rf64Accepted, plain_takes, WavExactly, AutoKind}
use Rattle.wave_headers.specs.declared.Format.{Format}
use Rattle.wave_headers.specs.declared.Format.TheVariants as format
use Rattle.wave_headers.specs.declared.HeaderKind.{HeaderKind}
use Rattle.wave_headers.specs.declared.HeaderKind.TheVariants.{Plain, Extensible, Rf64, Rf64Extensible}
use Rattle.wave_headers.proofs.Choosing.{few_placed, few_speakers, writable_placed, writable_holds, held_size, plain_most, extensible_most, long_most, long_extensible_most}
use Rattle.wave_headers.proofs.Writing as writing
use Rattle.wave_headers.proofs.Writing.{hertz_small}

-- ---- the plain one

pub plain_header : PlainHeader
unfolding kind_header kind_fields riff_fields riff_size pad plain_format samples_told data_fields wav.header wav.fields joined
plain_header rate channels speakers n e = let none : n + n % 2 ≡ n = omega arith in rw none refl

pub plain_file : PlainFile
unfolding wave_file padded pad wav_file
plain_file rate channels type data' e = rw (e, plain_header (hertz rate) channels (mask type) (length data') e, append-nil data') refl

-- ---- lengths

pub length_header : LengthHeader
length_header = writing.length_header

pub length_padded : (data' : List ℕ) → length (padded data') ≡ length data' + pad (length data')
unfolding padded
length_padded data' = length-append data' (replicate (pad (length data')) 0) ∙ ap (λ k. length data' + k) (length-replicate (pad (length data')) 0)

pub length_file : (kind : HeaderKind) (rate : PcmRate) (channels type : ℕ) (data' : List ℕ)
    → length (wave_file kind rate channels type data') ≡ header_length kind + (length data' + pad (length data'))
unfolding wave_file
length_file kind rate channels type data' =
    length-append (kind_header kind (hertz rate) channels (mask type) (length data')) (padded data')
    ∙ rw (length_header kind (hertz rate) channels (mask type) (length data'), length_padded data') refl

pub told_size : ToldSize
unfolding riff_size pad
told_size kind rate channels type data' = rw (length_file kind rate channels type data') (sizes kind (length data'))
  where
    sizes : (k : HeaderKind) (n : ℕ) → (8 + (header_length k - 8 + (n + n % 2)) ≡ header_length k + (n + n % 2)) × ((header_length k + (n + n % 2)) % 2 ≡ 0)
    sizes Plain n = (omega arith, omega arith)
    sizes Extensible n = (omega arith, omega arith)
    sizes Rf64 n = (omega arith, omega arith)
    sizes Rf64Extensible n = (omega arith, omega arith)

-- ---- what a reader finds

mask_small : (type : ℕ) → mask type < 256 ^ 4
unfolding mask
mask_small type = omega (arith, (few_speakers type).1)

module _ (rate channels speakers n : ℕ) (slow : rate ≤ 352800) (few : channels ≤ 6) where
  second_small : rate * (3 * channels) < 256 ^ 4
  second_small =
      let three : 3 * channels ≤ 18 = omega arith in
      omega (arith, mul-le-mul slow three)

  format_told : {h : List ℕ} {at : ℕ} → number_at h (at + 10) 2 ≡ number_of (bytes 2 channels) → number_at h (at + 12) 4 ≡ number_of (bytes 4 rate)
      → number_at h (at + 16) 4 ≡ number_of (bytes 4 (rate * (3 * channels))) → number_at h (at + 20) 2 ≡ number_of (bytes 2 (3 * channels))
      → number_at h (at + 22) 2 ≡ number_of (bytes 2 24) → FormatAt h at rate channels
  format_told a b c d e =
      record {
        channels_told = a ∙ number_bytes 2 channels (omega arith);
        rate_told = b ∙ number_bytes 4 rate (omega arith);
        second_told = c ∙ number_bytes 4 (rate * (3 * channels)) second_small;
        sample_told = d ∙ number_bytes 2 (3 * channels) (omega arith);
        bits_told = e ∙ number_bytes 2 24 (omega arith);
      }

  format_found : (kind : HeaderKind) → FormatAt (kind_header kind rate channels speakers n) (format_at kind) rate channels
  unfolding kind_header kind_fields riff_fields rf64 plain_format extensible_format samples_told data_fields joined text bytes number_at
  format_found Plain = format_told refl refl refl refl refl
  format_found Extensible = format_told refl refl refl refl refl
  format_found Rf64 = format_told refl refl refl refl refl
  format_found Rf64Extensible = format_told refl refl refl refl refl

speakers_found : (kind : HeaderKind) (rate channels speakers n : ℕ) → speakers < 256 ^ 4 → SpeakersTold kind (kind_header kind rate channels speakers n) speakers
unfolding kind_header kind_fields riff_fields rf64 extensible_format samples_told data_fields joined text bytes number_at
speakers_found Plain rate channels speakers n small = tt
speakers_found Extensible rate channels speakers n small =
    record { added_told = number_bytes 2 22 (omega arith); valid_told = number_bytes 2 24 (omega arith); mask_told = number_bytes 4 speakers small }
speakers_found Rf64 rate channels speakers n small = tt
speakers_found Rf64Extensible rate channels speakers n small =
    record { added_told = number_bytes 2 22 (omega arith); valid_told = number_bytes 2 24 (omega arith); mask_told = number_bytes 4 speakers small }

module _ (rate channels speakers n : ℕ) (some : 1 ≤ channels) where
  count_small : n < 256 ^ 8 → sample_count channels n < 256 ^ 8
  unfolding sample_count
  count_small h = omega (arith, div-le_self n (3 * channels))

  count_is : (m : ℕ) → n ≡ m * (3 * channels) → sample_count channels n ≡ m
  unfolding sample_count
  count_is m e = let s : 1 ≤ 3 * channels = omega arith in rw e (mul-div_cancel m s)

  long_told : (kind : HeaderKind) {h : List ℕ} → riff_size kind n ≤ 18446744073709551615 → number_at h 4 4 ≡ number_of (bytes 4 elsewhere)
      → number_at h (header_length kind - 4) 4 ≡ number_of (bytes 4 elsewhere) → number_at h 20 8 ≡ number_of (bytes 8 (riff_size kind n)) → number_at h 28 8 ≡ number_of (bytes 8 n)
      → number_at h 36 8 ≡ number_of (bytes 8 (sample_count channels n)) → number_at h 44 4 ≡ number_of (bytes 4 0) → LongSizes h kind channels n
  unfolding riff_size
  long_told kind s a b c d e f =
      record {
        not_there = a ∙ number_bytes 4 elsewhere (omega arith);
        nor_there = b ∙ number_bytes 4 elsewhere (omega arith);
        all_told = c ∙ number_bytes 8 (riff_size kind n) (omega arith);
        data_told = d ∙ number_bytes 8 n (omega arith);
        samples_told = λ m w. e ∙ number_bytes 8 (sample_count channels n) (count_small (omega arith)) ∙ count_is m w;
        table_told = f ∙ number_bytes 4 0 (omega arith);
      }

  sizes_found : (kind : HeaderKind) → riff_size kind n ≤ most_of_kind kind → SizesTold kind (kind_header kind rate channels speakers n) channels n
  unfolding kind_header kind_fields riff_fields rf64 plain_format extensible_format samples_told data_fields joined text bytes number_at riff_size
  sizes_found Plain h = record { all_told = number_bytes 4 (36 + (n + pad n)) (omega arith); data_told = number_bytes 4 n (omega arith) }
  sizes_found Extensible h = record { all_told = number_bytes 4 (60 + (n + pad n)) (omega arith); data_told = number_bytes 4 n (omega arith) }
  sizes_found Rf64 h = long_told Rf64 h refl refl refl refl refl refl
  sizes_found Rf64Extensible h = long_told Rf64Extensible h refl refl refl refl refl refl

pub found : AllFound
unfolding kind_places
found asked rate channels type n e =
    let w = not-false _ (pass _ _ e).0 in
    let p = few_placed channels type (writable_placed asked channels type n w) in
    let kind = kind_of asked channels n in
    record {
      formatted = format_found (hertz rate) channels (mask type) n (hertz_small rate) p.1 kind;
      speaking = speakers_found kind (hertz rate) channels (mask type) n (mask_small type);
      sized = sizes_found (hertz rate) channels (mask type) n p.0 kind (held_size kind n (writable_holds asked channels type n w));
    }

-- ---- what is accepted

both : (a b : Bool) → a ≡ true → b ≡ true → (a && b) ≡ true
both a b h k = rw (h, k) refl

module _ (channels type m : ℕ) (there : placed channels type ≡ true) where
  abbrev n : ℕ
  n = m * (sample_bytes * channels)

  whole_is : whole_samples channels n ≡ true
  unfolding whole_samples
  whole_is = eq-eqb _ _ (mul-mod_left m (sample_bytes * channels))

  goes : (asked : Format) → few_for asked channels ≡ true → holds (kind_of asked channels n) n ≡ true → decide (kind_places asked channels type n) ≡ accepted
  unfolding kind_places writable
  goes asked f h = at_next _ _ (ap not (both _ _ there (both _ _ whole_is (both _ _ f h)))) ∙ at_end

-- the long kinds hold what both hold
long_holds : (channels n : ℕ) → n ≤ 18446744073709551518 → holds (long channels) n ≡ true
unfolding long
long_holds channels n h = go (leb channels 2)
  where
    go : (b : Bool) → holds (cond b Rf64 Rf64Extensible) n ≡ true
    go true = sym (long_most n) ∙ le-leb _ _ (omega arith)
    go false = sym (long_extensible_most n) ∙ le-leb _ _ h

auto_holds : (channels n : ℕ) → n ≤ 18446744073709551518 → holds (kind_of format.Auto channels n) n ≡ true
unfolding kind_of
auto_holds channels n h = go (holds (short channels) n) refl
  where
    go : (b : Bool) → holds (short channels) n ≡ b → holds (cond b (short channels) (long channels)) n ≡ true
    go true e = e
    go false e = long_holds channels n h

pub accepted_auto : AutoAccepted
accepted_auto channels type m there h = goes channels type m there format.Auto refl (auto_holds channels _ h)

pub accepted_rf64 : Rf64Accepted
unfolding kind_of
accepted_rf64 channels type m there h = goes channels type m there format.Rf64 refl (long_holds channels _ h)

front : (a b c d : Bool) → a ≡ true → b ≡ true → (a && (b && (c && d))) ≡ (c && d)
front a b c d h k = rw (h, k) refl

decided : (b : Bool) → decide (place (not b) 12 [] ∷ []) ≡ cond b accepted (refused 12 [])
unfolding decide
decided true = refl
decided false = refl

pub wav_exactly : WavExactly
unfolding kind_places writable kind_of
wav_exactly channels type m there =
    let n = m * (sample_bytes * channels) in
    ap (λ (b : Bool). decide (place (not b) 12 [] ∷ []))
    (front _ _ (leb channels 2) (holds Plain n) there (whole_is channels type m there) ∙ ap (λ (b : Bool). leb channels 2 && b) (sym (plain_most n)))
    ∙ decided (plain_takes channels n)

pub auto_kind : AutoKind
unfolding kind_of short long
auto_kind channels n = go (leb channels 2)
  where
    go : (b : Bool)
        → cond (holds (cond b Plain Extensible) n) (cond b Plain Extensible) (cond b Rf64 Rf64Extensible)
        ≡ cond b (cond (leb n 4294967258) Plain Rf64) (cond (leb n 4294967234) Extensible Rf64Extensible)
    go true = sym (ap (λ (h : Bool). cond h Plain Rf64) (plain_most n))
    go false = sym (ap (λ (h : Bool). cond h Extensible Rf64Extensible) (extensible_most n))
