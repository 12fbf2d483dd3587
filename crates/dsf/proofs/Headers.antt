-- A header read back, whatever follows it; and a file that begins as a header does.
use Rattle.std.proofs.Common.{◌≡◌, refl, List, [], ◌++◌, ℕ, T, length, drop}
use Rattle.text.specs.Text.{text}
use Rattle.text.specs.Bytes.{number_of, number_at, bytes}
use Rattle.dsf.specs.Dsf.{pair, layout, pairs, orders, frequency, alike, any, all, fits, stated_length, channel_type, channels, bits_per_sample, sample_count, data_size}
use Rattle.dsf.specs.Headers.{header_with}
use Rattle.dsf.proofs.Alike.{Alike, seg, fixed_alike, all_each}
use Rattle.text.proofs.Bytes.{padded}
use Rattle.dsf.proofs.Numbers.{alike_padded}

module _ (xs ys : List ℕ) (t c b : ℕ) (ns : List ℕ) (z : ℕ) (r : List ℕ) where
  abbrev pub h : List ℕ
  h = header_with (padded 8 xs) (padded 8 ys) (pair t c) b (padded 8 ns) (bytes 8 z)

  pub length_header : length h ≡ 92
  unfolding header_with padded bytes text
  length_header = refl

  pub read_stated : stated_length (h ++ r) ≡ number_of (padded 8 xs)
  unfolding header_with padded bytes text stated_length number_at
  read_stated = refl

  pub read_channels : channels (h ++ r) ≡ number_of (bytes 4 c)
  unfolding header_with padded bytes text channels number_at
  read_channels = refl

  pub read_pointer : number_at (h ++ r) 20 8 ≡ number_of (padded 8 ys)
  unfolding header_with padded bytes text number_at
  read_pointer = refl

  pub read_type : channel_type (h ++ r) ≡ number_of (bytes 4 t)
  unfolding header_with padded bytes text channel_type number_at
  read_type = refl

  pub read_bits : bits_per_sample (h ++ r) ≡ number_of (bytes 4 b)
  unfolding header_with padded bytes text bits_per_sample number_at
  read_bits = refl

  pub read_samples : sample_count (h ++ r) ≡ number_of (padded 8 ns)
  unfolding header_with padded bytes text sample_count number_at
  read_samples = refl

  pub read_size : data_size (h ++ r) ≡ number_of (bytes 8 z)
  unfolding header_with padded bytes text data_size number_at
  read_size = refl

  pub read_frequency : T (fits (h ++ r) frequency)
  unfolding header_with padded bytes text fits any alike frequency
  read_frequency = tt

-- the header is as laid out, whatever its other fields
abbrev pub Laid : ℕ → ℕ → ℕ → Type 0
Laid t c b = (xs ys ns : List ℕ) (z : ℕ) (r : List ℕ) → T (all (fits (header_with (padded 8 xs) (padded 8 ys) (pair t c) b (padded 8 ns) (bytes 8 z) ++ r)) layout)

-- ---- the pieces of a header, each as far as the beginning goes
module _ (p : List ℕ) (laid_out : T (all (fits p) layout)) (right-frequency : T (fits p frequency)) (xs : List ℕ) (t c b z : ℕ) where
  abbrev pub head : List ℕ
  head = h xs (drop 20 p) t c b (drop 64 p) z []

  pub alike_head : Alike (drop 12 p) (padded 8 xs) → Alike (drop 48 p) (pair t c) → Alike (drop 60 p) (bytes 4 b) → Alike (drop 84 p) (bytes 8 z) → T (alike p head)
  unfolding layout pairs orders text bytes padded header_with
  alike_head ax ap ab az =
      let e = all_each (fits p) layout laid_out in
      let p80 = seg p 80 4 refl (fixed_alike p 80 (text "data") e.1.1.1.1.1.1.1.1.1.1.0) az in
      let p76 = seg p 76 4 refl (fixed_alike p 76 (bytes 4 0) e.1.1.1.1.1.1.1.1.1.0) p80 in
      let p72 = seg p 72 4 refl (fixed_alike p 72 (bytes 4 4096) e.1.1.1.1.1.1.1.1.0) p76 in
      let n64 : Alike (drop 64 p) (padded 8 (drop 64 p)) = record { is = alike_padded 8 (drop 64 p) } in
      let p64 = seg p 64 8 refl n64 p72 in
      let p60 = seg p 60 4 refl ab p64 in
      let p56 = seg p 56 4 refl (fixed_alike p 56 (bytes 4 2822400) (unfold frequency in right-frequency)) p60 in
      let p48 = seg p 48 8 refl ap p56 in
      let p44 = seg p 44 4 refl (fixed_alike p 44 (bytes 4 0) e.1.1.1.1.1.0) p48 in
      let p40 = seg p 40 4 refl (fixed_alike p 40 (bytes 4 1) e.1.1.1.1.0) p44 in
      let p32 = seg p 32 8 refl (fixed_alike p 32 (bytes 8 52) e.1.1.1.0) p40 in
      let p28 = seg p 28 4 refl (fixed_alike p 28 (text "fmt ") e.1.1.0) p32 in
      let n20 : Alike (drop 20 p) (padded 8 (drop 20 p)) = record { is = alike_padded 8 (drop 20 p) } in
      let p20 = seg p 20 8 refl n20 p28 in
      let p12 = seg p 12 8 refl ax p20 in
      let p4 = seg p 4 8 refl (fixed_alike p 4 (bytes 8 28) e.1.0) p12 in
      let p0 = seg p 0 4 refl (fixed_alike p 0 (text "DSD ") e.0) p4 in
      p0.is
