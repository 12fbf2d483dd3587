-- Where the tracks begin, in bytes of a channel, in samples and in the album's data.
use Rattle.std.proofs.Common.{◌≡◌, refl, List, [], ◌∷◌, ℕ, zero, suc, ◌+◌, ◌-◌, ◌*◌, ◌/◌, ◌≤◌, ◌<◌, mul-le-mul_right, add-zero, le_trans, add-one, arith}
use Rattle.std.proofs.Common.{length}
use lib.Seq.{take-length}
use Rattle.reference.specs.Output.{samples_per_frame}
use Rattle.reference.specs.declared.PcmRate.{PcmRate}
use Rattle.reference.specs.declared.PcmRate.TheVariants.{Hz88200, Hz176400, Hz352800}
use Rattle.wav_header.specs.Header.{sample_bytes}
use Rattle.wav_format.specs.Wav.{frame_size}
use Rattle.tracks.specs.Tracks.{Head, all_length, frames_of_bytes, tracks_frames, bytes_a_sample, first_sample, offset, Has, data_start}

-- ---- samples

-- a sample is at or behind the first of a byte where it stands on the byte or behind it
pub at_or_behind : (rate : PcmRate) (p i : ℕ) → p ≤ bytes_a_sample rate * i → first_sample rate p ≤ i
unfolding first_sample bytes_a_sample
at_or_behind Hz88200 p i h = omega arith
at_or_behind Hz176400 p i h = omega arith
at_or_behind Hz352800 p i h = omega arith

pub stands_behind : (rate : PcmRate) (p i : ℕ) → first_sample rate p ≤ i → p ≤ bytes_a_sample rate * i
unfolding first_sample bytes_a_sample
stands_behind Hz88200 p i h = omega arith
stands_behind Hz176400 p i h = omega arith
stands_behind Hz352800 p i h = omega arith

pub before : (rate : PcmRate) (p i : ℕ) → bytes_a_sample rate * i < p → i < first_sample rate p
unfolding first_sample bytes_a_sample
before Hz88200 p i h = omega arith
before Hz176400 p i h = omega arith
before Hz352800 p i h = omega arith

pub stands_before : (rate : PcmRate) (p i : ℕ) → i < first_sample rate p → bytes_a_sample rate * i < p
unfolding first_sample bytes_a_sample
stands_before Hz88200 p i h = omega arith
stands_before Hz176400 p i h = omega arith
stands_before Hz352800 p i h = omega arith

-- a track's samples are those from its first on to the next track's
pub track_has : (rate : PcmRate) (hs : List Head) (k i : ℕ) → Has rate hs k i → (first_sample rate (offset hs k) ≤ i) × (i < first_sample rate (offset hs (k + 1)))
track_has rate hs k i h = (at_or_behind rate (offset hs k) i (h.from), before rate (offset hs (k + 1)) i (h.to))

pub has_track : (rate : PcmRate) (hs : List Head) (k i : ℕ) → first_sample rate (offset hs k) ≤ i → i < first_sample rate (offset hs (k + 1)) → Has rate hs k i
has_track rate hs k i h l = record { from = stands_behind rate (offset hs k) i h; to = stands_before rate (offset hs (k + 1)) i l }

first_none : (rate : PcmRate) → first_sample rate 0 ≡ 0
unfolding first_sample bytes_a_sample
first_none Hz88200 = refl
first_none Hz176400 = refl
first_none Hz352800 = refl

first_order : (rate : PcmRate) (p q : ℕ) → p ≤ q → first_sample rate p ≤ first_sample rate q
unfolding first_sample bytes_a_sample
first_order Hz88200 p q h = omega arith
first_order Hz176400 p q h = omega arith
first_order Hz352800 p q h = omega arith

-- ---- bytes of a channel

offset_order : (hs : List Head) (k : ℕ) → offset hs k ≤ offset hs (k + 1)
unfolding offset all_length
offset_order [] zero = omega arith
offset_order [] (suc k) = omega arith
offset_order (h ∷ hs) zero = omega arith
offset_order (h ∷ hs) (suc k) = rw (add-one (suc k)) (omega (arith, rw (add-one k) at (offset_order hs k)))

offset_all : (hs : List Head) → offset hs (length hs) ≡ all_length hs
unfolding offset
offset_all hs = rw (take-length hs) refl

-- ---- the album's data

module _ (rate : PcmRate) (n : ℕ) (hs : List Head) where
  pub data_none : data_start rate n hs 0 ≡ 0
  unfolding data_start offset all_length
  data_none = rw (first_none rate) (omega arith)

  pub data_order : (k : ℕ) → data_start rate n hs k ≤ data_start rate n hs (k + 1)
  unfolding data_start
  data_order k = mul-le-mul_right (sample_bytes * n) (first_order rate (offset hs k) (offset hs (k + 1)) (offset_order hs k))

  pub data_start_order : (j k : ℕ) → j ≤ k → data_start rate n hs j ≤ data_start rate n hs k
  data_start_order j k h = let e : j + (k - j) ≡ k = omega arith in rw (← e) (up (k - j))
    where
      up : (m : ℕ) → data_start rate n hs j ≤ data_start rate n hs (j + m)
      up zero = rw (add-zero j) (omega arith)
      up (suc m) =
          let e : j + suc m ≡ j + m + 1 = omega arith in
          rw e (le_trans (up m) (data_order (j + m)))

  -- the frames hold the samples
  enough : (r : PcmRate) (p : ℕ) → first_sample r p ≤ (p + 4703) / 4704 * samples_per_frame r
  unfolding first_sample bytes_a_sample samples_per_frame
  enough Hz88200 p = omega arith
  enough Hz176400 p = omega arith
  enough Hz352800 p = omega arith

  pub data_within : data_start rate n hs (length hs) ≤ tracks_frames hs * frame_size rate n
  unfolding data_start tracks_frames frames_of_bytes frame_size
  data_within =
      let f = (all_length hs + 4703) / 4704 in
      let m = mul-le-mul_right (3 * n) (enough rate (all_length hs)) in
      let e : f * samples_per_frame rate * (3 * n) ≡ f * (3 * samples_per_frame rate * n) = omega arith in
      rw (offset_all hs) (omega (arith, m))
