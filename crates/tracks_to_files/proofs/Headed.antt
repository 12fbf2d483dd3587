-- Headers of an accepted album.
use Rattle.std.proofs.Common.{◌≡◌, refl, subst, ◌∙◌, true, List, [], ◌∷◌, ℕ, ◌+◌, ◌-◌, ◌*◌, ◌≤◌, ◌<◌, arith, mul-le-mul, mul_comm, le_trans, length}
use native.Mathlib.Nat.{mul-sub}
use Rattle.numbers.specs.Lists.{Each}
use Rattle.reference.specs.Output.{samples_per_frame}
use Rattle.reference.specs.Refusals.{decide, accepted}
use Rattle.reference.specs.declared.Settings.{Settings}
use Rattle.reference.proofs.Frames.{frame_samples}
use Rattle.dsf.specs.Dsf.{channels, channel_type}
use Rattle.dsf.specs.Reading.{header_places as head_places}
use Rattle.wav_header.specs.Header.{sample_bytes}
use Rattle.wav_format.specs.Wav.{frame_size}
use Rattle.wave_headers.specs.Speakers.{loudspeakers}
use Rattle.wave_headers.specs.Choice.{placed}
use Rattle.wave_headers.proofs.Laws.{accepted_auto, accepted_rf64, wav_exactly}
use Rattle.tracks.specs.Tracks.{Head, tracks_channels, tracks_type, tracks_frames, open_places, first_sample, offset, data_start}
use Rattle.tracks.proofs.Opened as Opened
use Rattle.tracks.proofs.Opened.{is_opened, six_channels, with_pair}
use Rattle.tracks.proofs.Marks.{data_within, data_start_order}
use Rattle.tracks_to_files.specs.Headed.{HeadersAccepted, HeadersTaken}

less_times : (x y w : ℕ) → (x - y) * w ≡ x * w - y * w
less_times x y w = mul_comm (x - y) w ∙ mul-sub w x y ∙ rw (mul_comm w x, mul_comm w y) refl

-- a channel type has a loudspeaker for each channel
each_placed : (h : Head) → decide (head_places h.bytes h.long) ≡ accepted → placed (channels h.bytes) (channel_type h.bytes) ≡ true
unfolding placed loudspeakers
each_placed h e = with_pair h e (λ t c. placed c t ≡ true) refl refl refl refl refl refl refl

all_placed : (hs : List Head) → 0 < tracks_channels hs → Each (λ h. decide (head_places h.bytes h.long) ≡ accepted) hs → placed (tracks_channels hs) (tracks_type hs) ≡ true
unfolding tracks_channels tracks_type
all_placed [] some e = absurd (omega (arith, some))
all_placed (h ∷ hs) some e = each_placed h e.0

module _ (hs : List Head) (s : Settings) (taken : decide (open_places hs s) ≡ accepted) where
  abbrev n : ℕ
  n = tracks_channels hs

  abbrev all : ℕ
  all = tracks_frames hs * frame_size s.rate n

  -- two hours of it is far below what eight bytes tell
  small : all ≤ 18446744073709551518
  unfolding frame_size
  small =
      let o = is_opened hs s taken in
      let one : 3 * samples_per_frame s.rate ≤ 14112 = omega (arith, frame_samples s.rate) in
      let each : 3 * samples_per_frame s.rate * n ≤ 14112 * 6 = mul-le-mul one (six_channels hs s o) in
      let most : all ≤ 540000 * (14112 * 6) = mul-le-mul o.few each in
      omega (arith, most)

  headed : (m : ℕ) → m * (sample_bytes * n) ≤ all → HeadersAccepted hs (m * (sample_bytes * n))
  headed m h =
      let o = is_opened hs s taken in
      let p = all_placed hs (Opened.some hs s o) o.taken in
      let l : m * (sample_bytes * n) ≤ 18446744073709551518 = le_trans h small in
      record { auto = accepted_auto n (tracks_type hs) m p l; rf64 = accepted_rf64 n (tracks_type hs) m p l; wav = wav_exactly n (tracks_type hs) m p }

  track_headed : (k : ℕ) → k < length hs → HeadersAccepted hs (data_start s.rate n hs (k + 1) - data_start s.rate n hs k)
  unfolding data_start
  track_headed k h =
      let ends : data_start s.rate n hs (k + 1) ≤ all = le_trans (data_start_order s.rate n hs (k + 1) (length hs) (omega arith)) (data_within s.rate n hs) in
      let e = less_times (first_sample s.rate (offset hs (k + 1))) (first_sample s.rate (offset hs k)) (sample_bytes * n) in
      subst (λ (b : ℕ). HeadersAccepted hs b) e (headed (first_sample s.rate (offset hs (k + 1)) - first_sample s.rate (offset hs k)) (omega (arith, e, ends)))

  all_headed : HeadersAccepted hs all
  unfolding frame_size
  all_headed =
      let e : tracks_frames hs * samples_per_frame s.rate * (sample_bytes * n) ≡ tracks_frames hs * (3 * samples_per_frame s.rate * n) = omega arith in
      subst (λ (b : ℕ). HeadersAccepted hs b) e (headed (tracks_frames hs * samples_per_frame s.rate) (omega (arith, e)))

pub headers_taken : HeadersTaken
headers_taken hs s taken = record { track = track_headed hs s taken; all = all_headed hs s taken }
