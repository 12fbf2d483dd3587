-- An album that comes as tracks: DSF files of the same channel type, whose samples end to end are one album, converted
-- as one run.
use Rattle.std.specs.Prelude.{List, [], ◌∷◌, ◌++◌, map, flat_map, false, not, cond, ℕ, ◌+◌, ◌-◌, ◌*◌, ◌/◌, ◌≤◌, ◌<◌, eqb, length, get_or, take, drop}
use Rattle.numbers.specs.Lists.{tabulate}
use Rattle.reference.specs.Frames.{Run, run, frame_bytes, frame_length, idle}
use Rattle.reference.specs.Output.{samples as samples_of, s24le}
use Rattle.reference.specs.Refusals.{Place, place, rack, too_many, is_accepted, decide, opening_places}
use Rattle.reference.specs.Settings.{converter_of}
use Rattle.reference.specs.declared.Settings.{Settings}
use Rattle.reference.specs.declared.Converter.{Converter}
use Rattle.reference.specs.declared.PcmRate.{PcmRate}
use Rattle.reference.specs.declared.PcmRate.TheVariants.{Hz88200, Hz176400, Hz352800}
use Rattle.text.specs.Lists.{part}
use Rattle.dsf.specs.Dsf.{channel_type, channels, bits_per_sample, sample_count, turn_byte, file_data}
use Rattle.dsf.specs.Reading.{header_places}
use Rattle.wav_header.specs.Header.{sample_bytes}
use Rattle.tracks.specs.Runs.{frames_from, run_from}

-- ---- tracks

-- what is known of a track's file before its data are read: its first 92 bytes, or more, and its length
pub record Head : Type 0 where
  pub bytes : List ℕ
  pub long : ℕ

-- a track: its head, and byte j of its data as `read j`
pub record Track : Type 0 where
  pub head : Head
  pub read : ℕ → ℕ

-- of a whole file
abbrev pub head_of : List ℕ → Head
head_of file = record { bytes = file; long = length file }

abbrev pub track_of : List ℕ → Track
track_of file = record { head = head_of file; read = file_data file }

abbrev pub heads : List Track → List Head
heads ts = map (λ t. t.head) ts

-- head k of heads of 92 bytes end to end, and all of them, one for each length
abbrev pub head_at : List ℕ → List ℕ → ℕ → Head
head_at bytes lengths k = record { bytes = take 92 (drop (92 * k) bytes); long = get_or lengths k 0 }

unfoldable pub heads_of : List ℕ → List ℕ → List Head
heads_of bytes lengths = tabulate (head_at bytes lengths) 0 (length lengths)

-- ---- numbers, from heads alone

-- bytes of each channel of a track: its samples are whole bytes
unfoldable pub head_length : Head → ℕ
head_length h = sample_count h.bytes / 8

-- of all tracks
unfoldable pub all_length : List Head → ℕ
all_length [] = 0
all_length (h ∷ hs) = head_length h + all_length hs

-- before track k
unfoldable pub offset : List Head → ℕ → ℕ
offset hs k = all_length (take k hs)

-- the frames that so many bytes of each channel make, the last perhaps short
unfoldable pub frames_of_bytes : ℕ → ℕ
frames_of_bytes p = (p + 4703) / frame_bytes

unfoldable pub tracks_frames : List Head → ℕ
tracks_frames hs = frames_of_bytes (all_length hs)

-- the first track's
unfoldable pub tracks_channels : List Head → ℕ
tracks_channels [] = 0
tracks_channels (h ∷ hs) = channels h.bytes

unfoldable pub tracks_type : List Head → ℕ
tracks_type [] = 0
tracks_type (h ∷ hs) = channel_type h.bytes

-- ---- bytes and frames

-- a track's bytes, the channels in turn: byte p of channel c at p × channels + c
unfoldable pub track_bytes : Track → List ℕ
track_bytes t =
    let b = t.head.bytes in
    tabulate (turn_byte t.read (channels b) (bits_per_sample b) (sample_count b)) 0 (head_length t.head * channels b)

-- the tracks end to end: one may end inside a frame, or be shorter than one
unfoldable pub tracks_bytes : List Track → List ℕ
tracks_bytes ts = flat_map track_bytes ts

-- frame k of n channels, cut from the joined bytes: the last one is filled with 0x69
unfoldable pub tracks_frame : ℕ → List Track → ℕ → List ℕ
tracks_frame n ts k = tabulate (λ j. get_or (tracks_bytes ts) j idle) (k * frame_length n) (frame_length n)

-- the whole album: there is nothing before or after
unfoldable pub tracks_run : ℕ → List Track → Run
tracks_run n ts = run false [] (frames_from (tracks_frame n ts) 0 (tracks_frames (heads ts))) false []

-- `count` frames from frame `first` on, with the frames next to them
abbrev pub tracks_piece : ℕ → List Track → ℕ → ℕ → Run
tracks_piece n ts = run_from (tracks_frame n ts) (tracks_frames (heads ts))

-- ---- what is refused

-- with the album's channels
abbrev pub settings_for : Settings → ℕ → Settings
settings_for s n = record { rate = s.rate; cutoff = s.cutoff; channels = n; gain = s.gain; filter = s.filter }

abbrev pub tracks_converter : Settings → List Head → Converter
tracks_converter s hs = converter_of (settings_for s (tracks_channels hs))

-- 5: so many bytes of each channel make too many frames
abbrev pub too_long : ℕ → Place
too_long p = too_many rack (frames_of_bytes p)

-- of the first track: 9, 10, 11 of its header; 1, 2, 3, 17, 18 of the settings; 5
unfoldable pub first_places : Head → Settings → List Place
first_places h s = header_places h.bytes h.long ++ (opening_places (settings_for s (channels h.bytes)) ++ (too_long (head_length h) ∷ []))

-- of another, with the first's channel type, and bytes of each channel up to its end: 9, 10, 11; 9; 5
unfoldable pub next_places : ℕ → ℕ → Head → List Place
next_places type end h = header_places h.bytes h.long ++ (place (not (eqb (channel_type h.bytes) type)) 9 [] ∷ too_long end ∷ [])

-- of those behind the first, with bytes of each channel before them
unfoldable pub rest_places : ℕ → ℕ → List Head → List (List Place)
rest_places type before [] = []
rest_places type before (h ∷ hs) = next_places type (before + head_length h) h ∷ rest_places type (before + head_length h) hs

-- of each track, in their order. No tracks have no channels: 1
unfoldable pub tracks_places : List Head → Settings → List (List Place)
tracks_places [] s = opening_places (settings_for s 0) ∷ []
tracks_places (h ∷ hs) s = first_places h s ∷ rest_places (channel_type h.bytes) (head_length h) hs

unfoldable pub open_places : List Head → Settings → List Place
open_places hs s = flat_map (λ p. p) (tracks_places hs s)

-- the first list that is not accepted, counted from k on; 0 where all are
unfoldable pub refused_from : ℕ → List (List Place) → ℕ
refused_from k [] = 0
refused_from k (p ∷ ps) = cond (is_accepted (decide p)) (refused_from (k + 1) ps) k

-- the track that is refused
unfoldable pub refused_track : List Head → Settings → ℕ
refused_track hs s = refused_from 0 (tracks_places hs s)

-- ---- which samples are a track's

-- bytes of a channel from one sample to the next: sample i stands on byte q × i
unfoldable pub bytes_a_sample : PcmRate → ℕ
bytes_a_sample Hz88200 = 4
bytes_a_sample Hz176400 = 2
bytes_a_sample Hz352800 = 1

-- the first sample that stands on byte p of a channel or behind it
unfoldable pub first_sample : PcmRate → ℕ → ℕ
first_sample rate p = (p + (bytes_a_sample rate - 1)) / bytes_a_sample rate

-- track k has sample i where it stands on one of the track's bytes: exactly those from `first_sample` of its offset on
-- to that of the next. Proved in proofs/Marks, `track_has` and `has_track`
pub record Has (rate : PcmRate) (hs : List Head) (k i : ℕ) : Type 0 where
  pub from : offset hs k ≤ bytes_a_sample rate * i
  pub to : bytes_a_sample rate * i < offset hs (k + 1)

-- ---- its data

-- where track k's bytes begin in the data of an album of n channels
unfoldable pub data_start : PcmRate → ℕ → List Head → ℕ → ℕ
data_start rate n hs k = first_sample rate (offset hs k) * (sample_bytes * n)

-- the album's data
abbrev pub album_data : List Track → Settings → List ℕ
album_data ts s = s24le (samples_of (tracks_converter s (heads ts)) (tracks_run (tracks_channels (heads ts)) ts))

unfoldable pub track_data : List Track → Settings → ℕ → List ℕ
track_data ts s k =
    let n = tracks_channels (heads ts) in
    part (data_start s.rate n (heads ts) k) (data_start s.rate n (heads ts) (k + 1)) (album_data ts s)

-- behind the last track: the samples of what its last frame is filled with
unfoldable pub fill_data : List Track → Settings → List ℕ
fill_data ts s = drop (data_start s.rate (tracks_channels (heads ts)) (heads ts) (length ts)) (album_data ts s)
