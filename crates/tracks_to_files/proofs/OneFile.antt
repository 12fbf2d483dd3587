-- One file.
use Rattle.std.proofs.Common.{◌≡◌, ap, ◌∙◌, List, [], ◌∷◌, ℕ, ◌*◌, ◌%◌, ◌<◌, arith, mul_assoc, length}
use Rattle.reference.specs.Frames.{Run}
use Rattle.reference.specs.Output.{samples, stats, s24le, samples_per_frame}
use Rattle.reference.specs.Refusals.{decide, accepted}
use Rattle.reference.specs.declared.Settings.{Settings}
use Rattle.reference.specs.declared.PcmRate.{PcmRate}
use Rattle.reference.specs.declared.PcmRate.TheVariants.{Hz88200, Hz176400, Hz352800}
use Rattle.dsf.specs.Dsf.{channels, channel_type}
use Rattle.wav_format.specs.Wav.{frame_size}
use Rattle.wave_headers.specs.Headers.{wave_file}
use Rattle.wave_headers.specs.declared.HeaderKind.{HeaderKind}
use Rattle.wave_headers.specs.declared.HeaderKind.TheVariants.{Plain}
use Rattle.wave_headers.proofs.Laws.{plain_file}
use Rattle.tracks.specs.Tracks.{head_of, track_of, heads, tracks_channels, tracks_type, tracks_frames, tracks_run, open_places, album_data}
use Rattle.tracks.specs.OneTrack.{file_run}
use Rattle.tracks.proofs.Opened.{is_opened, some}
use Rattle.tracks.proofs.OneTrack.{one_track, one_opened}
use Rattle.tracks.proofs.TracksToFiles.{album_long}
use Rattle.tracks_to_files.specs.Heads.{tracks_of}
use Rattle.tracks_to_files.specs.PlanToFiles.{AllWritten}
use Rattle.tracks_to_files.specs.OneFile.{TakenFile, file_converter, file_sample_bytes, PlanToFile}
use Rattle.tracks_to_files.proofs.PlanToFiles.{plan_to_files}

-- whole frames are an even number of bytes
even : (rate : PcmRate) (f n : ℕ) → f * frame_size rate n % 2 ≡ 0
unfolding frame_size samples_per_frame
even Hz88200 f n = let e : f * (3 * 1176 * n) ≡ f * n * 3528 = omega (arith, mul_assoc f n 3528) in rw e (omega arith)
even Hz176400 f n = let e : f * (3 * 2352 * n) ≡ f * n * 7056 = omega (arith, mul_assoc f n 7056) in rw e (omega arith)
even Hz352800 f n = let e : f * (3 * 4704 * n) ≡ f * n * 14112 = omega (arith, mul_assoc f n 14112) in rw e (omega arith)

module _ (file : List ℕ) (s : Settings) (taken : TakenFile file s) where
  opened : decide (open_places (heads (tracks_of (file ∷ []))) s) ≡ accepted
  opened = one_opened file s ∙ taken

  some_channel : 0 < channels file
  unfolding tracks_channels
  some_channel = some (head_of file ∷ []) s (is_opened (head_of file ∷ []) s opened)

  -- the album's data are the file's
  pub data_is : album_data (tracks_of (file ∷ [])) s ≡ file_sample_bytes file s
  unfolding tracks_channels
  data_is = ap (λ (r : Run). s24le (samples (file_converter file s) r)) (one_track file some_channel)

  even_data : length (file_sample_bytes file s) % 2 ≡ 0
  even_data = rw (← data_is, album_long (tracks_of (file ∷ [])) s opened) (even s.rate (tracks_frames (heads (tracks_of (file ∷ [])))) (tracks_channels (heads (tracks_of (file ∷ [])))))

  stats_are : stats (file_converter file s) (tracks_run (channels file) (track_of file ∷ [])) ≡ stats (file_converter file s) (file_run file)
  stats_are = ap (stats (file_converter file s)) (one_track file some_channel)

pub plan_to_file : PlanToFile
unfolding tracks_channels tracks_type
plan_to_file file h s jobs ps g taken more most e =
    let gives = plan_to_files (file ∷ []) (h ∷ []) s jobs ps (g, tt) (opened file s taken) more most e in
    let written : (kind : HeaderKind) (out : List ℕ) → AllWritten ps kind out → out ≡ wave_file kind s.rate (channels file) (channel_type file)
    (file_sample_bytes file s) = λ kind out w. gives.all kind out w ∙ ap (wave_file kind s.rate (channels file) (channel_type file)) (data_is file s taken) in
    record {
      taken = gives.taken;
      written = written;
      plain = λ out w. written Plain out w ∙ plain_file s.rate (channels file) (channel_type file) (file_sample_bytes file s) (even_data file s taken);
      told = gives.told ∙ stats_are file s taken;
    }
