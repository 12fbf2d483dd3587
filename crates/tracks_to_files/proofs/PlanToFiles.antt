-- The plan, from tracks to files.
use Rattle.std.proofs.Common.{◌≡◌, refl, sym, ap, subst, ◌∙◌, List, [], ◌∷◌, ◌++◌, map, ℕ, ◌+◌, ◌-◌, ◌*◌, ◌≤◌, ◌<◌, arith, length, replicate}
use mathlib.Core.List.{flat_map}
use lib.ListN.{length-replicate}
use Rattle.numbers.specs.Lists.{Each}
use Rattle.reference.specs.Codes.{hertz}
use Rattle.reference.specs.Refusals.{decide, accepted}
use Rattle.reference.specs.Statistics.{all_joined}
use Rattle.reference.specs.declared.Settings.{Settings}
use Rattle.reference.specs.declared.ConvertStats.{ConvertStats}
use Rattle.text.specs.Lists.{part}
use Rattle.sheet.specs.Sheet.{sheet}
use Rattle.wav_format.specs.Wav.{frame_size}
use Rattle.wave_headers.specs.Speakers.{mask}
use Rattle.wave_headers.specs.Headers.{header_length, pad, kind_header, padded, wave_file}
use Rattle.wave_headers.specs.declared.HeaderKind.{HeaderKind}
use Rattle.wave_headers.proofs.Laws.{length_header}
use Rattle.tracks.specs.Tracks.{Head, heads, tracks_channels, tracks_type, tracks_frames, open_places, data_start, album_data, track_data}
use Rattle.tracks.specs.TracksToFiles.{album_frame, Step, HoldsAt, clip, Holding, Gives}
use Rattle.tracks.specs.Windows.{HeadsOf}
use Rattle.tracks.proofs.Parts.{length_part}
use Rattle.tracks.proofs.TracksToFiles.{tracks_to_files, album_long, track_within, step_long}
use Rattle.tracks_to_files.specs.Heads.{tracks_of}
use Rattle.tracks_to_files.specs.Calls.{PieceStep, stats_of}
use Rattle.tracks_to_files.specs.PlanToFiles.{write_for, FileWritten, TrackWritten, AllWritten, file_of, all_told, PlanGives, PlanToFiles}
use Rattle.tracks_to_files.proofs.Calls.{place_is, within, step_of, bytes_are, parts_taken, calls_cut, parts_are_all}
use Rattle.tracks_to_files.proofs.Steps.{told, opened}
use Rattle.tracks_to_files.proofs.Joining.{joined_by_parts}
use Rattle.tracks_to_files.proofs.Writes.{told_held}

module _ (files : List (List ℕ)) (hs : List Head) (s : Settings) (g : HeadsOf files hs) (taken : decide (open_places (heads (tracks_of files)) s) ≡ accepted) where
  abbrev n : ℕ
  n = tracks_channels hs

  abbrev n' : ℕ
  n' = tracks_channels (heads (tracks_of files))

  abbrev pub step : PieceStep files hs s → Step (tracks_of files) s
  step = step_of files hs s g taken

  pub size_is : frame_size s.rate n ≡ album_frame (tracks_of files) s
  size_is = ap (frame_size s.rate) (told files hs s g taken).channels

  pub place_of : (c : PieceStep files hs s) → c.piece.place ≡ c.piece.first * album_frame (tracks_of files) s
  place_of c = place_is files hs s g taken c ∙ ap (λ (k : ℕ). c.piece.first * k) size_is

  within_file : (c : PieceStep files hs s) → c.piece.first + c.piece.count ≤ tracks_frames (heads (tracks_of files))
  within_file c = subst (λ (f : ℕ). c.piece.first + c.piece.count ≤ f) (told files hs s g taken).frames (within files hs s g taken c)

  pub bytes_of : (c : PieceStep files hs s) → c.piece.bytes ≡ length c.out'
  unfolding step_of
  bytes_of c = bytes_are files hs s g taken c ∙ ap (λ (k : ℕ). c.piece.count * k) size_is ∙ sym (step_long (tracks_of files) s taken (step c) (within_file c))

  -- ---- a file
  module _ (kind : HeaderKind) (low high : ℕ) where
    abbrev pub front : List ℕ
    front = kind_header kind (hertz s.rate) n (mask (tracks_type hs)) (high - low)

    abbrev pub behind : List ℕ
    behind = replicate (pad (high - low)) 0

    pub front_long : length front ≡ header_length kind
    front_long = length_header kind (hertz s.rate) n (mask (tracks_type hs)) (high - low)

    module _ (out : List ℕ) where
      abbrev Told : PieceStep files hs s → Type 0
      Told c = HoldsAt out (header_length kind + (write_for low high c).at) (part (write_for low high c).begin (write_for low high c).end c.out')

      held : (c : PieceStep files hs s) → Told c
          → HoldsAt out (length front + (c.piece.first * album_frame (tracks_of files) s - low)) (clip low high (c.piece.first * album_frame (tracks_of files) s) c.out')
      held c e = rw (front_long, ← place_of c) (told_held c.piece.place low high (header_length kind) c.out' out (rw (bytes_of c) at e))

      each_both : (l m : List (PieceStep files hs s)) → Each Told l → Each Told m → Each Told (l ++ m)
      each_both [] m e d = d
      each_both (c ∷ l) m e d = (e.0, each_both l m e.1 d)

      each_part : (ps : List (List (PieceStep files hs s))) → Each (λ p. Each Told p) ps → Each Told (flat_map (λ p. p) ps)
      unfolding flat_map
      each_part [] e = tt
      each_part (p ∷ ps) e = each_both p (flat_map (λ p. p) ps) e.0 (each_part ps e.1)

      each_step : (cs : List (PieceStep files hs s)) → Each Told cs
          → Each (λ p. HoldsAt out (length front + (p.first * album_frame (tracks_of files) s - low)) (clip low high (p.first * album_frame (tracks_of files) s) p.out)) (map step cs)
      unfolding step_of
      each_step [] e = tt
      each_step (c ∷ cs) e = (held c e.0, each_step cs e.1)

      holding : (ps : List (List (PieceStep files hs s))) → FileWritten ps kind low high out → Holding (map step (flat_map (λ p. p) ps)) low high front behind out
      holding ps e = record {
        long = rw (front_long, length-replicate {A = ℕ} (pad (high - low)) 0) e.long;
        begins = e.headed;
        each = each_step (flat_map (λ p. p) ps) (each_part ps e.each);
        ends = rw front_long e.padded;
      }

    -- header, data and pad
    pub file_is : (d : List ℕ) → length d ≡ high - low → front ++ (d ++ behind) ≡ file_of files s kind d
    unfolding wave_file padded
    file_is d l = rw (l, ← (told files hs s g taken).channels, ← (told files hs s g taken).type) refl

  -- ---- the marks
  pub mark_is : (k : ℕ) → data_start s.rate n hs k ≡ data_start s.rate n' (heads (tracks_of files)) k
  mark_is k = (told files hs s g taken).marks s.rate n k ∙ ap (λ (m : ℕ). data_start s.rate m (heads (tracks_of files)) k) (told files hs s g taken).channels

  pub end_is : tracks_frames hs * frame_size s.rate n ≡ tracks_frames (heads (tracks_of files)) * album_frame (tracks_of files) s
  end_is = rw (size_is, (told files hs s g taken).frames) refl

  pub length_files : (fs : List (List ℕ)) → length (tracks_of fs) ≡ length fs
  length_files [] = refl
  length_files (f ∷ fs) = rw (length_files fs) refl

  module _ (ps : List (List (PieceStep files hs s))) (gives : Gives (map step (flat_map (λ p. p) ps))) where
    track_is : (kind : HeaderKind) (k : ℕ) → k < length files → (out : List ℕ) → TrackWritten ps kind k out → out ≡ file_of files s kind (track_data (tracks_of files) s k)
    unfolding track_data
    track_is kind k h out e =
        let low = data_start s.rate n' (heads (tracks_of files)) k in
        let high = data_start s.rate n' (heads (tracks_of files)) (k + 1) in
        let there : k < length (tracks_of files) = rw (length_files files) h in
        let d : FileWritten ps kind low high out = rw (mark_is k, mark_is (k + 1)) at e in
        let long : length (part low high (album_data (tracks_of files) s)) ≡ high - low =
        length_part low high (album_data (tracks_of files) s) (rw (album_long (tracks_of files) s taken) (track_within (tracks_of files) s taken k there)) in
        gives.tracks k there (front kind low high) (behind kind low high) out (holding kind low high out ps d)
        ∙ file_is kind low high (part low high (album_data (tracks_of files) s)) long

    all_is : (kind : HeaderKind) (out : List ℕ) → AllWritten ps kind out → out ≡ file_of files s kind (album_data (tracks_of files) s)
    all_is kind out e =
        let high = tracks_frames (heads (tracks_of files)) * album_frame (tracks_of files) s in
        let d : FileWritten ps kind 0 high out = rw end_is at e in
        gives.all (front kind 0 high) (behind kind 0 high) out (holding kind 0 high out ps d)
        ∙ file_is kind 0 high (album_data (tracks_of files) s) (album_long (tracks_of files) s taken ∙ omega arith)

    -- ---- statistics
    abbrev stats_in : List (PieceStep files hs s) → List ConvertStats
    stats_in = map (λ c. stats_of c.answer)

    told_by_both : (l m : List (PieceStep files hs s)) → stats_in l ++ map (λ (p : Step (tracks_of files) s). p.told) (map step m) ≡ map (λ (p : Step (tracks_of files) s). p.told) (map step (l ++ m))
    unfolding step_of
    told_by_both [] m = refl
    told_by_both (c ∷ l) m = ap (λ (r : List ConvertStats). stats_of c.answer ∷ r) (told_by_both l m)

    told_by_steps : (qs : List (List (PieceStep files hs s))) → flat_map (λ l. l) (map stats_in qs) ≡ map (λ (p : Step (tracks_of files) s). p.told) (map step (flat_map (λ p. p) qs))
    unfolding flat_map
    told_by_steps [] = refl
    told_by_steps (q ∷ qs) = ap (λ (r : List ConvertStats). stats_in q ++ r) (told_by_steps qs) ∙ told_by_both q (flat_map (λ p. p) qs)

    all_told_is : all_told ps ≡ all_joined (map (λ (p : Step (tracks_of files) s). p.told) (map step (flat_map (λ p. p) ps)))
    all_told_is = joined_by_parts (map stats_in ps) ∙ ap all_joined (told_by_steps ps)

    pub plan_gives : PlanGives files hs s ps
    plan_gives = record {
      taken = parts_taken files hs s g taken ps;
      tracks = track_is;
      all = all_is;
      whole = rw (length_files files) at gives.parts;
      told = all_told_is ∙ gives.told;
      sheets = ap (sheet n) (all_told_is ∙ gives.told);
    }

pub plan_to_files : PlanToFiles
plan_to_files files hs s jobs ps g taken some most e =
    let few = (opened files hs s g taken).few in
    let calls = parts_are_all files hs s jobs few some most ps e in
    let cs = flat_map (λ p. p) ps in
    plan_gives files hs s g taken ps (tracks_to_files (tracks_of files) s (map (step_of files hs s g taken) cs) taken (calls_cut files hs s g taken cs calls))
