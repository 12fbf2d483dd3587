-- Calls of `step` with what the plan tells are steps that cut the album.
use Rattle.std.proofs.Common.{◌≡◌, refl, sym, ap, subst, ◌∙◌, Bool, true, false, cond, List, [], ◌∷◌, ◌++◌, map, ℕ, ◌+◌, ◌-◌, ◌*◌, ◌≤◌, ◌<◌, arith, ltb, length}
use Rattle.std.proofs.Common.{le-leb, lt-ltb, ltb-true, eq-eqb, Option, Some, None, min}
use mathlib.Core.List.{flat_map}
use Rattle.numbers.specs.Lists.{Each}
use Rattle.text.proofs.Options.{no_some, some_is}
use Rattle.reference.specs.Frames.{frame_length}
use Rattle.reference.specs.Output.{samples, stats, s24le}
use Rattle.reference.specs.Refusals.{decide, accepted, lent_length}
use Rattle.reference.specs.declared.Settings.{Settings}
use Rattle.reference.proofs.Refusals.{decide_skip, at_next, at_end}
use Rattle.wav_format.specs.Wav.{frame_size}
use Rattle.album_parts.specs.Parts.{job_part, part_at, part_first}
use Rattle.album_parts.proofs.Parts.{parts_cut}
use Rattle.tracks.specs.Tracks.{Head, heads, tracks_channels, tracks_frames, tracks_converter, tracks_piece, open_places}
use Rattle.tracks.specs.TracksToFiles.{Step, Cut}
use Rattle.tracks.specs.Windows.{HeadsOf, low, high}
use Rattle.tracks_open.specs.Open.{piece_total, numbers, album_of, tracks_decision}
use Rattle.tracks_open.specs.declared.Album.{Album}
use Rattle.tracks_plan.specs.Plan.{piece_count, piece_from, piece_at}
use Rattle.tracks_plan.specs.declared.cutting.Piece.{Piece}
use Rattle.tracks_step.specs.Promises.{piece_windows, piece_places, frames_places, step_places}
use Rattle.tracks_to_files.specs.Heads.{tracks_of}
use Rattle.tracks_to_files.specs.Calls.{PieceStep, stats_of, Calls, Parts}
use Rattle.tracks_to_files.specs.Steps.{TakenCall}
use Rattle.tracks_to_files.proofs.Steps.{told, opens, step_bytes, step_counted}

-- ---- a piece that there is
found : (b : Bool) (x y : Piece) → ◌≡◌ {A = Option Piece} (cond b (Some x) None) (Some y) → (b ≡ true) × (y ≡ x)
found true x y e = (refl, sym (some_is e))
found false x y e = no_some e

module _ (files : List (List ℕ)) (hs : List Head) (s : Settings) (g : HeadsOf files hs) (taken : decide (open_places (heads (tracks_of files)) s) ≡ accepted) where
  abbrev n : ℕ
  n = tracks_channels hs

  abbrev f : ℕ
  f = tracks_frames hs

  abbrev size : ℕ
  size = frame_size s.rate n

  abbrev a : Album
  a = album_of s.rate hs

  frames_are : a.frames ≡ f
  unfolding album_of numbers tracks_frames
  frames_are = refl

  -- some frames are given, with lists of the right lengths
  pub frames_taken : (first count windows scratch : ℕ) → first + count ≤ f → windows ≡ piece_windows hs first count → scratch ≡ (high hs first count - low first) * frame_length n
      → decide (frames_places hs s first count windows scratch) ≡ accepted
  unfolding frames_places piece_places lent_length
  frames_taken first count windows scratch within w h =
      decide_skip (open_places hs s) _ (opens files hs s g taken)
      ∙ at_next _ _ (rw (le-leb (first + count) f within) refl)
      ∙ at_next _ _ (rw (eq-eqb windows (piece_windows hs first count) w) refl)
      ∙ at_next _ _ (rw (eq-eqb scratch ((high hs first count - low first) * frame_length n) h) refl)
      ∙ at_end

  -- and a step on them
  step_taken : (first count windows scratch out : ℕ) → first + count ≤ f → windows ≡ piece_windows hs first count → scratch ≡ (high hs first count - low first) * frame_length n → out ≡ count * size
      → decide (step_places hs s first count windows scratch out) ≡ accepted
  unfolding step_places lent_length
  step_taken first count windows scratch out within w h o =
      decide_skip (frames_places hs s first count windows scratch) _ (frames_taken first count windows scratch within w h)
      ∙ at_next _ _ (rw (eq-eqb out (count * size) o) refl)
      ∙ at_end

  -- ---- a piece that is told
  module _ (i : ℕ) (p : Piece) (planned : piece_at a i ≡ Some p) where
    found_piece : (ltb i (piece_total f) ≡ true) × (p ≡ piece_from a (i * 128))
    unfolding piece_at album_of numbers tracks_frames
    found_piece = found (ltb i (piece_total f)) (piece_from a (i * 128)) p planned

    there : i < piece_total f
    there = ltb-true i (piece_total f) found_piece.0

    piece_is : p ≡ piece_from a (i * 128)
    piece_is = found_piece.1

    piece_first : p.first ≡ i * 128
    unfolding piece_from
    piece_first = ap (λ (p : Piece). p.first) piece_is

    piece_counted : p.count ≡ piece_count f (i * 128)
    unfolding piece_from
    piece_counted = ap (λ (p : Piece). p.count) piece_is ∙ rw frames_are refl

    piece_place : p.place ≡ p.first * size
    unfolding piece_from album_of numbers
    piece_place = rw piece_is refl

    piece_bytes : p.bytes ≡ p.count * size
    unfolding piece_from album_of numbers
    piece_bytes = rw piece_is refl

    piece_scratch : p.scratch ≡ (high hs p.first p.count - low p.first) * frame_length n
    unfolding piece_from album_of numbers tracks_frames
    piece_scratch = rw piece_is refl

    begins : i * 128 < f
    unfolding piece_total
    begins = omega (arith, there)

    piece_within : p.first + p.count ≤ f
    unfolding piece_count
    piece_within = rw (piece_first, piece_counted) (omega (arith, begins))

    -- a step on it is accepted
    pub piece_taken : (windows scratch out : ℕ) → windows ≡ piece_windows hs p.first p.count → scratch
        ≡ p.scratch → out ≡ p.bytes → decide (step_places hs s p.first p.count windows scratch out) ≡ accepted
    piece_taken windows scratch out w h o = step_taken p.first p.count windows scratch out piece_within w (h ∙ piece_scratch) (o ∙ piece_bytes)

  -- ---- a call
  module _ (c : PieceStep files hs s) where
    first_is : c.piece.first ≡ c.i * 128
    first_is = piece_first c.i c.piece c.planned

    count_is : c.piece.count ≡ piece_count f (c.i * 128)
    count_is = piece_counted c.i c.piece c.planned

    pub place_is : c.piece.place ≡ c.piece.first * size
    place_is = piece_place c.i c.piece c.planned

    pub bytes_are : c.piece.bytes ≡ c.piece.count * size
    bytes_are = piece_bytes c.i c.piece c.planned

    pub within : c.piece.first + c.piece.count ≤ f
    within = piece_within c.i c.piece c.planned

    ok : decide (step_places hs s c.piece.first c.piece.count (length c.windows) (length c.scratch) (length c.out)) ≡ accepted
    ok = piece_taken c.i c.piece c.planned (length c.windows) (length c.scratch) (length c.out) c.long c.held c.lent

    pub call_taken : tracks_decision c.answer ≡ accepted
    call_taken = c.promise.decided ∙ ok

    taken_call : TakenCall files hs s
    taken_call = record {
      first = c.piece.first;
      count = c.piece.count;
      windows = c.windows;
      of_windows = c.of_windows;
      scratch = c.scratch;
      scratch' = c.scratch';
      out = c.out;
      out' = c.out';
      answer = c.answer;
      promise = c.promise;
      taken = call_taken;
    }

    pub bytes : c.out' ≡ s24le (samples (tracks_converter s (heads (tracks_of files))) (tracks_piece (tracks_channels (heads (tracks_of files))) (tracks_of files) c.piece.first c.piece.count))
    unfolding taken_call
    bytes = step_bytes files hs s g taken taken_call

    pub counted : stats_of c.answer ≡ stats (tracks_converter s (heads (tracks_of files))) (tracks_piece (tracks_channels (heads (tracks_of files))) (tracks_of files) c.piece.first c.piece.count)
    unfolding taken_call
    counted = step_counted files hs s g taken taken_call

    unfoldable pub step_of : Step (tracks_of files) s
    step_of = record { first = c.piece.first; count = c.piece.count; out = c.out'; told = stats_of c.answer; written = bytes; counted = counted }

  all_taken : (cs : List (PieceStep files hs s)) → Each (λ c. tracks_decision c.answer ≡ accepted) cs
  all_taken [] = tt
  all_taken (c ∷ cs) = (call_taken c, all_taken cs)

  pub parts_taken : (ps : List (List (PieceStep files hs s))) → Each (λ p. Each (λ c. tracks_decision c.answer ≡ accepted) p) ps
  parts_taken [] = tt
  parts_taken (p ∷ ps) = (all_taken p, parts_taken ps)

  -- ---- in the order of the pieces they cut the album
  up_to : (k : ℕ) (cs : List (PieceStep files hs s)) → Calls k (piece_total f) cs → k ≤ piece_total f
  up_to k [] e = omega arith
  up_to k (c ∷ cs) e = omega (arith, up_to (k + 1) cs e.1)

  -- where piece k begins: past the last, at the album's end
  abbrev at : ℕ → ℕ
  at k = min (k * 128) f

  at_last : (k : ℕ) → k ≡ piece_total f → at k ≡ f
  unfolding piece_total
  at_last k e = omega arith

  at_piece : (k : ℕ) → k < piece_total f → k * 128 ≡ at k
  unfolding piece_total
  at_piece k h = omega arith

  at_next_piece : (k : ℕ) → k < piece_total f → at (k + 1) ≡ at k + piece_count f (k * 128)
  unfolding piece_total piece_count
  at_next_piece k h = omega arith

  cut_from : (k : ℕ) (cs : List (PieceStep files hs s)) → Calls k (piece_total f) cs → Cut (at k) f (map step_of cs)
  unfolding step_of
  cut_from k [] e = at_last k e
  cut_from k (c ∷ cs) e =
      let h : k < piece_total f = omega (arith, up_to (k + 1) cs e.1) in
      let count : c.piece.count ≡ piece_count f (k * 128) = count_is c ∙ ap (λ (i : ℕ). piece_count f (i * 128)) e.0 in
      let on : at (k + 1) ≡ at k + c.piece.count = at_next_piece k h ∙ ap (λ (m : ℕ). at k + m) (sym count) in
      (first_is c ∙ ap (λ (i : ℕ). i * 128) e.0 ∙ at_piece k h, subst (λ (from : ℕ). Cut from f (map step_of cs)) on (cut_from (k + 1) cs e.1))

  pub calls_cut : (cs : List (PieceStep files hs s)) → Calls 0 (piece_total f) cs → Cut 0 (tracks_frames (heads (tracks_of files))) (map step_of cs)
  calls_cut cs e =
      let z : at 0 ≡ 0 = omega arith in
      subst (λ (to : ℕ). Cut 0 to (map step_of cs)) (told files hs s g taken).frames (subst (λ (from : ℕ). Cut from f (map step_of cs)) z (cut_from 0 cs e))

-- ---- the parts in turn
calls_join : {files : List (List ℕ)} {hs : List Head} {s : Settings} (a b c : ℕ) (l m : List (PieceStep files hs s)) → Calls a b l → Calls b c m → Calls a c (l ++ m)
calls_join a b c [] m e d = rw e d
calls_join a b c (x ∷ l) m e d = (e.0, calls_join (a + 1) b c l m e.1 d)

module _ (files : List (List ℕ)) (hs : List Head) (s : Settings) (jobs : ℕ) (few : tracks_frames hs ≤ 540000) (some : 0 < jobs) (most : jobs ≤ 64) where
  abbrev P : ℕ
  P = piece_total (tracks_frames hs)

  no_more : (j : ℕ) (ps : List (List (PieceStep files hs s))) → Parts jobs j ps → j ≤ jobs
  no_more j [] e = omega arith
  no_more j (p ∷ ps) e = omega (arith, no_more (j + 1) ps e.1)

  pub part_is : (j : ℕ) → j < jobs → job_part (tracks_frames hs) jobs j ≡ record { first = part_first P jobs j; end = part_first P jobs (j + 1) }
  unfolding job_part part_at piece_total
  part_is j h = rw (le-leb (tracks_frames hs) 540000 few, le-leb jobs 64 most, lt-ltb j jobs h) refl

  parts_begin : part_first P jobs 0 ≡ 0
  unfolding piece_total
  parts_begin = (parts_cut (tracks_frames hs)).begin jobs some

  parts_end : part_first P jobs jobs ≡ P
  unfolding piece_total
  parts_end = (parts_cut (tracks_frames hs)).end jobs some

  from_part : (j : ℕ) (ps : List (List (PieceStep files hs s))) → Parts jobs j ps → Calls (part_first P jobs j) P (flat_map (λ p. p) ps)
  unfolding flat_map
  from_part j [] e = rw e parts_end
  from_part j (p ∷ ps) e =
      let h : j < jobs = omega (arith, no_more (j + 1) ps e.1) in
      calls_join (part_first P jobs j) (part_first P jobs (j + 1)) P p _ (rw (part_is j h) at e.0) (from_part (j + 1) ps e.1)

  pub parts_are_all : (ps : List (List (PieceStep files hs s))) → Parts jobs 0 ps → Calls 0 P (flat_map (λ p. p) ps)
  parts_are_all ps e = subst (λ (a : ℕ). Calls a P (flat_map (λ p. p) ps)) parts_begin (from_part 0 ps e)
