-- From tracks to files.
use Rattle.std.proofs.Common.{◌≡◌, refl, sym, ap, ap₂, subst, ◌∙◌, true, false, List, [], ◌∷◌, ◌++◌, map, ℕ, suc, ◌+◌, ◌-◌, ◌*◌, ◌≤◌, ◌<◌, zero-add, zero-mul}
use Rattle.std.proofs.Common.{le_trans, arith, length, take, drop, drop_of_length-le, length-take, length-drop, take-append-drop, drop-drop, le-ltb, Ok}
use mathlib.Core.List.{flat_map}
use native.Mathlib.Nat.{sub-zero}
use lib.Seq.{take-length}
use Rattle.numbers.specs.Lists.{tabulate, Each}
use Rattle.numbers.proofs.Lists.{length_tabulate}
use Rattle.text.specs.Text.{joined}
use Rattle.reference.specs.Frames.{Run, frame_length, frame, frame_count, sequence, channel_byte}
use Rattle.reference.specs.Settings.{converter_of}
use Rattle.reference.specs.Output.{samples, stats, s24le}
use Rattle.reference.specs.Promises.{if_lent, stats_told}
use Rattle.reference.specs.Refusals.{rack, accepted, decide, is_accepted, held_places, input_places, convert_places}
use Rattle.reference.specs.Statistics.{all_joined}
use Rattle.reference.specs.declared.Settings.{Settings}
use Rattle.reference.specs.declared.Converter.{Converter}
use Rattle.reference.specs.declared.ConvertStats.{ConvertStats}
use Rattle.reference.proofs.Refusals.{decide_skip}
use Rattle.reference.proofs.Promises.{exit_accepted}
use Rattle.text.specs.Lists.{part}
use Rattle.joins.specs.Joins.{Call, convert, run_of, answer_of, samples_of, read_s24le, right_lengths, is_answered_accepted, keep, pieces, SameBytes, Agree, AllAgree, JoinTo, GiveWholeRun}
use Rattle.joins.proofs.Bytes.{samples_back, bytes_join, no_bytes}
use Rattle.joins.proofs.Joins.{cut_runs_join}
use Rattle.tracks.specs.Runs.{frames_from, run_from, there}
use Rattle.tracks.specs.Tracks.{Track, heads, tracks_channels, tracks_frames, tracks_frame, tracks_run, tracks_piece, tracks_converter, open_places, data_start, album_data, track_data, fill_data}
use Rattle.tracks.specs.TracksToFiles.{album_frame, Step, Cut, HoldsAt, clip, Holding, HoldingTrack, HoldingAll, TracksToFiles, PieceAccepted}
use Rattle.tracks.proofs.Sequences.{none_from, from_join, before_is, after_is}
use Rattle.tracks.proofs.StepCalls.{frames_are, fits_run, samples_are, accepted_call}
use Rattle.tracks.proofs.Opened as Opened
use Rattle.tracks.proofs.Opened.{is_opened}
use Rattle.tracks.proofs.Marks.{data_none, data_order, data_within, data_start_order}
use Rattle.tracks.proofs.Parts.{parts_join, clip_none, clip_all, clip_join, length_part, next_place, held_between, three_parts}

pub tracks_frame_length : (n : ℕ) (ts : List Track) (k : ℕ) → length (tracks_frame n ts k) ≡ frame_length n
unfolding tracks_frame
tracks_frame_length n ts k = length_tabulate _ _ _

same_bytes : {n start m : ℕ} {x y : List ℕ} → x ≡ y → SameBytes n start m x y
same_bytes {n} {start} e = record { same = λ c k h l. ap (λ (x : List ℕ). channel_byte n x c (start + k)) e }

pub length_heads : (ts : List Track) → length (heads ts) ≡ length ts
length_heads [] = refl
length_heads (t ∷ ts) = ap (λ (k : ℕ). suc k) (length_heads ts)

module _ (ts : List Track) (s : Settings) (taken : decide (open_places (heads ts) s) ≡ accepted) where
  abbrev n : ℕ
  n = tracks_channels (heads ts)

  abbrev conv : Converter
  conv = tracks_converter s (heads ts)

  abbrev F : ℕ → List ℕ
  F = tracks_frame n ts

  abbrev f : ℕ
  f = tracks_frames (heads ts)

  abbrev size : ℕ
  size = album_frame ts s

  opened : Opened.Opened (heads ts) s
  opened = is_opened (heads ts) s taken

  opens : decide (held_places conv) ≡ accepted
  opens = Opened.opens (heads ts) s opened

  some : 0 < n
  some = Opened.some (heads ts) s opened

  few : f ≤ 540000
  few = opened.few

  long : (k : ℕ) → length (F k) ≡ frame_length n
  long = tracks_frame_length n ts

  accepted_piece : (first count : ℕ) → first + count ≤ f → (out : List ℕ) → length out ≡ count * size → decide (convert_places rack conv (tracks_piece n ts first count) out false []) ≡ accepted
  unfolding converter_of
  accepted_piece first count h out e = accepted_call conv some F long f first count (omega (arith, few)) out e opens

  -- ---- a step
  module _ (p : Step ts s) (h : p.first + p.count ≤ f) where
    pub step_long : length p.out ≡ p.count * size
    unfolding s24le samples converter_of
    step_long =
        ap length p.written ∙ length_tabulate _ _ _ ∙ ap (λ (k : ℕ). 3 * k) (length_tabulate _ _ _)
        ∙ samples_are conv some F long f p.first p.count (omega (arith, few))

    ok : decide (convert_places rack conv (tracks_piece n ts p.first p.count) p.out false []) ≡ accepted
    ok = accepted_piece p.first p.count h p.out step_long

    -- as a call of `convert` with a list that long
    step_call : Call conv
    unfolding if_lent stats_told
    step_call = convert (record {
      whose = rack;
      run = tracks_piece n ts p.first p.count;
      lent = false;
      out = p.out;
      counts = [];
      out' = p.out;
      counts' = [];
      answer = Ok p.told;
      promise = record {
        answered = record { decided = sym ok; counted = p.counted ∙ sym (exit_accepted _ _ _ ok) };
        written = p.written ∙ sym (exit_accepted _ _ _ ok);
        per_frame = sym (exit_accepted _ _ _ ok);
      };
    })

    step_right : right_lengths step_call ≡ true
    unfolding right_lengths step_call convert_places is_accepted
    step_right = ap is_accepted (sym (decide_skip (held_places conv) _ opens) ∙ ok)

    step_answered : is_answered_accepted step_call ≡ true
    unfolding is_answered_accepted step_call is_accepted
    step_answered = refl

    step_run : run_of step_call ≡ tracks_piece n ts p.first p.count
    unfolding step_call
    step_run = refl

    step_told : stats_told (answer_of step_call) ≡ p.told
    unfolding step_call stats_told
    step_told = refl

    -- the frames next to it are the album's
    step_agree : Agree conv (frame n (sequence n (tracks_run n ts)) p.first) (run_of step_call) (frame n (sequence n (tracks_run n ts)) (suc (p.first + p.count)))
    unfolding tracks_run converter_of step_call
    step_agree = record {
      last = same_bytes (before_is n F f long p.first p.count h);
      first = same_bytes (after_is n F f long p.first p.count h);
    }

    step_count : frame_count n (run_of step_call).frames ≡ p.count
    unfolding step_call converter_of
    step_count = frames_are conv some F long f p.first p.count (omega (arith, few))

    step_samples : s24le (samples_of step_call) ≡ p.out
    unfolding step_call
    step_samples =
        ap (λ (l : List ℕ). s24le (read_s24le l)) p.written ∙ ap s24le (samples_back conv (tracks_piece n ts p.first p.count)) ∙ sym p.written

  -- ---- steps that cut the album
  cut_ends : (from : ℕ) (ps : List (Step ts s)) → Cut from f ps → from ≤ f
  cut_ends from [] e = omega arith
  cut_ends from (p ∷ ps) e = omega (arith, cut_ends (from + p.count) ps e.1)

  within : (from : ℕ) (p : Step ts s) (ps : List (Step ts s)) → Cut from f (p ∷ ps) → p.first + p.count ≤ f
  within from p ps e = omega (arith, cut_ends (from + p.count) ps e.1, e.0)

  calls : (from : ℕ) (ps : List (Step ts s)) → Cut from f ps → List (Call conv)
  calls from [] e = []
  calls from (p ∷ ps) e = step_call p (within from p ps e) ∷ calls (from + p.count) ps e.1

  all_right : (from : ℕ) (ps : List (Step ts s)) (e : Cut from f ps) → keep right_lengths (calls from ps e) ≡ calls from ps e
  unfolding keep calls
  all_right from [] e = refl
  all_right from (p ∷ ps) e =
      let h = within from p ps e in
      rw (step_right p h) (ap (λ (l : List (Call conv)). step_call p h ∷ l) (all_right (from + p.count) ps e.1))

  all_answered : (from : ℕ) (ps : List (Step ts s)) (e : Cut from f ps) → keep is_answered_accepted (calls from ps e) ≡ calls from ps e
  unfolding keep calls
  all_answered from [] e = refl
  all_answered from (p ∷ ps) e =
      let h = within from p ps e in
      rw (step_answered p h) (ap (λ (l : List (Call conv)). step_call p h ∷ l) (all_answered (from + p.count) ps e.1))

  frames_of_steps : (from : ℕ) (ps : List (Step ts s)) (e : Cut from f ps) → flat_map (λ (p : Run). p.frames) (map run_of (calls from ps e)) ≡ frames_from F from (f - from)
  unfolding flat_map run_from calls
  frames_of_steps from [] e =
      let z : f - from ≡ 0 = omega arith in
      rw (z, none_from F from) refl
  frames_of_steps from (p ∷ ps) e =
      let k : p.count + (f - (from + p.count)) ≡ f - from = omega (arith, cut_ends (from + p.count) ps e.1) in
      rw (step_run p (within from p ps e), frames_of_steps (from + p.count) ps e.1, ← k, from_join F from p.count (f - (from + p.count)), e.0) refl

  all_agree : (from : ℕ) (ps : List (Step ts s)) (e : Cut from f ps) → AllAgree conv (sequence n (tracks_run n ts)) from (map run_of (calls from ps e))
  unfolding converter_of calls
  all_agree from [] e = tt
  all_agree from (p ∷ ps) e =
      let h = within from p ps e in
      let first = step_agree p h in
      let rest = all_agree (from + p.count) ps e.1 in
      rw (step_count p h) (
        subst (λ (k : ℕ). Agree conv (frame n (sequence n (tracks_run n ts)) k)
            (run_of (step_call p h)) (frame n (sequence n (tracks_run n ts)) (suc (k + p.count)))) e.0 first,
        rest,
      )

  whole_run : run_from F f 0 f ≡ tracks_run n ts
  unfolding run_from tracks_run there
  whole_run = rw (zero-add f, le-ltb f f (omega arith)) refl

  pub fits_album : decide (input_places rack conv (tracks_run n ts)) ≡ accepted
  unfolding converter_of
  fits_album = rw (← whole_run) (fits_run conv some F long f 0 f few)

  joins : (ps : List (Step ts s)) (e : Cut 0 f ps) → JoinTo (tracks_run n ts) (calls 0 ps e)
  unfolding pieces tracks_run converter_of
  joins ps e = record {
    bytes = rw (all_right 0 ps e) (frames_of_steps 0 ps e ∙ rw (sub-zero f) refl);
    neighbours = rw (all_right 0 ps e) (all_agree 0 ps e);
  }

  whole : (ps : List (Step ts s)) (e : Cut 0 f ps) → GiveWholeRun (tracks_run n ts) (calls 0 ps e)
  whole ps e = cut_runs_join conv (tracks_run n ts) (calls 0 ps e) (record { opens = opens }) (record { fits = fits_album }) (joins ps e)

  -- ---- bytes
  bytes_of_steps : (from : ℕ) (ps : List (Step ts s)) (e : Cut from f ps) → s24le (flat_map samples_of (calls from ps e)) ≡ flat_map (λ (p : Step ts s). p.out) ps
  unfolding flat_map calls
  bytes_of_steps from [] e = no_bytes
  bytes_of_steps from (p ∷ ps) e =
      let h = within from p ps e in
      bytes_join (samples_of (step_call p h)) (flat_map samples_of (calls (from + p.count) ps e.1))
      ∙ ap₂ (λ (x y : List ℕ). x ++ y) (step_samples p h) (bytes_of_steps (from + p.count) ps e.1)

  all_bytes : (ps : List (Step ts s)) → Cut 0 f ps → flat_map (λ (p : Step ts s). p.out) ps ≡ album_data ts s
  all_bytes ps e = sym (bytes_of_steps 0 ps e) ∙ ap s24le (rw (all_answered 0 ps e) at (whole ps e).sampled)

  -- ---- statistics
  stats_of_steps : (from : ℕ) (ps : List (Step ts s)) (e : Cut from f ps) → map (λ (p : Step ts s). p.told) ps ≡ map (λ (c : Call conv). stats_told (answer_of c)) (calls from ps e)
  unfolding calls
  stats_of_steps from [] e = refl
  stats_of_steps from (p ∷ ps) e = rw (step_told p (within from p ps e)) (ap (λ (l : List ConvertStats). p.told ∷ l) (stats_of_steps (from + p.count) ps e.1))

  all_stats : (ps : List (Step ts s)) → Cut 0 f ps → all_joined (map (λ (p : Step ts s). p.told) ps) ≡ stats conv (tracks_run n ts)
  all_stats ps e = ap all_joined (stats_of_steps 0 ps e) ∙ (rw (all_answered 0 ps e) at (whole ps e).told)

  -- ---- files
  pub album_long : length (album_data ts s) ≡ f * size
  unfolding s24le samples converter_of
  album_long =
      length_tabulate _ _ _ ∙ ap (λ (k : ℕ). 3 * k) (length_tabulate _ _ _) ∙ rw (← whole_run) (samples_are conv some F long f 0 f few)

  module _ (low high : ℕ) (order : low ≤ high) (ends : high ≤ f * size) where
    abbrev data' : List ℕ
    data' = part low high (album_data ts s)

    pub part_long : length data' ≡ high - low
    part_long = length_part low high (album_data ts s) (rw album_long ends)

    -- the part of a file between the two others
    data_is : (m : List ℕ) → length m ≡ high - low → (from : ℕ) (ps : List (Step ts s)) → Cut from f ps
        → Each (λ p. HoldsAt m (p.first * size - low) (clip low high (p.first * size) p.out)) ps
        → drop (from * size - low) m ≡ clip low high (from * size) (flat_map (λ (p : Step ts s). p.out) ps)
    unfolding flat_map
    data_is m l from [] e h = drop_of_length-le m {i = from * size - low} (rw e (omega arith)) ∙ sym (clip_none low high (from * size))
    data_is m l from (p ∷ ps) e h =
        let rest = data_is m l (from + p.count) ps e.1 h.1 in
        let x = clip low high (from * size) p.out in
        let on : from * size + length p.out ≡ (from + p.count) * size = rw (step_long p (within from p ps e)) (omega arith) in
        let others = flat_map (λ (p : Step ts s). p.out) ps in
        let behind : drop (length x) (drop (from * size - low) m) ≡ clip low high (from * size + length p.out) others =
        drop-drop (length x) (from * size - low) m ∙ next_place m low high (from * size) p.out order l ∙ rw on rest in
        let here : take (length x) (drop (from * size - low) m) ≡ x = rw (← e.0) h.0.is in
        sym (take-append-drop (length x) (drop (from * size - low) m))
        ∙ ap₂ (λ (p q : List ℕ). p ++ q) here behind ∙ sym (clip_join low high (from * size) p.out others)

    between : (front : ℕ) (out : List ℕ) (ps : List (Step ts s)) → Each (λ p. HoldsAt out (front + (p.first * size - low)) (clip low high (p.first * size) p.out)) ps
        → Each (λ p. HoldsAt (take (high - low) (drop front out)) (p.first * size - low) (clip low high (p.first * size) p.out)) ps
    between front out [] e = tt
    between front out (p ∷ ps) e = (held_between out front low high (p.first * size) p.out e.0, between front out ps e.1)

    pub file_is : (ps : List (Step ts s)) → Cut 0 f ps → (front behind out : List ℕ) → Holding ps low high front behind out → out ≡ front ++ (data' ++ behind)
    file_is ps e front behind out h =
        let m = take (high - low) (drop (length front) out) in
        let m-long : length m ≡ high - low = length-take (high - low) (drop (length front) out) ∙ rw (length-drop (length front) out) (omega (arith, h.long)) in
        let start : 0 * size - low ≡ 0 = omega arith in
        let middle : m ≡ data' =
        subst (λ (p : ℕ). drop p m ≡ clip low high (0 * size) (flat_map (λ (p : Step ts s). p.out) ps)) start (data_is m m-long 0 ps e (between (length front) out ps h.each))
        ∙ rw (zero-mul size, all_bytes ps e) (clip_all low high (album_data ts s)) in
        three_parts out front data' behind (rw part_long h.long) h.begins (rw part_long middle) (rw part_long h.ends)

  -- ---- tracks
  parts : joined (tabulate (track_data ts s) 0 (length ts)) ++ fill_data ts s ≡ album_data ts s
  unfolding track_data fill_data
  parts =
      rw (parts_join (data_start s.rate n (heads ts)) (album_data ts s) (data_none s.rate n (heads ts)) (data_order s.rate n (heads ts)) (length ts))
      (take-append-drop (data_start s.rate n (heads ts) (length ts)) (album_data ts s))

  pub track_within : (k : ℕ) → k < length ts → data_start s.rate n (heads ts) (k + 1) ≤ f * size
  track_within k h = le_trans (data_start_order s.rate n (heads ts) (k + 1) (length (heads ts)) (omega (arith, length_heads ts))) (data_within s.rate n (heads ts))

  tracks : (ps : List (Step ts s)) → Cut 0 f ps → (k : ℕ) → k < length ts → (front behind out : List ℕ) → HoldingTrack ps k front behind out → out ≡ front ++ (track_data ts s k ++ behind)
  unfolding track_data
  tracks ps e k h =
      file_is (data_start s.rate n (heads ts) k) (data_start s.rate n (heads ts) (k + 1)) (data_order s.rate n (heads ts) k) (track_within k h) ps e

  all_of_it : part 0 (f * size) (album_data ts s) ≡ album_data ts s
  all_of_it = rw (sub-zero (f * size), ← album_long) (take-length (album_data ts s))

  all : (ps : List (Step ts s)) → Cut 0 f ps → (front behind out : List ℕ) → HoldingAll ps front behind out → out ≡ front ++ (album_data ts s ++ behind)
  all ps e front behind out h = file_is 0 (f * size) (omega arith) (omega arith) ps e front behind out h ∙ ap (λ (d : List ℕ). front ++ (d ++ behind)) all_of_it

pub tracks_to_files : TracksToFiles
unfolding flat_map
tracks_to_files ts s ps a e = record {
  whole = all_bytes ts s a ps e;
  parts = parts ts s a;
  tracks = tracks ts s a ps e;
  all = all ts s a ps e;
  told = all_stats ts s a ps e;
}

pub piece_accepted : PieceAccepted
piece_accepted ts s a = accepted_piece ts s a
