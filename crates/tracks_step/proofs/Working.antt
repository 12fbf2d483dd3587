-- What the calls promise, from what their parts do.
use Rattle.std.proofs.Common.{◌≡◌, Result, Ok, Err, ℕ, ◌+◌, ◌-◌, ◌*◌, ◌≤◌, List, [], ◌∷◌, min, sym, refl, ap, ◌∙◌, arith, false, leb-true, eqb-true, length}
use Rattle.std.proofs.Common.{mul-le-mul}
use borrow.Author.Tests.{not-false}
use Rattle.numbers.proofs.Lists.{length_tabulate}
use Rattle.reference.specs.Frames.{frame_length}
use Rattle.reference.specs.Output.{stats}
use Rattle.reference.specs.Settings.{converter_of}
use Rattle.reference.specs.Refusals.{Decision, Place, rack, accepted, error_decision, is_accepted, decide, lent_length, convert_places}
use Rattle.reference.specs.declared.PcmError.{PcmError}
use Rattle.reference.specs.declared.Settings.{Settings}
use Rattle.reference.specs.declared.Converter.{Converter}
use Rattle.reference.specs.declared.ConvertStats.{ConvertStats}
use Rattle.reference.proofs.Refusals.{pass, decide_first, decide_skip, error_refuses}
use Rattle.reference.proofs.Promises.{exit_accepted, exit_refused}
use Rattle.refusals.proofs.Steps.{stops, goes_on}
use Rattle.wav_format.specs.Wav.{frame_size}
use Rattle.tracks.specs.Runs.{frames_from, run_from}
use Rattle.tracks.specs.Tracks.{Head, Track, heads_of, tracks_channels, tracks_frames, tracks_frame, tracks_converter, settings_for, open_places, refused_track}
use Rattle.tracks.specs.Windows.{low, high, windowed, windowed_tracks}
use Rattle.tracks.proofs.Opened.{Opened, is_opened, opens, some, six_channels}
use Rattle.tracks.proofs.StepCalls.{accepted_call}
use Rattle.tracks_open.specs.Open.{numbers, album_of, AlbumFits}
use Rattle.tracks_open.specs.inner.Open.{TracksArgs}
use Rattle.tracks_open.specs.declared.Refused.{Refused}
use Rattle.tracks_open.proofs.Accepted.{accepted_few, album_fits, none_refused}
use Rattle.tracks_gather.specs.inner.Gathering.{GatherArgs}
use Rattle.tracks_gather.proofs.Going.{windowed_heads}
use Rattle.tracks_step.specs.declared.Gathered.{Gathered}
use Rattle.tracks_step.specs.Promises.{piece_windows, piece_places, frames_places, step_places, piece_frames, piece_run, FramesPromise, StepPromise}
use Rattle.tracks_step.specs.inner.Steps.{piece_span, ReadyPromise}
use Rattle.tracks_step.specs.inner.Slices.{sliced, SliceArgs, Converting}
use Rattle.tracks_step.proofs.Slicing.{sliced_is, reaches}

module _ (heads' lengths : List ℕ) (s : Settings) (first count : ℕ) (w scratch : List ℕ) where
  abbrev hs : List Head
  hs = heads_of heads' lengths

  abbrev n : ℕ
  n = tracks_channels hs

  abbrev Readied : Result Gathered Refused → Type 0
  Readied = ReadyPromise hs s first count (length w) (length scratch)

  abbrev places : List Place
  places = frames_places hs s first count (length w) (length scratch)

  pub not_framed : (e : Refused) → Readied (Err e) → FramesPromise hs s first count w scratch scratch (Err e)
  not_framed e p =
      let refused = ap is_accepted (sym p.decided) ∙ error_refuses e.error in
      record { decided = p.decided; named = p.named; album = _; gathered = sym (exit_refused _ _ _ refused) }

  -- ---- what an accepted one has
  module _ (r : Gathered) (p : Readied (Ok r)) where
    opened : decide (open_places hs s) ≡ accepted
    unfolding frames_places
    opened = decide_first (open_places hs s) _ (sym p.decided)

    fitted : decide (piece_places hs first count (length w) (length scratch)) ≡ accepted
    unfolding frames_places
    fitted = sym (decide_skip (open_places hs s) _ opened) ∙ sym p.decided

    facts : Opened hs s
    facts = is_opened hs s opened

    fits : AlbumFits (album_of s.rate hs)
    fits = album_fits hs s opened

    there : first + count ≤ tracks_frames hs
    unfolding piece_places
    there = leb-true (first + count) (tracks_frames hs) (not-false _ (pass _ _ fitted).0)

    windows_are : length w ≡ piece_windows hs first count
    unfolding piece_places
    windows_are = eqb-true (length w) (piece_windows hs first count) (not-false _ (pass _ _ (pass _ _ fitted).1).0)

    scratch_is : length scratch ≡ (high hs first count - low first) * frame_length n
    unfolding piece_places lent_length
    scratch_is = eqb-true _ _ (not-false _ (pass _ _ (pass _ _ (pass _ _ fitted).1).1).0)

    channels_are : r.album.channels ≡ n
    unfolding album_of numbers
    channels_are = ap (λ (x : Gathered). x.album.channels) p.ready

    span_is : r.frames ≡ piece_span hs first count
    span_is = ap (λ (x : Gathered). x.frames) p.ready

    pub few_channels : r.album.channels ≤ 6
    few_channels = rw channels_are (six_channels hs s facts)

    pub gather_args : TracksArgs heads' lengths → GatherArgs heads' lengths r.album.channels r.frames (length w) (length scratch)
    gather_args is =
        let args : GatherArgs heads' lengths n (piece_span hs first count) (length w) (length scratch) = record {
          is = is;
          one = some hs s facts;
          six = six_channels hs s facts;
          alike = facts.alike;
          short = (accepted_few hs s opened).1;
          order = omega (arith, there);
          most = omega (arith, facts.few);
          windows = windows_are;
          lent = scratch_is;
        } in
        rw (channels_are, span_is) args

    pub frames_are : {new : List ℕ} → new
        ≡ frames_from (tracks_frame r.album.channels (windowed r.album.channels (r.frames.from * 4704) (r.frames.to * 4704) 0 0 w hs))
        r.frames.from (r.frames.to - r.frames.from) → new ≡ piece_frames hs first count w
    frames_are e = rw (channels_are, span_is) at e

    pub framed : {new : List ℕ} → new
        ≡ frames_from (tracks_frame r.album.channels (windowed r.album.channels (r.frames.from * 4704) (r.frames.to * 4704) 0 0 w hs)) r.frames.from (r.frames.to - r.frames.from)
        → FramesPromise hs s first count w scratch new (Ok r.album)
    framed e = record { decided = p.decided; named = _; album = ap (λ (x : Gathered). x.album) p.ready; gathered = frames_are e ∙ sym (exit_accepted _ _ _ (sym p.decided)) }

  -- ---- the samples' bytes
  module _ (out : List ℕ) where
    abbrev conv : Converter
    conv = tracks_converter s hs

    abbrev all_places : List Place
    all_places = step_places hs s first count (length w) (length scratch) (length out)

    abbrev Stepped : List ℕ → List ℕ → Result ConvertStats Refused → Type 0
    Stepped scratch' = StepPromise hs s first count w scratch scratch' out

    refused_step : (e : Refused) → error_decision e.error ≡ decide all_places → e.track ≡ refused_track hs s → Stepped scratch out (Err e)
    refused_step e d t =
        let refused = ap is_accepted (sym d) ∙ error_refuses e.error in
        record { decided = d; named = t; counted = _; gathered = sym (exit_refused _ _ _ refused); written = sym (exit_refused _ _ _ refused) }

    pub not_ready : (e : Refused) → Readied (Err e) → Stepped scratch out (Err e)
    unfolding step_places
    not_ready e p = refused_step e (stops places (lent_length 7 (length out) (count * frame_size s.rate n) ∷ []) e.error p.decided) p.named

    module _ (r : Gathered) (p : Readied (Ok r)) where
      frame_is : r.album.frame ≡ frame_size s.rate n
      unfolding album_of numbers
      frame_is = ap (λ (x : Gathered). x.album.frame) p.ready

      pub few_bytes : count * r.album.frame ≤ 540000 * 84672
      unfolding album_of numbers
      few_bytes =
          let few : count ≤ 540000 = omega (arith, there r p, (facts r p).few) in
          let sized : r.album.frame ≤ 84672 = rw frame_is (fits r p).sized in
          mul-le-mul few sized

      after : (d : Decision) → d ≡ decide (lent_length 7 (length out) (count * r.album.frame) ∷ []) → d ≡ decide all_places
      unfolding step_places
      after d e = goes_on places (lent_length 7 (length out) (count * frame_size s.rate n) ∷ []) p.decided (rw frame_is at e)

      pub not_lent : (e : PcmError) → error_decision e ≡ decide (lent_length 7 (length out) (count * r.album.frame) ∷ []) → Stepped scratch out (Err (record { track = 0; error = e }))
      not_lent e d = refused_step (record { track = 0; error = e }) (after (error_decision e) d) (sym (none_refused hs s (opened r p)))

      -- with the list for them
      module _ (long : accepted ≡ decide (lent_length 7 (length out) (count * r.album.frame) ∷ [])) (c : Converter) (is : c ≡ converter_of (settings_for s r.album.channels)) (scratch' : List ℕ)
          (made : scratch' ≡ piece_frames hs first count w) where
        all_accepted : decide all_places ≡ accepted
        all_accepted = sym (after accepted long)

        conv_is : c ≡ conv
        conv_is = is ∙ rw (channels_are r p) refl

        ts : List Track
        ts = windowed_tracks hs n first count w

        F : ℕ → List ℕ
        F = tracks_frame n ts

        F_long : (k : ℕ) → length (F k) ≡ frame_length n
        unfolding tracks_frame F
        F_long k = length_tabulate _ _ _

        f : ℕ
        f = tracks_frames hs

        run_is : piece_run hs first count w ≡ run_from F f first count
        unfolding ts F f
        run_is = rw (windowed_heads n (low first * 4704) (high hs first count * 4704) 0 0 w hs) refl

        sliced_run : sliced n first count scratch' ≡ piece_run hs first count w
        unfolding ts F f
        sliced_run = rw made (sliced_is n (some hs s (facts r p)) F F_long f first count (there r p) ∙ sym run_is)

        within : min first 1 * frame_length n + count * frame_length n ≤ length scratch'
        unfolding ts F f
        within = rw made (reaches n (some hs s (facts r p)) F F_long f first count (there r p))

        out_is : length out ≡ count * frame_size s.rate n
        unfolding lent_length
        out_is = eqb-true _ _ (not-false _ (pass _ _ (sym long)).0) ∙ rw frame_is refl

        few : count ≤ 540000
        few = omega (arith, there r p, (facts r p).few)

        taken : decide (convert_places rack conv (run_from F f first count) out false []) ≡ accepted
        unfolding converter_of
        taken = accepted_call conv (some hs s (facts r p)) F F_long f first count few out out_is (opens hs s (facts r p))

        pub slice_args : SliceArgs c first count scratch' out
        unfolding converter_of
        slice_args =
            let args : SliceArgs conv first count scratch' out = record { six = six_channels hs s (facts r p); few = few; within = within; taken = rw (sliced_run, run_is) taken } in
            rw conv_is args

        pub stepped : {out' : List ℕ} (told : ConvertStats) → Converting c (sliced c.channels first count scratch') out' (Ok told) → Stepped scratch' out' (Ok told)
        unfolding converter_of
        stepped {out'} told k =
            let same : Converting conv (sliced n first count scratch') out' (Ok told) = rw conv_is at k in
            let run : Converting conv (piece_run hs first count w) out' (Ok told) = rw sliced_run at same in
            let counted : told ≡ stats conv (piece_run hs first count w) = let ok = run.counted in cc in
            record {
              decided = sym all_accepted;
              named = _;
              counted = counted;
              gathered = made ∙ sym (exit_accepted _ _ _ all_accepted);
              written = run.written ∙ sym (exit_accepted _ _ _ all_accepted);
            }
