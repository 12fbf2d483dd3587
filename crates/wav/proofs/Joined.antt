-- Demand 3 of files, from the join theorem of calls: each file made is a call of `convert` on the part behind the
-- header.
use Rattle.std.proofs.Common.{◌≡◌, refl, sym, ap, ap₂, ◌∙◌, List, [], ◌∷◌, ◌++◌, map, Bool, true, false, cond, Ok, ℕ, arith, drop, length-drop}
use mathlib.Core.List.{flat_map}
use Rattle.reference.specs.Frames.{Run}
use Rattle.reference.specs.Output.{samples, stats, per_frame_clips, s24le}
use Rattle.reference.specs.Refusals.{rack, accepted, decide, is_accepted, held_places, convert_places}
use Rattle.reference.specs.Promises.{stats_told, if_lent}
use Rattle.reference.specs.Statistics.{no_stats}
use Rattle.reference.specs.declared.Converter.{Converter}
use Rattle.reference.proofs.Refusals.{decide_skip}
use Rattle.reference.proofs.Promises.{accepted_is, exit_accepted}
use Rattle.joins.specs.Joins.{Call, convert, right_lengths, is_answered_accepted, run_of, samples_of, read_s24le, keep, pieces, accepted_calls}
use Rattle.joins.proofs.Bytes.{samples_back, bytes_join, no_bytes}
use Rattle.joins.proofs.Joins.{cut_runs_join}
use Rattle.wav_format.specs.Wav.{wav_file}
use Rattle.wav_checks.specs.Places.{wav_places}
use Rattle.wav.specs.Joined.{WavCall, right_call, made, data_of, file_pieces, FilesJoin, call_file, CallFilesJoin}
use Rattle.wav_format.proofs.Reading.{data_is}
use Rattle.wav_checks.proofs.Accepted.{opens_of, length_of, convert_takes}

-- ---- a file made is a call of `convert`

keep_first : {A : Type 0} (p : A → Bool) (x : A) (xs : List A) → p x ≡ true → keep p (x ∷ xs) ≡ x ∷ keep p xs
unfolding keep
keep_first p x xs e = rw e

module _ {conv : Converter} where
  module _ (c : WavCall conv) (e : right_call c ≡ true) where
    ok : decide (wav_places conv c.run c.out c.lent c.counts) ≡ accepted
    unfolding right_call
    ok = accepted_is _ e

    takes : decide (convert_places rack conv c.run (drop 44 c.out) c.lent c.counts) ≡ accepted
    takes =
        convert_takes conv c.run c.out c.lent c.counts ok (drop 44 c.out)
        (omega (arith, length-drop 44 c.out, length_of conv c.run c.out c.lent c.counts ok))

    pub data_made : data_of c ≡ s24le (samples conv c.run)
    data_made =
        ap (drop 44) (c.promise.written ∙ exit_accepted _ (wav_file conv.rate conv.channels (s24le (samples conv c.run))) c.out ok)
        ∙ data_is conv.rate conv.channels (s24le (samples conv c.run))

    as_call : Call conv
    unfolding stats_told
    as_call = convert record {
      whose = rack;
      run = c.run;
      lent = c.lent;
      out = drop 44 c.out;
      counts = c.counts;
      out' = drop 44 c.out';
      counts' = c.counts';
      answer = Ok (stats_told c.answer);
      promise = record {
        answered = record {
          decided = sym takes;
          counted = c.promise.answered.counted ∙ exit_accepted _ (stats conv c.run) no_stats ok ∙ sym (exit_accepted _ (stats conv c.run) no_stats takes);
        };
        written = data_made ∙ sym (exit_accepted _ (s24le (samples conv c.run)) (drop 44 c.out) takes);
        per_frame = c.promise.per_frame ∙ exit_accepted _ (if_lent c.lent (per_frame_clips conv c.run) c.counts) c.counts ok
            ∙ sym (exit_accepted _ (if_lent c.lent (per_frame_clips conv c.run) c.counts) c.counts takes);
      };
    }

    call_right : right_lengths as_call ≡ true
    unfolding right_lengths as_call convert_places is_accepted
    call_right = ap is_accepted (sym (decide_skip (held_places conv) _ (opens_of conv c.run c.out c.lent c.counts ok)) ∙ takes)

    call_answered : is_answered_accepted as_call ≡ true
    unfolding is_answered_accepted as_call is_accepted
    call_answered = refl

    call_run : run_of as_call ≡ c.run
    unfolding as_call
    call_run = refl

    call_bytes : s24le (samples_of as_call) ≡ data_of c
    unfolding as_call
    call_bytes = ap (λ (l : List ℕ). s24le (read_s24le l)) data_made ∙ ap s24le (samples_back conv c.run) ∙ sym data_made

  -- ---- a list of calls

  step : (c : WavCall conv) (b : Bool) → right_call c ≡ b → List (Call conv) → List (Call conv)
  step c true e ds = as_call c e ∷ ds
  step c false e ds = ds

  to_calls : List (WavCall conv) → List (Call conv)
  to_calls [] = []
  to_calls (c ∷ cs) = step c (right_call c) refl (to_calls cs)

  step_pieces : (c : WavCall conv) (b : Bool) (e : right_call c ≡ b) (ds : List (Call conv)) (kept : List (WavCall conv))
      → pieces ds ≡ map (λ w. w.run) kept → pieces (step c b e ds) ≡ map (λ w. w.run) (cond b (c ∷ kept) kept)
  unfolding pieces step
  step_pieces c true e ds kept h = ap (map run_of) (keep_first right_lengths (as_call c e) ds (call_right c e)) ∙ ap₂ (λ (x : Run) (xs : List Run). x ∷ xs) (call_run c e) h
  step_pieces c false e ds kept h = h

  pieces_same : (cs : List (WavCall conv)) → pieces (to_calls cs) ≡ file_pieces cs
  unfolding to_calls file_pieces keep pieces
  pieces_same [] = refl
  pieces_same (c ∷ cs) = step_pieces c (right_call c) refl (to_calls cs) (keep right_call cs) (pieces_same cs)

  step_data : (c : WavCall conv) (b : Bool) (e : right_call c ≡ b) (ds : List (Call conv)) (kept : List (WavCall conv))
      → flat_map data_of kept ≡ s24le (flat_map samples_of (accepted_calls ds)) → flat_map data_of (cond b (c ∷ kept) kept) ≡ s24le (flat_map samples_of (accepted_calls (step c b e ds)))
  unfolding step flat_map
  step_data c true e ds kept h =
      ap₂ (λ (u v : List ℕ). u ++ v) (sym (call_bytes c e)) h
      ∙ sym (bytes_join (samples_of (as_call c e)) (flat_map samples_of (accepted_calls ds)))
      ∙ ap (λ (l : List (Call conv)). s24le (flat_map samples_of l)) (sym (keep_first is_answered_accepted (as_call c e) ds (call_answered c e)))
  step_data c false e ds kept h = h

  made_right : (c : WavCall conv) → made c ≡ right_call c
  unfolding made right_call
  made_right c = ap is_accepted c.promise.answered.decided

  joined_data : (cs : List (WavCall conv)) → flat_map data_of (keep made cs) ≡ s24le (flat_map samples_of (accepted_calls (to_calls cs)))
  unfolding to_calls keep flat_map
  joined_data [] = sym no_bytes
  joined_data (c ∷ cs) = rw (made_right c) (step_data c (right_call c) refl (to_calls cs) (keep made cs) (joined_data cs))

pub files_join : FilesJoin
files_join conv r calls opens fits joins =
    let g = cut_runs_join conv r (to_calls calls) opens fits (record {
      bytes = rw (pieces_same calls) joins.bytes;
      neighbours = rw (pieces_same calls) joins.neighbours;
    }) in
    let e = joined_data calls ∙ ap s24le g.sampled in
    (e, λ whole is m. e ∙ ap (λ (x : Run). s24le (samples conv x)) (sym is) ∙ sym (data_made whole (sym (made_right whole) ∙ m)))

-- ---- demand 3's own list

module _ {conv : Converter} where
  all_data : (cs : List (Call conv)) → flat_map (λ c. drop 44 (call_file c)) cs ≡ s24le (flat_map samples_of cs)
  unfolding flat_map call_file
  all_data [] = sym no_bytes
  all_data (c ∷ cs) = ap₂ (λ (u v : List ℕ). u ++ v) (data_is conv.rate conv.channels (s24le (samples_of c))) (all_data cs) ∙ sym (bytes_join (samples_of c) (flat_map samples_of cs))

pub call_files_join : CallFilesJoin
call_files_join conv r calls opens fits joins =
    all_data (accepted_calls calls) ∙ ap s24le (cut_runs_join conv r calls opens fits joins).sampled
    ∙ sym (data_is conv.rate conv.channels (s24le (samples conv r)))
