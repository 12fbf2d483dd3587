-- Cut runs join: demand 3.
use Rattle.std.proofs.Common.{◌≡◌, refl, ap, ap₂, sym, ◌∙◌, List, [], ◌∷◌, ◌++◌, map, append_assoc, Bool, true, false, cond, ℕ, ◌+◌, ◌*◌, ◌/◌, ◌^◌, ◌≤◌, ◌<◌}
use Rattle.std.proofs.Common.{mul-le-mul, arith, ltb-true, ltb, length, length-append}
use mathlib.Core.List.{flat_map, Memᴰ}
use native.Mathlib.Nat.{div-eq_of_eq-mul_left}
use Rattle.numbers.specs.Lists.{tabulate, total, count, Each}
use Rattle.numbers.proofs.Lists.{tabulate_join, total_join}
use Rattle.reference.specs.Frames.{Run, frame_length, frame_count, sequence}
use Rattle.reference.specs.Output.{samples_per_frame, clipped, item, channel_samples, all_samples, samples, channel_clips, channel_stats, stats, frame_clips, per_frame_clips}
use Rattle.reference.specs.Refusals.{rack, accepted, decide, decision, is_accepted, held_places, input_places, byte_lengths, run_lengths, convert_places, convert_run_places}
use Rattle.reference.specs.Promises.{stats_told, if_lent}
use Rattle.reference.specs.Statistics.{channel_of, no_stats, all_joined}
use Rattle.reference.specs.declared.Converter.{Converter}
use Rattle.reference.specs.declared.ConvertStats.{ConvertStats}
use Rattle.reference.specs.declared.Limit.{Limit}
use Rattle.reference.proofs.Refusals.{decide_first, decide_skip, some_channel, whole_frames, few_frames, one_before}
use Rattle.reference.proofs.Frames.{frame_samples}
use Rattle.reference.proofs.Promises.{accepted_is, exit_accepted, exit_refused}
use Rattle.joins.specs.Joins.{read_s24le, Call, convert, convert_run, ConvertCall, ConvertRunCall, run_of, answer_of}
use Rattle.joins.specs.Joins.{samples_of, clips_of, lends, counts_of, lengths, right_lengths, is_answered_accepted}
use Rattle.joins.specs.Joins.{Unchanged, keep, pieces, AllAgree, Decided, add_up, accepted_calls, CutRunsJoin}
use Rattle.joins.proofs.Pieces.{PieceOf, piece_samples, piece_clips, piece_counts}
use Rattle.joins.proofs.Bytes.{samples_back}
use Rattle.reference.proofs.Statistics.{at_channel}
use Rattle.joins.proofs.Statistics.{stretch, stats_stretch, stretch_none, stretch_join, piece_stretch}

-- ---- lists

module _ {A : Type 0} where
  keep_same : (p q : A → Bool) → ((x : A) → p x ≡ q x) → (xs : List A) → keep p xs ≡ keep q xs
  unfolding keep
  keep_same p q h [] = refl
  keep_same p q h (x ∷ xs) = rw (h x, keep_same p q h xs)

  keep_each : (P : A → Type 0) (p : A → Bool) → ((x : A) → p x ≡ true → P x) → (xs : List A) → Each P (keep p xs)
  unfolding keep
  keep_each P p h [] = tt
  keep_each P p h (x ∷ xs) = go (p x) refl (keep_each P p h xs)
    where
      go : (b : Bool) → p x ≡ b → Each P (keep p xs) → Each P (cond b (x ∷ keep p xs) (keep p xs))
      go true e r = (h x e, r)
      go false e r = r

  each_member : (P : A → Type 0) (xs : List A) → ((x : A) → Memᴰ x xs → P x) → Each P xs
  each_member P [] h = tt
  each_member P (x ∷ xs) h = (h x (Memᴰ.head refl), each_member P xs (λ y m. h y (Memᴰ.tail m)))

cond_same : {A : Type 0} (b : Bool) (x : A) → cond b x x ≡ x
cond_same true x = refl
cond_same false x = refl

-- a sum in one case only
cond_add : (b : Bool) (x y z : ℕ) → (b ≡ true → x + y ≡ z) → cond b x 0 + cond b y 0 ≡ cond b z 0
cond_add true x y z h = h refl
cond_add false x y z h = refl

-- ---- one call

-- the limit of frames that a call has
abbrev limit_of : {conv : Converter} → Call conv → Limit
limit_of (convert c) = c.whose
limit_of (convert_run c) = rack

-- a call with right lengths gives what the definition gives for its piece
record Gives {conv : Converter} (call : Call conv) : Type 0 where
  fits : decide (input_places (limit_of call) conv (run_of call)) ≡ accepted
  sampled : samples_of call ≡ samples conv (run_of call)
  clips : (c : ℕ) → c < 6 → clips_of call c ≡ channel_clips conv (run_of call) c
  counts : lends call ≡ true → counts_of call ≡ per_frame_clips conv (run_of call)
  told : stats_told (answer_of call) ≡ stats conv (run_of call)

module _ (conv : Converter) (opens : decide (held_places conv) ≡ accepted) where
  -- the places from the run length on decide
  convert_skip : (c : ConvertCall conv) → decide (convert_places c.whose conv c.run c.out c.lent c.counts) ≡ decide (lengths (convert c))
  unfolding convert_places
  convert_skip c = decide_skip (held_places conv) _ opens

  run_skip : (c : ConvertRunCall conv) → decide (convert_run_places conv c.run c.out) ≡ decide (lengths (convert_run c))
  unfolding convert_run_places
  run_skip c = decide_skip (held_places conv) _ opens

  answered : (call : Call conv) → decision (answer_of call) ≡ decide (lengths call)
  answered (convert c) = c.promise.answered.decided ∙ convert_skip c
  answered (convert_run c) = c.promise.answered.decided ∙ run_skip c

  accepted_right : (call : Call conv) → is_answered_accepted call ≡ right_lengths call
  unfolding is_answered_accepted right_lengths
  accepted_right call = ap is_accepted (answered call)

  left : (call : Call conv) → is_accepted (decide (lengths call)) ≡ false → Unchanged call × (stats_told (answer_of call) ≡ no_stats)
  left (convert c) e =
      let no = ap is_accepted (convert_skip c) ∙ e in
      ((c.promise.written ∙ exit_refused _ _ _ no, c.promise.per_frame ∙ exit_refused _ _ _ no), c.promise.answered.counted ∙ exit_refused _ _ _ no)
  left (convert_run c) e =
      let no = ap is_accepted (run_skip c) ∙ e in
      (c.promise.written ∙ exit_refused _ _ _ no, c.promise.answered.counted ∙ exit_refused _ _ _ no)

  decided : (call : Call conv) → Decided call
  unfolding right_lengths
  decided call = record {
    right = λ e. accepted_right call ∙ e;
    wrong = λ e. accepted_right call ∙ e;
    unchanged = λ e. (left call e).0;
    uncounted = λ e. (left call e).1;
  }

  clips_at : (r : Run) (s : ConvertStats) → s ≡ stats conv r → (c : ℕ) → c < 6 → (channel_of s c).clipped ≡ channel_clips conv r c
  unfolding stats channel_stats channel_of
  clips_at r s e c h = ap (λ (t : ConvertStats). (channel_of t c).clipped) e ∙ ap (λ t. t.clipped) (at_channel (channel_stats conv r) c h)

  lent_list : (b : Bool) (new old : List ℕ) → b ≡ true → if_lent b new old ≡ new
  unfolding if_lent
  lent_list b new old e = rw e

  gives : (call : Call conv) → right_lengths call ≡ true → Gives call
  unfolding right_lengths byte_lengths run_lengths
  gives (convert c) e =
      let right = accepted_is _ e in
      let yes = convert_skip c ∙ right in
      record {
        fits = decide_first (input_places c.whose conv c.run) _ right;
        sampled = ap read_s24le (c.promise.written ∙ exit_accepted _ _ _ yes) ∙ samples_back conv c.run;
        clips = clips_at c.run _ (c.promise.answered.counted ∙ exit_accepted _ _ _ yes);
        counts = λ lent. c.promise.per_frame ∙ exit_accepted _ _ _ yes ∙ lent_list _ _ _ lent;
        told = c.promise.answered.counted ∙ exit_accepted _ _ _ yes;
      }
  gives (convert_run c) e =
      let right = accepted_is _ e in
      let yes = run_skip c ∙ right in
      record {
        fits = decide_first (input_places rack conv c.run) _ right;
        sampled = c.promise.written ∙ exit_accepted _ _ _ yes;
        clips = clips_at c.run _ (c.promise.answered.counted ∙ exit_accepted _ _ _ yes);
        counts = λ lent. let z : ◌≡◌ {A = ℕ} 0 1 = cc in absurd (omega arith);
        told = c.promise.answered.counted ∙ exit_accepted _ _ _ yes;
      }

-- ---- a list of calls with right lengths

module _ (conv : Converter) where
  abbrev ch : ℕ
  ch = conv.channels

  abbrev per : ℕ
  per = samples_per_frame conv.rate

  abbrev bytes_in : List (Call conv) → List ℕ
  bytes_in ds = flat_map (λ p. p.frames) (map run_of ds)

  frames_in : List (Call conv) → ℕ
  frames_in [] = 0
  frames_in (d ∷ ds) = frame_count ch (run_of d).frames + frames_in ds

  bytes_length : (ds : List (Call conv)) → Each Gives ds → length (bytes_in ds) ≡ frames_in ds * frame_length ch
  unfolding frames_in flat_map
  bytes_length [] g = omega arith
  bytes_length (d ∷ ds) g =
      omega (arith, length-append (run_of d).frames (bytes_in ds), whole_frames (limit_of d) conv (run_of d) g.0.fits, bytes_length ds g.1)

  -- the calls give what the run has from frame a on
  record From (r : Run) (a : ℕ) (ds : List (Call conv)) : Type 0 where
    sampled : flat_map samples_of ds ≡ tabulate (item conv r) (a * per * ch) (frames_in ds * per * ch)
    clips : (c : ℕ) → c < 6 → add_up (map (λ call. clips_of call c) ds) ≡ cond (ltb c ch) (count (clipped conv r c) (a * per) (frames_in ds * per)) 0
    counts : Each (λ call. lends call ≡ true) ds → flat_map counts_of ds ≡ tabulate (frame_clips conv r) a (frames_in ds)
    told : frames_in ds * per < 2 ^ 64 → all_joined (map (λ call. stats_told (answer_of call)) ds) ≡ stretch conv r (a * per) (frames_in ds * per)

  module _ (opens : decide (held_places conv) ≡ accepted) (r : Run) (fits : decide (input_places rack conv r) ≡ accepted) where
    from : (ds : List (Call conv)) → Each Gives ds → (a : ℕ) (done : List ℕ) → r.frames ≡ done ++ bytes_in ds → length done ≡ a * frame_length ch
        → AllAgree conv (sequence ch r) a (map run_of ds) → From r a ds
    unfolding flat_map add_up frames_in tabulate total samples all_samples channel_samples channel_clips per_frame_clips all_joined
    from [] g a done e l agree =
        let z : 0 * per ≡ 0 = omega arith in
        let z' : 0 * ch ≡ 0 = omega arith in
        record { sampled = rw (z, z'); clips = λ c h. rw z (sym (cond_same (ltb c ch) 0)); counts = λ h. refl; told = λ h. rw z (sym (stretch_none conv r (a * per))) }
    from (d ∷ ds) g a done e l agree =
        let n = frame_count ch (run_of d).frames in
        let m = frames_in ds in
        let cut : PieceOf conv r a n (run_of d) = record {
          some_channel = some_channel conv opens;
          run_before = one_before rack conv r fits;
          piece_before = one_before (limit_of d) conv (run_of d) g.0.fits;
          whole = whole_frames (limit_of d) conv (run_of d) g.0.fits;
          done = done;
          rest = bytes_in ds;
          parts = e;
          done_whole = l;
          agree = agree.0;
        } in
        let more : From r (a + n) ds = from ds g.1 (a + n) (done ++ (run_of d).frames) (e ∙ sym (append_assoc done (run_of d).frames (bytes_in ds)))
        (omega (arith, length-append done (run_of d).frames, whole_frames (limit_of d) conv (run_of d) g.0.fits)) agree.1 in
        let at-samples : (a + n) * per * ch ≡ a * per * ch + n * per * ch = omega arith in
        let all_samples : (n + m) * per * ch ≡ n * per * ch + m * per * ch = omega arith in
        let at_channel : (a + n) * per ≡ a * per + n * per = omega arith in
        let all-channel : (n + m) * per ≡ n * per + m * per = omega arith in
        record {
          sampled = ap₂ (λ x y. x ++ y) (g.0.sampled ∙ piece_samples conv r a n (run_of d) cut) more.sampled
              ∙ rw (at-samples, all_samples) (sym (tabulate_join (item conv r) (a * per * ch) (n * per * ch) (m * per * ch)));
          clips = λ c h. ap₂ (λ x y. x + y) (g.0.clips c h) (more.clips c h)
              ∙ cond_add (ltb c ch) _ _ _ (λ t. rw (at_channel, all-channel) (omega (
                arith,
                piece_clips conv r a n (run_of d) cut c (ltb-true c ch t),
                total_join (λ k. cond (clipped conv r c k) 1 0) (a * per) (n * per) (m * per),
              )));
          counts = λ h. ap₂ (λ x y. x ++ y) (g.0.counts h.0 ∙ piece_counts conv r a n (run_of d) cut) (more.counts h.1)
              ∙ sym (tabulate_join (frame_clips conv r) a n m);
          told = λ h. rw (g.0.told ∙ stats_stretch conv (run_of d) ∙ piece_stretch conv r a n (run_of d) cut, more.told (omega arith))
              (rw (at_channel, all-channel) (stretch_join conv r (a * per) (n * per) (m * per) (omega (arith, h))));
        }

-- ---- the whole list

pub cut_runs_join : CutRunsJoin
unfolding samples all_samples channel_samples channel_clips per_frame_clips pieces frame_count
cut_runs_join conv r calls opens fits joins =
    let ch = conv.channels in
    let per = samples_per_frame conv.rate in
    let ds = keep right_lengths calls in
    let same : accepted_calls calls ≡ ds = keep_same _ _ (accepted_right conv opens.opens) calls in
    let g : Each Gives ds = keep_each Gives right_lengths (gives conv opens.opens) calls in
    let all : From conv r 0 ds = from conv opens.opens r fits.fits ds g 0 [] (sym joins.bytes) (omega arith) joins.neighbours in
    let n : length r.frames / frame_length ch ≡ frames_in conv ds
    = div-eq_of_eq-mul_left (omega (arith, some_channel conv opens.opens)) (ap length (sym joins.bytes) ∙ bytes_length conv ds g) in
    let limit : frames_in conv ds ≤ 540000 = omega (arith, few_frames rack conv r fits.fits) in
    let few : frames_in conv ds * per < 2 ^ 64 = omega (arith, mul-le-mul limit (frame_samples conv.rate)) in
    record {
      decided = λ call m. decided conv opens.opens call;
      sampled = rw (same, n) (all.sampled ∙ ap (λ s. tabulate (item conv r) s (frames_in conv ds * per * ch)) (omega arith));
      counted = λ c h. rw (same, n) (all.clips c h ∙ ap (λ s. cond (ltb c ch) (count (clipped conv r c) s (frames_in conv ds * per)) 0) (omega arith));
      per_frame = λ h. rw (same, n) (all.counts (each_member _ ds (λ call m. h call (rw same m))));
      told = rw same (all.told few ∙ ap (λ k. stretch conv r (0 * per) (k * per)) (sym n) ∙ ap (λ k. stretch conv r k (channel_samples conv r)) (omega arith) ∙ sym (stats_stretch conv r));
    }
