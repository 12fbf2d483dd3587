-- Request 5's theorem: the samples end to end are the run's, and overs go by the samples alone.
use Rattle.std.proofs.Common.{◌≡◌, refl, ap, ap₂, sym, ◌∙◌, List, [], ◌∷◌, ◌++◌, Bool, true, false, cond, ℕ, ◌+◌, ◌-◌, ◌*◌, ◌/◌, ◌%◌, ◌<◌, zero-add, add-zero}
use Rattle.std.proofs.Common.{mod-eq_of_lt, arith, ℤ, pos, length, get_or, take, drop, length-append, take_at, drop_at, get_or-append-add}
use mathlib.Core.List.{flat_map}
use native.Mathlib.Nat.{mul-add-div_right, mul-add-mod_self_right, div-eq_of_eq-mul_left, eq_of_mul-eq-mul_right, div-eq_of_lt}
use lib.ListN.{get_or-append}
use Rattle.numbers.specs.Lists.{tabulate}
use Rattle.numbers.proofs.Lists.{tabulate_same, tabulate_join, length_tabulate, get_d_tabulate, is_tabulate, part_end}
use Rattle.reference.specs.Frames.{Run, frame_count}
use Rattle.reference.specs.Output.{samples_per_frame, sample, item, channel_samples, all_samples, samples}
use Rattle.reference.specs.declared.Converter.{Converter}
use Rattle.reference.proofs.Refusals.{some_channel}
use Rattle.reference.proofs.Frames.{some_samples}
use Rattle.reference.proofs.Promises.{accepted_is, exit_accepted}
use Rattle.joins.specs.Joins.{Call, convert, convert_run, run_of, samples_of, read_s24le, is_answered_accepted, keep, accepted_calls, AcceptedConverter, AcceptedRun, JoinTo}
use Rattle.joins.proofs.Bytes.{samples_back}
use Rattle.joins.proofs.Joins.{cut_runs_join}
use Rattle.overs.specs.Overs.{Progress, none, overs_from, after, channel}
use Rattle.overs_joins.specs.Signal.{overs, in_progress}
use Rattle.overs_joins.specs.Joins.{frame_overs, by_frames, call_samples, call_frames, calls_overs, AsUncut, OversJoin}
use Rattle.overs.proofs.Laws.{at, channel_is}
use Rattle.overs_joins.proofs.Signal.{after_is, overs_are, starts}

-- ---- stretches of a list

module _ (s : ℕ → ℤ) where
  take_part : (a m k : ℕ) → take m (tabulate s a (m + k)) ≡ tabulate s a m
  take_part a m k = rw (tabulate_join s a m k) (take_at (tabulate s a m) (tabulate s (a + m) k) m (length_tabulate s a m))

  drop_part : (a m k : ℕ) → drop m (tabulate s a (m + k)) ≡ tabulate s (a + m) k
  drop_part a m k = rw (tabulate_join s a m k) (drop_at (tabulate s a m) (tabulate s (a + m) k) m (length_tabulate s a m))

  -- the parts of a stretch
  left_part : (xs ys : List ℤ) (a n : ℕ) → xs ++ ys ≡ tabulate s a n → xs ≡ tabulate s a (length xs)
  left_part xs ys a n e =
      let l : length xs + length ys ≡ n = sym (length-append xs ys) ∙ ap length e ∙ length_tabulate s a n in
      is_tabulate s a (length xs) (pos 0) xs refl
      (λ i h. sym (get_or-append xs ys (pos 0) i h) ∙ ap (λ zs. get_or zs i (pos 0)) e ∙ get_d_tabulate s a n i (pos 0) (omega arith))

  right_part : (xs ys : List ℤ) (a n : ℕ) → xs ++ ys ≡ tabulate s a n → ys ≡ tabulate s (a + length xs) (length ys)
  right_part xs ys a n e =
      let l : length xs + length ys ≡ n = sym (length-append xs ys) ∙ ap length e ∙ length_tabulate s a n in
      is_tabulate s (a + length xs) (length ys) (pos 0) ys refl
      (λ i h.
      let j : a + (length xs + i) ≡ a + length xs + i = omega arith in
      sym (get_or-append-add xs ys i (pos 0)) ∙ ap (λ zs. get_or zs (length xs + i) (pos 0)) e ∙ get_d_tabulate s a n (length xs + i) (pos 0) (omega arith) ∙ ap s j)

  -- n frames of the signal after a others, counted from what is in progress there
  frames_are : (per : ℕ) → 0 < per → (a n : ℕ) → by_frames per (in_progress s (a * per)) (tabulate s (a * per) (n * per)) ≡ tabulate (λ f. overs s (f * per) per) a n
  unfolding by_frames
  frames_are per some a n =
      let zs = tabulate s (a * per) (n * per) in
      let size : length zs / per ≡ n = div-eq_of_eq-mul_left some (length_tabulate s (a * per) (n * per)) in
      rw size (tabulate_same _ (λ f. overs s (f * per) per) 0 a n (λ f h.
      let i : 0 + f ≡ f = omega arith in
      let room = part_end f n per h in
      let rest = n * per - f * per - per in
      let whole : n * per ≡ f * per + (per + rest) = omega arith in
      let place : a * per + f * per ≡ (a + f) * per = omega arith in
      let state : after (in_progress s (a * per)) (take (f * per) zs) ≡ in_progress s (a * per + f * per) =
      rw (whole, take_part (a * per) (f * per) (per + rest)) (after_is s (a * per) (f * per)) in
      let frame : take per (drop (f * per) zs) ≡ tabulate s (a * per + f * per) per =
      rw (whole, drop_part (a * per) (f * per) (per + rest)) (take_part (a * per + f * per) per rest) in
      rw (i, ← place) (ap₂ overs_from state frame ∙ overs_are s (a * per + f * per) per)))

-- ---- a channel of interleaved items

module _ (n c : ℕ) (inside : c < n) where
  channel_length : (items : List ℤ) (m : ℕ) → length items ≡ m * n → length (channel items n c) ≡ m
  channel_length items m e = rw (channel_is n c inside items m e) (length_tabulate (at items n c) 0 m)

  channel_append : (xs ys : List ℤ) (m k : ℕ) → length xs ≡ m * n → length ys ≡ k * n → channel (xs ++ ys) n c ≡ channel xs n c ++ channel ys n c
  channel_append xs ys m k e f =
      let l : length (xs ++ ys) ≡ (m + k) * n = length-append xs ys ∙ omega arith in
      channel_is n c inside (xs ++ ys) (m + k) l
      ∙ tabulate_join (at (xs ++ ys) n c) 0 m k
      ∙ ap₂ (λ x y. x ++ y)
      (tabulate_same (at (xs ++ ys) n c) (at xs n c) 0 0 m (λ j h.
      let z : 0 + j ≡ j = omega arith in
      rw z (get_or-append xs ys (pos 0) (j * n + c) (omega (arith, part_end j m n h)))))
      (tabulate_same (at (xs ++ ys) n c) (at ys n c) (0 + m) 0 k (λ j h.
      let z : (0 + m + j) * n + c ≡ length xs + ((0 + j) * n + c) = omega arith in
      rw z (get_or-append-add xs ys ((0 + j) * n + c) (pos 0))))
      ∙ sym (ap₂ (λ x y. x ++ y) (channel_is n c inside xs m e) (channel_is n c inside ys k f))

-- ---- calls

module _ (conv : Converter) where
  abbrev ch : ℕ
  ch = conv.channels

  abbrev per : ℕ
  per = samples_per_frame conv.rate

  samples_length : (r : Run) → length (samples conv r) ≡ frame_count ch r.frames * per * ch
  unfolding samples all_samples channel_samples
  samples_length r = length_tabulate _ 0 _

  -- channel c of the run's samples
  pub run_channel : (r : Run) (c : ℕ) → c < ch → channel (samples conv r) ch c ≡ tabulate (sample conv r c) 0 (frame_count ch r.frames * per)
  unfolding samples all_samples channel_samples item
  run_channel r c l =
      channel_is ch c l (samples conv r) (frame_count ch r.frames * per) (samples_length r)
      ∙ tabulate_same _ (sample conv r c) 0 0 _ (λ k h.
      let q : (k * ch + c) / ch ≡ k = mul-add-div_right (omega arith) k c ∙ rw (div-eq_of_lt l) (add-zero k) in
      let m : (k * ch + c) % ch ≡ c = mul-add-mod_self_right k ch c ∙ mod-eq_of_lt l in
      let z : 0 + k ≡ k = omega arith in
      rw z (get_d_tabulate (item conv r) 0 _ (k * ch + c) (pos 0) (omega (arith, part_end k (frame_count ch r.frames * per) ch h))
      ∙ rw (zero-add (k * ch + c), q, m)))

  -- an accepted call gives its piece's samples
  gave : (call : Call conv) → is_answered_accepted call ≡ true → samples_of call ≡ samples conv (run_of call)
  unfolding is_answered_accepted
  gave (convert c) e =
      ap read_s24le (c.promise.written ∙ exit_accepted _ _ _ (sym c.promise.answered.decided ∙ accepted_is _ e)) ∙ samples_back conv c.run
  gave (convert_run c) e = c.promise.written ∙ exit_accepted _ _ _ (sym c.promise.answered.decided ∙ accepted_is _ e)

  -- frames of the calls together
  frames_in : List (Call conv) → ℕ
  frames_in [] = 0
  frames_in (call ∷ calls) = call_frames call + frames_in calls

  gave_length : (call : Call conv) → is_answered_accepted call ≡ true → length (samples_of call) ≡ frame_count ch (run_of call).frames * per * ch
  gave_length call e = ap length (gave call e) ∙ samples_length (run_of call)

  all_length : (calls : List (Call conv)) → length (flat_map samples_of (accepted_calls calls)) ≡ frames_in calls * per * ch
  unfolding flat_map keep frames_in call_frames
  all_length [] = omega arith
  all_length (call ∷ calls) = go (is_answered_accepted call) refl (all_length calls)
    where
      go : (b : Bool) → is_answered_accepted call ≡ b → length (flat_map samples_of (keep is_answered_accepted calls)) ≡ frames_in calls * per * ch
          → length (flat_map samples_of (cond b (call ∷ keep is_answered_accepted calls) (keep is_answered_accepted calls)))
          ≡ (cond b (frame_count ch (run_of call).frames) 0 + frames_in calls) * per * ch
      go true e h =
          length-append (samples_of call) (flat_map samples_of (keep is_answered_accepted calls)) ∙ omega (arith, gave_length call e)
      go false e h = h ∙ rw (zero-add (frames_in calls))

  module _ (c : ℕ) (inside : c < ch) where
    call_length : (call : Call conv) → length (call_samples c call) ≡ call_frames call * per
    unfolding call_samples call_frames
    call_length call = go (is_answered_accepted call) refl
      where
        go : (b : Bool) → is_answered_accepted call ≡ b → length (cond b (channel (samples_of call) ch c) []) ≡ cond b (frame_count ch (run_of call).frames) 0 * per
        go true e = channel_length ch c inside (samples_of call) (frame_count ch (run_of call).frames * per) (gave_length call e)
        go false e = omega arith

    -- the calls' samples of the channel, end to end, are the channel of their samples end to end
    end_to_end : (calls : List (Call conv)) → flat_map (call_samples c) calls ≡ channel (flat_map samples_of (accepted_calls calls)) ch c
    unfolding flat_map keep call_samples tabulate
    end_to_end [] = sym (channel_is ch c inside [] 0 (omega arith))
    end_to_end (call ∷ calls) = go (is_answered_accepted call) refl (end_to_end calls)
      where
        go : (b : Bool) → is_answered_accepted call ≡ b → flat_map (call_samples c) calls ≡ channel (flat_map samples_of (keep is_answered_accepted calls)) ch c
            → cond b (channel (samples_of call) ch c) [] ++ flat_map (call_samples c) calls
            ≡ channel (flat_map samples_of (cond b (call ∷ keep is_answered_accepted calls) (keep is_answered_accepted calls))) ch c
        go true e h =
            rw h (sym (channel_append ch c inside (samples_of call) _ (frame_count ch (run_of call).frames * per) (frames_in calls * per) (gave_length call e) (all_length calls)))
        go false e h = h

    module _ (r : Run) where
      abbrev s : ℕ → ℤ
      s = sample conv r c

      -- calls whose samples are a stretch of the signal
      as_uncut : (calls : List (Call conv)) (a n : ℕ) (p : Progress) → flat_map (call_samples c) calls ≡ tabulate s (a * per) n → p ≡ in_progress s (a * per) → AsUncut r c a p calls
      unfolding flat_map frame_overs
      as_uncut [] a n p e start = start
      as_uncut (call ∷ calls) a n p e start =
          let zs = call_samples c call in
          let rest = flat_map (call_samples c) calls in
          let m = call_frames call in
          let here : zs ≡ tabulate s (a * per) (m * per) = left_part s zs rest (a * per) n e ∙ ap (tabulate s (a * per)) (call_length call) in
          let place : a * per + length zs ≡ (a + m) * per = omega (arith, call_length call) in
          let there : rest ≡ tabulate s ((a + m) * per) (length rest) = right_part s zs rest (a * per) n e ∙ ap (λ k. tabulate s k (length rest)) place in
          let end : after p zs ≡ in_progress s ((a + m) * per) = rw (here, start) (after_is s (a * per) (m * per) ∙ ap (in_progress s) (omega arith)) in
          (start, rw (here, start) (frames_are s per (some_samples conv.rate) a m), as_uncut calls (a + m) (length rest) (after p zs) there end)

      joined : (calls : List (Call conv)) (a : ℕ) (p : Progress) → AsUncut r c a p calls → calls_overs c p calls ≡ tabulate (frame_overs conv r c) a (frames_in calls)
      unfolding calls_overs frames_in tabulate
      joined [] a p u = refl
      joined (call ∷ calls) a p u =
          ap₂ (λ x y. x ++ y) u.1 (joined calls (a + call_frames call) (after p (call_samples c call)) u.2)
          ∙ sym (tabulate_join (frame_overs conv r c) a (call_frames call) (frames_in calls))

-- ---- the whole list

module _ (conv : Converter) (r : Run) (calls : List (Call conv)) (opens : AcceptedConverter conv) (fits : AcceptedRun conv r) (joins : JoinTo r calls) where
  abbrev frames : ℕ
  frames = frame_count conv.channels r.frames

  sampled : flat_map samples_of (accepted_calls calls) ≡ samples conv r
  sampled = (cut_runs_join conv r calls opens fits joins).sampled

  all_frames : frames_in conv calls ≡ frames
  all_frames =
      eq_of_mul-eq-mul_right (per conv) (some_samples conv.rate) _ _
      (eq_of_mul-eq-mul_right (ch conv) (some_channel conv opens.opens) _ _ (sym (all_length conv calls) ∙ ap length sampled ∙ samples_length conv r))

  uncut : (c : ℕ) → c < conv.channels → AsUncut r c 0 none calls
  uncut c l =
      let z : 0 ≡ 0 * per conv = omega arith in
      as_uncut conv c l r calls 0 (frames * per conv) none
      (end_to_end conv c l calls ∙ ap (λ zs. channel zs (ch conv) c) sampled ∙ run_channel conv r c l ∙ ap (λ k. tabulate (sample conv r c) k (frames * per conv)) z)
      (sym (starts (sample conv r c)) ∙ ap (in_progress (sample conv r c)) z)

pub overs_join : OversJoin
overs_join conv r calls opens fits joins =
    let u = uncut conv r calls opens fits joins in
    record {
      joined = λ c l. joined conv c l r calls 0 none (u c l) ∙ ap (tabulate (frame_overs conv r c) 0) (all_frames conv r calls opens fits joins);
      uncut = u;
    }
