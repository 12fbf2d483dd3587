-- A piece of a run, with neighbours that agree, has the samples and clips that the run has there.
use Rattle.std.proofs.Common.{◌≡◌, ap, sym, ◌∙◌, List, ◌++◌, append_assoc, Bool, true, false, cond, not, ℕ, suc, ◌+◌, ◌-◌, ◌*◌, ◌/◌, ◌%◌, ◌≤◌, ◌<◌, zero-add}
use Rattle.std.proofs.Common.{add-zero, add_assoc, mul-le-mul_right, mod-lt, div-lt_iff_lt-mul, arith, T, leb, leb→le, length}
use native.Mathlib.Nat.{mul-add-div_right, mul-add-mod_self_right}
use lib.Dec.{nleb→lt}
use Rattle.numbers.specs.Lists.{tabulate, count}
use Rattle.numbers.proofs.Lists.{tabulate_same, total_same}
use Rattle.reference.specs.Frames.{Run, frame_length, frame, before_frame, sequence, channel_byte}
use Rattle.reference.specs.Stages.{taps_of}
use Rattle.reference.specs.Settings.{reach_of}
use Rattle.reference.specs.Scaling.{scaled, clamp, clips}
use Rattle.reference.specs.Output.{samples_per_frame, unclamped, sample, clipped, item, frame_clips}
use Rattle.reference.specs.declared.Converter.{Converter}
use Rattle.reference.proofs.Locality.{Same, y_same, reach_small, last_tap}
use Rattle.reference.proofs.Frames.{channel_left, channel_right, channel_frame}
use Rattle.joins.specs.Joins.{Agree}

-- the piece is n frames of the run r, after a others, and its neighbours agree
pub record PieceOf (conv : Converter) (r : Run) (a n : ℕ) (piece : Run) : Type 0 where
  pub some_channel : 0 < conv.channels
  pub run_before : length (before_frame conv.channels r) ≡ frame_length conv.channels
  pub piece_before : length (before_frame conv.channels piece) ≡ frame_length conv.channels
  pub whole : length piece.frames ≡ n * frame_length conv.channels
  pub done : List ℕ
  pub rest : List ℕ
  pub parts : r.frames ≡ done ++ (piece.frames ++ rest)
  pub done_whole : length done ≡ a * frame_length conv.channels
  pub agree : Agree conv (frame conv.channels (sequence conv.channels r) a) piece (frame conv.channels (sequence conv.channels r) (suc (a + n)))

module _ (conv : Converter) (r : Run) (a n : ℕ) (piece : Run) (cut : PieceOf conv r a n piece) where
  abbrev ch : ℕ
  ch = conv.channels

  abbrev far : ℕ
  far = reach_of conv

  near_by : far ≤ 4704
  near_by = reach_small conv.rate conv.cutoff _ (last_tap conv.filter)

  before_same : (c p : ℕ) → c < ch → p < 4704 → 4704 - far ≤ p → channel_byte ch (sequence ch piece) c p ≡ channel_byte ch (sequence ch r) c (4704 * a + p)
  unfolding sequence
  before_same c p l h within =
      let k : p ≡ 4704 - far + (p - (4704 - far)) = omega arith in
      channel_left ch c (before_frame ch piece) _ 1 (omega (arith, cut.piece_before)) p l (omega arith)
      ∙ rw k (cut.agree.last.same c (p - (4704 - far)) l (omega (arith, near_by)))
      ∙ channel_frame ch c (sequence ch r) a p l h

  inside_same : (c p : ℕ) → c < ch → p < 4704 * n → channel_byte ch (sequence ch piece) c (4704 * 1 + p) ≡ channel_byte ch (sequence ch r) c (4704 * 1 + (4704 * a + p))
  unfolding sequence
  inside_same c p l h =
      channel_right ch c (before_frame ch piece) _ 1 (omega (arith, cut.piece_before)) p
      ∙ channel_left ch c piece.frames _ n cut.whole p l h
      ∙ sym (channel_right ch c (before_frame ch r) _ 1 (omega (arith, cut.run_before)) (4704 * a + p)
      ∙ rw (cut.parts, append_assoc) (channel_right ch c cut.done _ a cut.done_whole p
      ∙ rw append_assoc (channel_left ch c piece.frames _ n cut.whole p l h)))

  after_same : (c p : ℕ) → c < ch → p < far → channel_byte ch (sequence ch piece) c (4704 * 1 + (4704 * n + p)) ≡ channel_byte ch (sequence ch r) c (4704 * suc (a + n) + p)
  unfolding sequence
  after_same c p l h =
      channel_right ch c (before_frame ch piece) _ 1 (omega (arith, cut.piece_before)) (4704 * n + p)
      ∙ channel_right ch c piece.frames _ n cut.whole p
      ∙ rw zero-add at (cut.agree.first.same c p l h)
      ∙ channel_frame ch c (sequence ch r) (suc (a + n)) p l (omega (arith, near_by))

  bytes_same : (c : ℕ) → c < ch → Same (4704 * n + 2 * far) (channel_byte ch (sequence ch piece) c) (4704 * 1 - far) (channel_byte ch (sequence ch r) c) (4704 * suc a - far)
  bytes_same c l k m =
      let small = near_by in
      let e : 4704 * suc a - far + k ≡ 4704 * a + (4704 * 1 - far + k) = omega arith in
      rw e (go (leb far k) (leb→le far k) (nleb→lt far k) (leb (4704 * n + far) k) (leb→le (4704 * n + far) k) (nleb→lt (4704 * n + far) k))
    where
      Here : Type 0
      Here = channel_byte ch (sequence ch piece) c (4704 * 1 - far + k) ≡ channel_byte ch (sequence ch r) c (4704 * a + (4704 * 1 - far + k))

      go : (b : Bool) → (T b → far ≤ k) → (T (not b) → k < far) → (d : Bool) → (T d → 4704 * n + far ≤ k) → (T (not d) → k < 4704 * n + far) → Here
      go false p p' d q q' = before_same c (4704 * 1 - far + k) l (omega (arith, p' tt, near_by)) (omega arith)
      go true p p' false q q' =
          let small = near_by in
          let low = p tt in
          let high = q' tt in
          let i : 4704 * 1 - far + k ≡ 4704 * 1 + (k - far) = omega arith in
          let j : 4704 * a + (4704 * 1 + (k - far)) ≡ 4704 * 1 + (4704 * a + (k - far)) = omega arith in
          rw (i, j) (inside_same c (k - far) l (omega arith))
      go true p p' true q q' =
          let small = near_by in
          let low = q tt in
          let i : 4704 * 1 - far + k ≡ 4704 * 1 + (4704 * n + (k - far - 4704 * n)) = omega arith in
          let j : 4704 * a + (4704 * 1 + (4704 * n + (k - far - 4704 * n))) ≡ 4704 * suc (a + n) + (k - far - 4704 * n) = omega arith in
          rw (i, j) (after_same c (k - far - 4704 * n) l (omega arith))

  abbrev per : ℕ
  per = samples_per_frame conv.rate

  pub unclamped_same : (c k : ℕ) → c < ch → k < n * per → unclamped conv piece c k ≡ unclamped conv r c (a * per + k)
  unfolding unclamped
  unclamped_same c k l h =
      let small = near_by in
      let i : per + k ≡ 1 * per + k = omega arith in
      let j : per + (a * per + k) ≡ suc a * per + k = omega arith in
      rw (i, j) (ap (scaled conv.gain.linear) (y_same n _ 1 _ (suc a) conv.rate conv.cutoff (taps_of conv.filter) (record { room = omega arith; room' = omega arith; same = bytes_same c l }) k h))

  item_same : (i : ℕ) → i < n * per * ch → item conv piece i ≡ item conv r (a * per * ch + i)
  unfolding item sample
  item_same i h =
      let some = cut.some_channel in
      rw (mul-add-div_right some (a * per) i, mul-add-mod_self_right (a * per) ch i)
      (ap clamp (unclamped_same (i % ch) (i / ch) (mod-lt i some) ((div-lt_iff_lt-mul some).1 h)))

  clipped_same : (c k : ℕ) → c < ch → k < n * per → clipped conv piece c k ≡ clipped conv r c (a * per + k)
  unfolding clipped
  clipped_same c k l h = ap clips (unclamped_same c k l h)

  -- m samples of channel c from sample s of the piece on
  count_same : (c s m : ℕ) → c < ch → s + m ≤ n * per → count (clipped conv piece c) s m ≡ count (clipped conv r c) (a * per + s) m
  count_same c s m l h =
      total_same (λ k. cond (clipped conv piece c k) 1 0) (λ k. cond (clipped conv r c k) 1 0) s (a * per + s) m
      (λ k q. rw (add_assoc (a * per) s k) (ap (λ b. cond b 1 0) (clipped_same c (s + k) l (omega arith))))

  pub piece_samples : tabulate (item conv piece) 0 (n * per * ch) ≡ tabulate (item conv r) (a * per * ch) (n * per * ch)
  piece_samples = tabulate_same (item conv piece) (item conv r) 0 (a * per * ch) _ (λ k l. rw zero-add (item_same k l))

  pub piece_clips : (c : ℕ) → c < ch → count (clipped conv piece c) 0 (n * per) ≡ count (clipped conv r c) (a * per) (n * per)
  piece_clips c l = rw (add-zero (a * per)) at (count_same c 0 (n * per) l (omega arith))

  pub piece_counts : tabulate (frame_clips conv piece) 0 n ≡ tabulate (frame_clips conv r) a n
  unfolding frame_clips
  piece_counts = tabulate_same (frame_clips conv piece) (frame_clips conv r) 0 a n (λ f h.
      let i : (a + f) * per ≡ a * per + (0 + f) * per = omega arith in
      rw i (total_same (λ c. count (clipped conv piece c) ((0 + f) * per) per) (λ c. count (clipped conv r c) (a * per + (0 + f) * per) per) 0 0 ch
      (λ c l. count_same (0 + c) ((0 + f) * per) per (omega arith) (omega (arith, mul-le-mul_right per h)))))
