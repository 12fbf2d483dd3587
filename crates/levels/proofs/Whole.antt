-- A frame with the frames read before and after it as neighbours tells what the whole input, as one run, tells of it.
use Rattle.std.proofs.Common.{◌≡◌, ℕ, zero, suc, ◌+◌, ◌-◌, ◌*◌, ◌/◌, ◌<◌, ◌≤◌, List, ◌++◌, length, get_or, take, drop, replicate, ℤ, sym, refl, ap, ◌∙◌, ⊎_elim}
use Rattle.std.proofs.Common.{one-mul, zero-add, zero-mul, div-mul-le_self, arith, length-drop, take-append-drop, length-take-le, le-ltb, lt-ltb}
use native.Mathlib.Nat.{div_self}
use lib.ListN.{length-replicate}
use lib.Seq.{take-append-le, drop-append-le}
use Rattle.numbers.specs.Extremes.{lesser, greater, extreme}
use Rattle.numbers.proofs.Extremes.{extreme_same}
use Rattle.numbers.specs.Lists.{tabulate, count}
use Rattle.numbers.proofs.Lists.{get_d_tabulate, tabulate_same, total_same, below_or, part_end}
use Rattle.reference.specs.Settings.{reach_of}
use Rattle.reference.specs.Frames.{Run, frame_length, frame_count, frame, idle, neighbour, before_frame, after_frame, sequence, channel_byte}
use Rattle.reference.specs.Scaling.{clamp}
use Rattle.reference.specs.Output.{samples_per_frame, sample, clipped, samples, frame_clips}
use Rattle.reference.specs.declared.Converter.{Converter}
use Rattle.reference.proofs.Frames.{some_samples, channel_left, channel_right, channel_frame}
use Rattle.reference.proofs.Locality.{reach_small, last_tap}
use Rattle.joins.proofs.Pieces.{PieceOf, unclamped_same, piece_clips}
use Rattle.overs.specs.Overs.{none, channel, overs_of, Progress}
use Rattle.overs_joins.specs.Signal.{in_progress}
use Rattle.overs_joins.specs.Joins.{frame_overs}
use Rattle.overs.specs.declared.OverCount.{OverCount}
use Rattle.overs_joins.proofs.Signal.{answer_is}
use Rattle.overs_joins.proofs.Joins.{run_channel}
use Rattle.text.specs.Text.{joined}
use Rattle.level_lines.specs.Lines.{level_line}
use Rattle.levels.specs.Levels.{level, lines_with, frame_lines, states_after, whole_input, FrameOf, InProgress, piece_lines, piece_states}

module _ (ch : ℕ) (input : List ℕ) where
  abbrev N : ℕ
  N = frame_count ch input

  -- the whole frames, and what is left over
  abbrev frames : List ℕ
  frames = take (N * frame_length ch) input

  -- an absent neighbour
  abbrev absent : List ℕ
  absent = replicate (frame_length ch) idle

  absent_long : length absent ≡ 1 * frame_length ch
  absent_long = length-replicate (frame_length ch) idle ∙ omega arith

  fit : N * frame_length ch ≤ length input
  unfolding frame_count
  fit = div-mul-le_self (length input) (frame_length ch)

  long : length frames ≡ N * frame_length ch
  long = length-take-le _ input fit

  split : frames ++ drop (N * frame_length ch) input ≡ input
  split = take-append-drop (N * frame_length ch) input

  frame_in : (f : ℕ) → f < N → frame ch input f ≡ frame ch frames f
  unfolding frame
  frame_in f l =
      let e = part_end f N (frame_length ch) l in
      ap (λ z. take (frame_length ch) (drop (f * frame_length ch) z)) (sym split)
      ∙ ap (take (frame_length ch)) (drop-append-le (f * frame_length ch) frames _ (omega (arith, long)))
      ∙ take-append-le (frame_length ch) (drop (f * frame_length ch) frames) _ (omega (arith, long, length-drop (f * frame_length ch) frames))

  frame_long : (f : ℕ) → f < N → length (frame ch input f) ≡ frame_length ch
  unfolding frame
  frame_long f l = length-take-le _ (drop (f * frame_length ch) input) (omega (arith, part_end f N (frame_length ch) l, fit, length-drop (f * frame_length ch) input))

  -- position q of the input, one frame into the whole run's sequence
  inside : (c q : ℕ) → c < ch → q < 4704 * N → channel_byte ch (sequence ch (whole_input ch input)) c (4704 * 1 + q) ≡ channel_byte ch input c q
  unfolding sequence whole_input neighbour
  inside c q l h =
      channel_right ch c absent (frames ++ absent) 1 absent_long q
      ∙ channel_left ch c frames absent N long q l h
      ∙ sym (channel_left ch c frames (drop (N * frame_length ch) input) N long q l h)
      ∙ ap (λ z. channel_byte ch z c q) split

module _ (conv : Converter) (input : List ℕ) (f : ℕ) (piece : Run) (here : FrameOf conv.channels input f piece) where
  abbrev ch : ℕ
  ch = conv.channels

  abbrev whole : Run
  whole = whole_input ch input

  abbrev true_frame : ℕ → List ℕ
  true_frame k = frame ch (sequence ch whole) k

  -- the frame before, from the sequence's frame f
  before_same : (g : ℕ) → f ≡ g → (c p : ℕ) → c < ch → p < 4704 → channel_byte ch (before_frame ch piece) c p ≡ channel_byte ch (true_frame f) c p
  unfolding sequence whole_input neighbour
  before_same zero e c p l h =
      rw (here.has_before, le-ltb 0 f (omega arith))
      (sym (channel_frame ch c (sequence ch whole) f p l h
      ∙ rw (e, zero-add p) (channel_left ch c (absent ch input) (frames ch input ++ absent ch input) 1 (absent_long ch input) p l (omega arith))))
  before_same (suc g) e c p l h =
      let some : 0 < f = omega arith in
      let i : 4704 * f + p ≡ 4704 * 1 + (4704 * (f - 1) + p) = omega arith in
      rw (here.has_before, lt-ltb 0 f some, here.before some)
      (channel_frame ch c input (f - 1) p l h
      ∙ sym (channel_frame ch c (sequence ch whole) f p l h ∙ rw i (inside ch input c (4704 * (f - 1) + p) l (omega (arith, here.inside)))))

  after_same : (c p : ℕ) → c < ch → p < 4704 → channel_byte ch (after_frame ch piece) c p ≡ channel_byte ch (true_frame (suc (f + 1))) c p
  unfolding sequence whole_input neighbour
  after_same c p l h = ⊎_elim there gone (below_or (suc f) (N ch input))
    where
      there : suc f < N ch input → channel_byte ch (after_frame ch piece) c p ≡ channel_byte ch (true_frame (suc (f + 1))) c p
      there more =
          let i : 4704 * suc (f + 1) + p ≡ 4704 * 1 + (4704 * suc f + p) = omega arith in
          rw (here.has_after, lt-ltb (suc f) (N ch input) more, here.after more)
          (channel_frame ch c input (suc f) p l h
          ∙ sym (channel_frame ch c (sequence ch whole) (suc (f + 1)) p l h ∙ rw i (inside ch input c (4704 * suc f + p) l (omega arith))))

      gone : N ch input ≤ suc f → channel_byte ch (after_frame ch piece) c p ≡ channel_byte ch (true_frame (suc (f + 1))) c p
      gone end =
          let i : 4704 * suc (f + 1) + p ≡ 4704 * 1 + (4704 * N ch input + p) = omega (arith, here.inside) in
          rw (here.has_after, le-ltb (suc f) (N ch input) end)
          (sym (channel_frame ch c (sequence ch whole) (suc (f + 1)) p l h
          ∙ rw i (channel_right ch c (absent ch input) (frames ch input ++ absent ch input) 1 (absent_long ch input) _
          ∙ channel_right ch c (frames ch input) (absent ch input) (N ch input) (long ch input) p)))

  pub piece_of : PieceOf conv whole f 1 piece
  unfolding whole_input neighbour frame
  piece_of =
      let small : reach_of conv ≤ 4704 = reach_small conv.rate conv.cutoff _ (last_tap conv.filter) in
      let end = part_end f (N ch input) (frame_length ch) here.inside in
      record {
        some_channel = here.some_channel;
        run_before = length-replicate (frame_length ch) idle;
        piece_before = before_long f refl;
        whole = rw (here.frames, frame_long ch input f here.inside) (omega arith);
        done = take (f * frame_length ch) (frames ch input);
        rest = drop (frame_length ch) (drop (f * frame_length ch) (frames ch input));
        parts = cut;
        done_whole = length-take-le (f * frame_length ch) (frames ch input) (omega (arith, long ch input));
        agree = record {
          last = record { same = λ c k l m. before_same f refl c _ l (omega arith) };
          first = record { same = λ c k l m. after_same c _ l (omega arith) };
        };
      }
    where
      before_long : (g : ℕ) → f ≡ g → length (before_frame ch piece) ≡ frame_length ch
      before_long zero e = rw (here.has_before, le-ltb 0 f (omega arith)) (length-replicate (frame_length ch) idle)
      before_long (suc g) e =
          let some : 0 < f = omega arith in
          rw (here.has_before, lt-ltb 0 f some, here.before some) (frame_long ch input (f - 1) (omega (arith, here.inside)))

      cut : frames ch input ≡ take (f * frame_length ch) (frames ch input) ++ (piece.frames ++ drop (frame_length ch) (drop (f * frame_length ch) (frames ch input)))
      cut =
          sym (take-append-drop (f * frame_length ch) (frames ch input))
          ∙ ap (λ z. take (f * frame_length ch) (frames ch input) ++ z)
          (sym (take-append-drop (frame_length ch) (drop (f * frame_length ch) (frames ch input)))
          ∙ ap (λ z. z ++ drop (frame_length ch) (drop (f * frame_length ch) (frames ch input))) (sym (here.frames ∙ frame_in ch input f here.inside)))

  abbrev per : ℕ
  per = samples_per_frame conv.rate

  channel_same : (c : ℕ) → c < ch → count (clipped conv piece c) (0 * per) per ≡ count (clipped conv whole c) (f * per) per
  channel_same c l = rw zero-mul (rw one-mul at (piece_clips conv whole f 1 piece piece_of c l))

  sample_same : (c k : ℕ) → c < ch → k < per → sample conv piece c k ≡ sample conv whole c (f * per + k)
  unfolding sample
  sample_same c k l h = ap clamp (unclamped_same conv whole f 1 piece piece_of c k l (omega arith))

  level_same : (over c : ℕ) → c < ch → level conv piece over 0 c ≡ level conv whole over f c
  unfolding level
  level_same over c l =
      let pick : (p : ℤ → ℤ → ℤ) → extreme p (sample conv piece c) (0 * per) per ≡ extreme p (sample conv whole c) (f * per) per =
      λ p. extreme_same p (sample conv piece c) (sample conv whole c) (0 * per) (f * per) per (some_samples conv.rate)
      (λ k h. rw (zero-mul per, zero-add k) (sample_same c k l h)) in
      rw (pick lesser, pick greater, channel_same c l) refl

  -- the piece's samples of a channel are the frame's
  pub frame_channel : (c : ℕ) → c < ch → channel (samples conv piece) ch c ≡ tabulate (sample conv whole c) (f * per) per
  unfolding frame_count
  frame_channel c l =
      let one : length piece.frames / frame_length ch * per ≡ per =
      rw (here.frames, frame_long ch input f here.inside, div_self {n = frame_length ch} (omega (arith, here.some_channel))) (one-mul per) in
      run_channel conv piece c l
      ∙ ap (tabulate (sample conv piece c) 0) one
      ∙ tabulate_same (sample conv piece c) (sample conv whole c) 0 (f * per) per (λ k h. rw zero-add (sample_same c k l h))

  module _ (states : List Progress) (before : InProgress conv whole f states) where
    overs_same : (c : ℕ) → c < ch
        → overs_of (samples conv piece) ch c (get_or states c none) ≡ record { count = frame_overs conv whole c f; next = in_progress (sample conv whole c) (suc f * per) }
    unfolding frame_overs
    overs_same c l =
        let place : f * per + per ≡ suc f * per = omega arith in
        rw (before.held c l, ← place) (answer_is (sample conv whole c) (samples conv piece) ch c (f * per) per (frame_channel c l))

    pub lines_same : (number : ℕ) → piece_lines conv number states piece ≡ frame_lines conv whole number f
    unfolding piece_lines frame_lines lines_with
    lines_same number =
        ap joined (tabulate_same _ _ 0 0 ch (λ c l.
        rw zero-add (ap (level_line number c) (ap (λ (o : OverCount). level conv piece o.count 0 c) (overs_same c l) ∙ level_same (frame_overs conv whole c f) c l))))

    pub states_same : ch ≤ 6 → InProgress conv whole (suc f) (piece_states conv states piece)
    unfolding piece_states states_after
    states_same few = record {
      held = λ c l. get_d_tabulate _ 0 6 c none (omega arith) ∙ rw (zero-add c, lt-ltb c ch l) (ap (λ (o : OverCount). o.next) (overs_same c l));
    }

  pub clips_same : frame_clips conv piece 0 ≡ frame_clips conv whole f
  unfolding frame_clips
  clips_same = total_same _ _ 0 0 ch (λ c l. rw zero-add (channel_same c l))
