-- Turns one after the other tell what the whole input, the bytes that have come, has: its counts, and its text.
use Rattle.std.proofs.Common.{◌≡◌, refl, sym, ap, ap₂, subst, ◌∙◌, List, [], ◌++◌, append_assoc, append-nil, ⊎_elim, ℕ, suc, ◌+◌, ◌-◌, ◌*◌, ◌/◌, ◌%◌, ◌≤◌, ◌<◌}
use Rattle.std.proofs.Common.{zero-add, zero-mul, add-zero, suc-mul, mod-eq_of_lt, arith, lt-ltb, le-ltb, eq-eqb, ne_eqb, eqb, ltb, length, take, drop}
use Rattle.std.proofs.Common.{replicate, length-append, length-drop, length-take-le, take_all, take_at, drop_at, Option}
use native.Mathlib.Nat.{mul-add-div_right, mul-add-mod_self_right, div-eq_of_lt}
use lib.ListN.{get_or-replicate}
use lib.Seq.{take-append-le, drop-append-le}
use Rattle.std.specs.Io.KnownBytes.{Consumes, Appends, IsAtEnd}
use Rattle.numbers.specs.Lists.{tabulate, total}
use Rattle.numbers.proofs.Lists.{below_or, part_end}
use Rattle.reference.specs.Frames.{Run, frame_length, frame_count, frame}
use Rattle.reference.specs.Output.{samples_per_frame, sample, frame_clips}
use Rattle.reference.specs.Refusals.{accepted, decide, held_places}
use Rattle.reference.specs.declared.Converter.{Converter}
use Rattle.reference.proofs.Refusals.{some_channel, few_channels}
use Rattle.overs.specs.Overs.{none}
use Rattle.overs_joins.proofs.Signal.{starts}
use Rattle.text.specs.Text.{joined}
use Rattle.text.specs.Lists.{part}
use Rattle.level_input.proofs.Known.{consumes_more, appends_none, appends_more}
use Rattle.levels.specs.Levels.{whole_input, FrameOf, InProgress, piece_lines}
use Rattle.levels.proofs.Whole.{lines_same, states_same, clips_same}
use Rattle.level_frames.specs.Report.{ending, left_over, all_clips, lines_of, text_by}
use Rattle.level_frames.proofs.Printing.{joined_more}
use Rattle.level_turns.specs.inner.Turns.{Moment, here, told_frame, Turned, StreamTold}

-- the bytes that have come by a moment, where they lie in the buffer, the text that was passed on, and what is told of
-- any input that begins with these bytes; where the frame at hand is not whole, that is the input
pub record Come (conv : Converter) (m : Moment) (from from' held held' : Option (List ℕ)) : Type 0 where
  pub input : List ℕ
  pub text : List ℕ
  pub long : length input ≡ m.frames * frame_length conv.channels + m.left
  pub came : m.left ≤ frame_length conv.channels
  pub room : length m.three ≡ 3 * frame_length conv.channels
  pub before : 0 < m.frames → part 0 (frame_length conv.channels) m.three ≡ frame conv.channels input (m.frames - 1)
  pub at_end : drop (m.frames * frame_length conv.channels) input ≡ here (frame_length conv.channels) m
  pub lines : (rest : List ℕ) → (m.left < frame_length conv.channels → rest ≡ []) → text ≡ joined (tabulate (lines_of conv (input ++ rest)) 0 m.frames)
  pub counted : (rest : List ℕ) → (m.left < frame_length conv.channels → rest ≡ []) → m.clipped ≡ total (frame_clips conv (whole_input conv.channels (input ++ rest))) 0 m.frames
  pub carried : (rest : List ℕ) → (m.left < frame_length conv.channels → rest ≡ []) → InProgress conv (whole_input conv.channels (input ++ rest)) m.frames m.states
  pub read : Consumes from from' input
  pub end : m.left < frame_length conv.channels → IsAtEnd from'
  pub wrote : Appends held held' text

module _ (ch : ℕ) where
  abbrev size : ℕ
  size = frame_length ch

  middle_long : (three : List ℕ) → length three ≡ 3 * size → length (part size (2 * size) three) ≡ size
  middle_long three e = length-take-le (2 * size - size) (drop size three) (omega (arith, e, length-drop size three)) ∙ omega arith

  -- a frame stays as it is where bytes follow
  frame_more : (xs ys : List ℕ) (k : ℕ) → k * size + size ≤ length xs → frame ch (xs ++ ys) k ≡ frame ch xs k
  unfolding frame
  frame_more xs ys k l =
      ap (take size) (drop-append-le (k * size) xs ys (omega arith))
      ∙ take-append-le size (drop (k * size) xs) ys (omega (arith, length-drop (k * size) xs))

-- before the first turn
begins_at : (conv : Converter) → decide (held_places conv) ≡ accepted → (m : Moment) (from from' held : Option (List ℕ))
    → m.frames ≡ 0 → m.clipped ≡ 0 → m.states ≡ replicate 6 none → m.left ≤ frame_length conv.channels → length m.three ≡ 3 * frame_length conv.channels
    → Consumes from from' (here (frame_length conv.channels) m) → (m.left < frame_length conv.channels → IsAtEnd from') → Come conv m from from' held held
unfolding joined tabulate total
begins_at conv opens m from from' held no_frames no_clips nothing came room read end =
    let size = frame_length conv.channels in
    let hand = part size (2 * size) m.three in
    let few = few_channels conv opens in
    let n : length (take m.left hand) ≡ m.left = length-take-le m.left hand (omega (arith, came, middle_long conv.channels m.three room)) in
    let at : m.frames * size ≡ 0 = ap (λ k. k * size) no_frames ∙ zero-mul size in
    record {
      input = take m.left hand;
      text = [];
      long = n ∙ omega (arith, at);
      came = came;
      room = room;
      before = λ l. absurd (omega (arith, l, no_frames));
      at_end = ap (λ k. drop k (take m.left hand)) at;
      lines = λ rest ok. rw no_frames refl;
      counted = λ rest ok. no_clips ∙ rw no_frames refl;
      carried = λ rest ok. record {
        held = λ c l.
            rw (nothing, no_frames, zero-mul (samples_per_frame conv.rate))
            (get_or-replicate 6 c none none (omega arith) ∙ sym (starts (sample conv (whole_input conv.channels (take m.left hand ++ rest)) c)));
      };
      read = read;
      end = end;
      wrote = appends_none held;
    }

-- the same, a frame having so many bytes
pub begins : (conv : Converter) → decide (held_places conv) ≡ accepted → (size : ℕ) → size ≡ frame_length conv.channels → (m : Moment) (from from' held : Option (List ℕ))
    → m.frames ≡ 0 → m.clipped ≡ 0 → m.states ≡ replicate 6 none → m.left ≤ size → length m.three ≡ 3 * size
    → Consumes from from' (here size m) → (m.left < size → IsAtEnd from') → Come conv m from from' held held
begins conv opens size e m from from' held no_frames no_clips nothing came room read end =
    begins_at conv opens m from from' held no_frames no_clips nothing (rw e at came) (rw e at room) (rw e at read) (rw e at end)

-- what has come after one turn more
module _ (conv : Converter) (opens : decide (held_places conv) ≡ accepted) {m next : Moment} (from from' from'' held held' held'' : Option (List ℕ))
    (so : Come conv m from from' held held') (t : Turned conv (frame_length conv.channels) m next from' from'' held' held'') where
  some : 0 < conv.channels
  some = some_channel conv opens

  abbrev ch : ℕ
  ch = conv.channels

  abbrev long : ℕ
  long = frame_length ch

  abbrev f : ℕ
  f = m.frames

  abbrev piece : Run
  piece = told_frame long m next

  -- the frame at hand, the one after it, and what has come of that
  abbrev hand : List ℕ
  hand = part long (2 * long) m.three

  abbrev after : List ℕ
  after = part long (2 * long) next.three

  abbrev fresh : List ℕ
  fresh = take next.left after

  hand_long : length hand ≡ long
  hand_long = middle_long ch m.three so.room

  after_long : length after ≡ long
  after_long = middle_long ch next.three t.room

  fresh_long : length fresh ≡ next.left
  fresh_long = length-take-le next.left after (omega (arith, t.came, after_long))

  in_long : length so.input ≡ f * long + long
  in_long = so.long ∙ ap (λ n. f * long + n) t.whole

  in_frames : length so.input ≡ suc f * long
  in_frames = in_long ∙ sym (suc-mul f long)

  one_told : next.frames ≡ suc f
  one_told = t.frames ∙ omega arith

  hand_here : drop (f * long) so.input ≡ hand
  hand_here = so.at_end ∙ ap (λ n. take n hand) t.whole ∙ take_all long hand (omega (arith, hand_long))

  hand_is : (ys : List ℕ) → hand ≡ frame ch (so.input ++ ys) f
  unfolding frame
  hand_is ys = sym (ap (take long) (drop-append-le (f * long) so.input ys (omega (arith, in_long)) ∙ ap (λ z. z ++ ys) hand_here) ∙ take_at hand ys long hand_long)

  module _ (rest : List ℕ) (ok : next.left < long → rest ≡ []) where
    abbrev all : List ℕ
    all = so.input ++ (fresh ++ rest)

    -- bytes past the frame at hand
    abbrev past : ℕ
    past = next.left + length rest

    all_long : length all ≡ suc f * long + past
    all_long =
        let e : length (fresh ++ rest) ≡ past = length-append fresh rest ∙ ap (λ n. n + length rest) fresh_long in
        length-append so.input (fresh ++ rest) ∙ ap₂ ◌+◌ in_frames e

    frames_in : frame_count ch all ≡ suc f + past / long
    unfolding frame_count
    frames_in = ap (λ n. n / long) all_long ∙ mul-add-div_right (omega (arith, some)) (suc f) past

    last_one : next.left < long → past / long ≡ 0
    last_one l = div-eq_of_lt (rw (ok l) (omega (arith, l)))

    one_more : long ≤ next.left → past / long ≡ 1 + length rest / long
    one_more l =
        let e : past ≡ 1 * long + length rest = omega (arith, t.came, l) in
        ap (λ n. n / long) e ∙ mul-add-div_right (omega (arith, some)) 1 (length rest)

    has_after : eqb next.left long ≡ ltb (suc f) (frame_count ch all)
    has_after =
        ⊎_elim
        (λ l. ne_eqb next.left long (λ e. omega (arith, l, e)) ∙ sym (le-ltb (suc f) (frame_count ch all) (omega (arith, frames_in, last_one l))))
        (λ l. eq-eqb next.left long (omega (arith, l, t.came)) ∙ sym (lt-ltb (suc f) (frame_count ch all) (omega (arith, frames_in, one_more l))))
        (below_or next.left long)

    after_here : long ≤ next.left → after ≡ frame ch all (suc f)
    unfolding frame
    after_here l =
        let whole : fresh ≡ after = take_all next.left after (omega (arith, l, after_long)) in
        sym (ap (take long) (drop_at so.input (fresh ++ rest) (suc f * long) in_frames) ∙ ap (λ z. take long (z ++ rest)) whole ∙ take_at after rest long after_long)

    after_is : suc f < frame_count ch all → after ≡ frame ch all (suc f)
    after_is more = ⊎_elim (λ l. absurd (omega (arith, more, frames_in, last_one l))) after_here (below_or next.left long)

    frame_of : FrameOf ch all f piece
    frame_of = record {
      some_channel = some;
      inside = omega (arith, frames_in);
      frames = hand_is (fresh ++ rest);
      has_before = refl;
      before = λ l. so.before l ∙ sym (frame_more ch so.input (fresh ++ rest) (f - 1) (omega (arith, in_long, part_end (f - 1) f long (omega (arith, l)))));
      has_after = has_after;
      after = after_is;
    }

    -- a turn tells a whole frame
    at_hand_whole : m.left < long → fresh ++ rest ≡ []
    at_hand_whole l = absurd (omega (arith, l, t.whole))

    before_it : InProgress conv (whole_input ch all) f m.states
    before_it = so.carried (fresh ++ rest) at_hand_whole

    abbrev lines : List ℕ
    lines = piece_lines conv f m.states piece

    lines_are : lines ≡ lines_of conv all f
    unfolding lines_of
    lines_are = lines_same conv all f piece frame_of m.states before_it f

    lines_more : so.text ++ lines ≡ joined (tabulate (lines_of conv all) 0 next.frames)
    unfolding tabulate
    lines_more =
        rw one_told
        (ap₂ ◌++◌ (so.lines (fresh ++ rest) at_hand_whole) (lines_are ∙ ap (lines_of conv all) (sym (zero-add f)))
        ∙ sym (joined_more (tabulate (lines_of conv all) 0 f) (lines_of conv all (0 + f))))

    counted_more : next.clipped ≡ total (frame_clips conv (whole_input ch all)) 0 next.frames
    unfolding total
    counted_more =
        rw one_told
        (t.told.counted
        ∙ ap₂ ◌+◌ (so.counted (fresh ++ rest) at_hand_whole) (clips_same conv all f piece frame_of ∙ ap (frame_clips conv (whole_input ch all)) (sym (zero-add f))))

    carried_more : InProgress conv (whole_input ch all) next.frames next.states
    carried_more =
        rw one_told (subst (InProgress conv (whole_input ch all) (suc f)) (sym t.told.carried) (states_same conv all f piece frame_of m.states before_it (few_channels conv opens)))

  come_more : Come conv next from from'' held held''
  come_more =
      let again = append_assoc so.input fresh in
      record {
        input = so.input ++ fresh;
        text = so.text ++ piece_lines conv f m.states piece;
        long = length-append so.input fresh ∙ ap₂ ◌+◌ (in_frames ∙ ap (λ n. n * long) (sym one_told)) fresh_long;
        came = t.came;
        room = t.room;
        before = λ l. t.kept ∙ hand_is fresh ∙ ap (frame ch (so.input ++ fresh)) (omega (arith, one_told));
        at_end = ap (λ n. drop (n * long) (so.input ++ fresh)) one_told ∙ drop_at so.input fresh (suc f * long) in_frames;
        lines = λ rest ok.
            subst (λ w. so.text ++ piece_lines conv f m.states piece ≡ joined (tabulate (lines_of conv w) 0 next.frames)) (sym (again rest)) (lines_more rest ok);
        counted = λ rest ok. subst (λ w. next.clipped ≡ total (frame_clips conv (whole_input ch w)) 0 next.frames) (sym (again rest)) (counted_more rest ok);
        carried = λ rest ok. subst (λ w. InProgress conv (whole_input ch w) next.frames next.states) (sym (again rest)) (carried_more rest ok);
        read = consumes_more from from' from'' so.input fresh so.read t.read;
        end = t.end;
        wrote = appends_more held held' held'' so.text (piece_lines conv f m.states piece) so.wrote t.wrote;
      }

-- the same by an equal converter, a frame having so many bytes
pub goes_on : (conv own : Converter) (size : ℕ) → decide (held_places conv) ≡ accepted → own ≡ conv → size ≡ frame_length conv.channels → {m next : Moment}
    (from from' from'' held held' held'' : Option (List ℕ)) → Come conv m from from' held held' → Turned own size m next from' from'' held' held'' → Come conv next from from'' held held''
goes_on conv own size opens e s {m} {next} from from' from'' held held' held'' so t =
    come_more conv opens from from' from'' held held' held'' so
    (subst (λ n. Turned conv n m next from' from'' held' held'') s (subst (λ c. Turned c size m next from' from'' held' held'') e t))

-- the text that was passed on, with the end of what was counted, is that of the bytes that have come
module _ (conv : Converter) (opens : decide (held_places conv) ≡ accepted) {m : Moment} (from from' held held' : Option (List ℕ)) (so : Come conv m from from' held held') where
  module _ (few : m.left < frame_length conv.channels) where
    frames_are : m.frames ≡ frame_count conv.channels so.input
    unfolding frame_count
    frames_are =
        sym (ap (λ n. n / frame_length conv.channels) so.long
        ∙ mul-add-div_right (omega (arith, some_channel conv opens)) m.frames m.left
        ∙ ap (λ n. m.frames + n) (div-eq_of_lt few)
        ∙ add-zero m.frames)

    left_is : m.left ≡ left_over conv so.input
    unfolding left_over
    left_is = sym (ap (λ n. n % frame_length conv.channels) so.long ∙ mul-add-mod_self_right m.frames (frame_length conv.channels) m.left ∙ mod-eq_of_lt few)

    clips_are : m.clipped ≡ all_clips conv so.input
    unfolding all_clips
    clips_are =
        subst (λ w. m.clipped ≡ total (frame_clips conv (whole_input conv.channels w)) 0 m.frames) (append-nil so.input) (so.counted [] (λ _. refl))
        ∙ ap (total (frame_clips conv (whole_input conv.channels so.input)) 0) frames_are

    text_is : so.text ≡ joined (tabulate (lines_of conv so.input) 0 (frame_count conv.channels so.input))
    text_is =
        subst (λ w. so.text ≡ joined (tabulate (lines_of conv w) 0 m.frames)) (append-nil so.input) (so.lines [] (λ _. refl))
        ∙ ap (λ n. joined (tabulate (lines_of conv so.input) 0 n)) frames_are

    whole : so.text ++ ending m.left m.frames m.clipped ≡ text_by conv so.input (lines_of conv so.input)
    unfolding text_by
    whole i = text_is i ++ ending (left_is i) (frames_are i) (clips_are i)

  pub all_told : (m.left ≡ frame_length conv.channels → m.frames ≡ 100000000000000) → StreamTold conv m.frames m.clipped m.left from from' held held'
  all_told many = record {
    input = so.input;
    text = so.text;
    few = so.came;
    many = many;
    long = so.long;
    read = so.read;
    end = so.end;
    wrote = so.wrote;
    whole = whole;
  }
