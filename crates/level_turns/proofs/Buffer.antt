-- The buffer of three frames over a turn.
use Rattle.std.proofs.Common.{◌≡◌, refl, sym, ap, ap₂, subst, ◌∙◌, List, ◌++◌, Bool, ℕ, ◌+◌, ◌-◌, ◌*◌, ◌≤◌, ◌<◌, arith, eqb, ltb, length, take, drop}
use Rattle.std.proofs.Common.{length-append, length-drop, length-take-le, take-take, take-add, take_at, drop_at, drop-drop, Option}
use borrow.Rule.Slice.PartMut.{put_mid, mid_of, mid_len, same_len_mid}
use lib.Seq.{take-append-le, drop-append-le}
use Rattle.std.specs.Io.KnownBytes.{Consumes, Appends, IsAtEnd}
use Rattle.std.proofs.lemmas.Slice.{take-put_mid}
use Rattle.reference.specs.Frames.{Run, run}
use Rattle.reference.specs.declared.Converter.{Converter}
use Rattle.text.specs.Lists.{part}
use Rattle.overs.specs.Overs.{Progress}
use Rattle.levels.specs.Levels.{piece_lines}
use Rattle.level_frames.specs.inner.Told.{OneLong}
use Rattle.level_input.specs.inner.Moved.{moved_on}
use Rattle.level_turns.specs.inner.Turns.{at_hand, FrameCounted, moment, told_frame, Turned}

-- ---- parts of the buffer

module _ (size : ℕ) where
  front : (l : List ℕ) → part 0 size l ≡ take size (take (2 * size) l)
  front l =
      let once : size - 0 ≡ size = omega arith in
      ap (λ n. take n l) once ∙ sym (take-take size (2 * size) l (omega arith))

  middle : (l : List ℕ) → 2 * size ≤ length l → part size (2 * size) l ≡ drop size (take (2 * size) l)
  middle l h =
      let twice : 2 * size ≡ size + size = omega arith in
      let once : 2 * size - size ≡ size = omega arith in
      ap (λ k. take k (drop size l)) once
      ∙ sym (ap (λ k. drop size (take k l)) twice ∙ ap (drop size) (take-add size size l) ∙ drop_at (take size l) (take size (drop size l)) size (length-take-le size l (omega arith)))

  module _ (l : List ℕ) (long : length l ≡ 3 * size) where
    front_long : length (part 0 size l) ≡ size
    front_long = length-take-le (size - 0) l (omega (arith, long)) ∙ omega arith

    middle_long : length (part size (2 * size) l) ≡ size
    middle_long = length-take-le (2 * size - size) (drop size l) (omega (arith, long, length-drop size l)) ∙ omega arith

    last_long : length (part (2 * size) (length l) l) ≡ size
    last_long = length-take-le (length l - 2 * size) (drop (2 * size) l) (omega (arith, long, length-drop (2 * size) l)) ∙ omega (arith, long)

    -- moved on
    moved_long : length (moved_on size l) ≡ 3 * size
    unfolding moved_on
    moved_long = length-append (drop size l) (drop (2 * size) l) ∙ omega (arith, long, length-drop size l, length-drop (2 * size) l)

    moved_front : part 0 size (moved_on size l) ≡ part size (2 * size) l
    unfolding moved_on
    moved_front =
        let once : size - 0 ≡ 2 * size - size = omega arith in
        ap (λ n. take n (drop size l ++ drop (2 * size) l)) once
        ∙ take-append-le (2 * size - size) (drop size l) (drop (2 * size) l) (omega (arith, long, length-drop size l))

    moved_middle : part size (2 * size) (moved_on size l) ≡ part (2 * size) (length l) l
    unfolding moved_on
    moved_middle =
        let once : 2 * size - size ≡ length l - 2 * size = omega (arith, long) in
        let twice : size + size ≡ 2 * size = omega arith in
        ap (take (2 * size - size)) (drop-append-le size (drop size l) (drop (2 * size) l) (omega (arith, long, length-drop size l)) ∙ ap (λ z. z ++ drop (2 * size) l) (drop-drop size size l))
        ∙ take-append-le (2 * size - size) (drop (size + size) l) (drop (2 * size) l) (omega (arith, long, length-drop (size + size) l))
        ∙ ap₂ (λ n k. take n (drop k l)) once twice

  -- a read of the frame after leaves the two before it
  module _ (l filled : List ℕ) (long : length l ≡ 3 * size) (room : length filled ≡ 3 * size) (same : take (2 * size) filled ≡ take (2 * size) l) where
    front_same : part 0 size filled ≡ part 0 size l
    front_same = front filled ∙ ap (take size) same ∙ sym (front l)

    middle_same : part size (2 * size) filled ≡ part size (2 * size) l
    middle_same = middle filled (omega (arith, room)) ∙ ap (drop size) same ∙ sym (middle l (omega (arith, long)))

-- the first frame, read to its place in the middle
module _ (size left : ℕ) (xs ys : List ℕ) (room : 3 * size ≤ length xs) (long : length ys ≡ length (mid_of size (2 * size - size) xs)) where
  abbrev all : List ℕ
  all = put_mid size (2 * size - size) xs ys

  one : length ys ≡ size
  one = long ∙ mid_len size (2 * size) xs (omega (arith, room)) ∙ omega arith

  first_is : part size (2 * size) (take (3 * size) all) ≡ ys
  first_is =
      let same : length all ≡ length xs = same_len_mid size (2 * size - size) xs ys long in
      let three : length (take (3 * size) all) ≡ 3 * size = length-take-le (3 * size) all (omega (arith, room, same)) in
      middle size (take (3 * size) all) (omega (arith, three))
      ∙ ap (drop size) (take-take (2 * size) (3 * size) all (omega arith) ∙ take-put_mid size (2 * size - size) xs ys (2 * size) (omega (arith, one)) (omega (arith, room)))
      ∙ drop_at (take size xs) ys size (length-take-le size xs (omega (arith, room)))

  pub first_read : (rem rem' : Option (List ℕ)) → Consumes rem rem' (take left ys) → Consumes rem rem' (take left (part size (2 * size) (take (3 * size) all)))
  first_read rem rem' r = subst (λ z. Consumes rem rem' (take left z)) (sym first_is) r

  pub first_end : (rem' : Option (List ℕ)) → (left < length ys → IsAtEnd rem') → left < size → IsAtEnd rem'
  first_end rem' end l = end (omega (arith, l, one))

-- ---- a turn: the frame after is read, and the frame at hand told

hand_long : (size number : ℕ) (there : Bool) (l : List ℕ) → length l ≡ 3 * size → OneLong size (at_hand number there size l)
unfolding at_hand
hand_long size number there l long = (front_long size l long, middle_long size l long, last_long size l long)

pub one_long : {r : Run} (size n number : ℕ) (there : Bool) (l : List ℕ) → size ≡ n → r ≡ at_hand number there size l → length l ≡ 3 * size → OneLong n r
one_long {r} size n number there l same e long = subst (λ k. OneLong k r) same (subst (OneLong size) (sym e) (hand_long size number there l long))

-- the frame after is read behind the two before it, what has come of it being `fresh`, and the frames are moved on
module _ (size : ℕ) (three next fresh tail filled : List ℕ)
    (so : filled ≡ take (2 * size) three ++ (fresh ++ tail)) (one : length fresh ≡ size) (e : next ≡ moved_on size filled)
    (long : length three ≡ 3 * size) (room : length filled ≡ 3 * size) where
  front_kept : take (2 * size) filled ≡ take (2 * size) three
  front_kept =
      ap (take (2 * size)) so ∙ take_at (take (2 * size) three) (fresh ++ tail) (2 * size) (length-take-le (2 * size) three (omega (arith, long)))

  told_is : (frames left came clipped clipped' : ℕ) (states states' : List Progress) → at_hand frames (eqb came size) size filled
      ≡ told_frame size (moment frames clipped states left three) (moment (frames + 1) clipped' states' came next)
  unfolding at_hand
  told_is frames left came clipped clipped' states states' =
      let before = front_same size three filled long room front_kept in
      let at = middle_same size three filled long room front_kept in
      let after : part (2 * size) (length filled) filled ≡ part size (2 * size) next =
      sym (moved_middle size filled room) ∙ ap (part size (2 * size)) (sym e) in
      λ i. run (ltb 0 frames) (before i) (at i) (eqb came size) (after i)

  -- where what has come lies once the buffer has moved on
  fresh_is : part size (2 * size) next ≡ fresh
  fresh_is =
      let front : length (take (2 * size) three) ≡ 2 * size = length-take-le (2 * size) three (omega (arith, long)) in
      let after : drop (2 * size) filled ≡ fresh ++ tail = ap (drop (2 * size)) so ∙ drop_at (take (2 * size) three) (fresh ++ tail) (2 * size) front in
      ap (part size (2 * size)) e
      ∙ moved_middle size filled room
      ∙ ap (take (length filled - 2 * size)) after
      ∙ take_at fresh tail (length filled - 2 * size) (omega (arith, room, one))

  pub turned : {conv : Converter} {r : Run} {frames left came clipped clipped' : ℕ} {states states' : List Progress} (rem rem' held held' : Option (List ℕ))
      → FrameCounted conv frames r clipped states clipped' states' → Appends held held' (piece_lines conv frames states r)
      → r ≡ at_hand frames (eqb came size) size filled → left ≡ size → came ≤ size → Consumes rem rem' (take came fresh) → (came < size → IsAtEnd rem')
      → Turned conv size (moment frames clipped states left three) (moment (frames + 1) clipped' states' came next) rem rem' held held'
  turned {conv} {r} {frames} {left} {came} {clipped} {clipped'} {states} {states'} rem rem' held held' t wrote is whole few read end =
      let own = is ∙ told_is frames left came clipped clipped' states states' in record {
        whole = whole;
        came = few;
        room = ap length e ∙ moved_long size filled room;
        kept = ap (part 0 size) e ∙ moved_front size filled room ∙ middle_same size three filled long room front_kept;
        frames = refl;
        told = subst (λ p. FrameCounted conv frames p clipped states clipped' states') own t;
        read = subst (λ z. Consumes rem rem' (take came z)) (sym fresh_is) read;
        end = end;
        wrote = subst (λ p. Appends held held' (piece_lines conv frames states p)) own wrote;
      }
