-- A frame out of what a call left is the album's.
use Rattle.std.proofs.Common.{◌≡◌, sym, ap, subst, ◌∙◌, ⊎_elim, List, ℕ, suc, ◌+◌, ◌-◌, ◌≤◌, ◌<◌, zero-add, mul-div_cancel, arith, ltb, leb, length, lt-ltb}
use Rattle.std.proofs.Common.{le-ltb, leb-true, min}
use borrow.Author.Tests.{not-false}
use Rattle.numbers.proofs.Lists.{below_or}
use Rattle.reference.specs.Frames.{Run, frame_length, frame_count, frame}
use Rattle.reference.specs.Refusals.{decide, accepted}
use Rattle.reference.proofs.Refusals.{decide_first, decide_skip, pass}
use Rattle.levels.specs.Levels.{FrameOf}
use Rattle.tracks.specs.Runs.{frames_from}
use Rattle.tracks.specs.Tracks.{heads, tracks_channels, tracks_frames, tracks_frame, tracks_run, open_places}
use Rattle.tracks.proofs.Sequences.{from_same, from_length, from_at}
use Rattle.tracks.proofs.TracksToFiles.{tracks_frame_length}
use Rattle.tracks_step.specs.Promises.{piece_places, frames_places}
use Rattle.tracks_to_files.specs.Heads.{tracks_of}
use Rattle.tracks_to_files.specs.Frames.{files_frames}
use Rattle.tracks_to_files.proofs.Heads.{heads_tell}
use Rattle.tracks_to_files.proofs.Frames.{frames_of_files}
use Rattle.levels_of_tracks.specs.Levels.{album_frames, GatheredFrame}

same_test : (a b c d : ℕ) → (c < d → a < b) → (d ≤ c → b ≤ a) → ltb a b ≡ ltb c d
same_test a b c d f g = ⊎_elim (λ h. lt-ltb a b (f h) ∙ sym (lt-ltb c d h)) (λ h. le-ltb a b (g h) ∙ sym (le-ltb c d h)) (below_or c d)

-- ---- frames end to end
module _ (n : ℕ) (some : 0 < n) (F : ℕ → List ℕ) (long : (k : ℕ) → length (F k) ≡ frame_length n) where
  pub count_is : (a m : ℕ) → frame_count n (frames_from F a m) ≡ m
  unfolding frame_count
  count_is a m =
      let s : 1 ≤ frame_length n = omega (arith, some) in
      rw (from_length (frame_length n) F long a m) (mul-div_cancel m s)

  frame_is : (a m k : ℕ) → k < m → frame n (frames_from F a m) k ≡ F (a + k)
  unfolding frame
  frame_is a m k h =
      let shift : frames_from F a m ≡ frames_from (λ j. F (a + j)) 0 m = from_same F (λ j. F (a + j)) a 0 m (λ j l. ap (λ (i : ℕ). F (a + i)) (sym (zero-add j))) in
      rw shift (from_at (frame_length n) (λ j. F (a + j)) (λ j. long (a + j)) m k h)

  -- the same frame, in a stretch from a on and in all of them
  same_frame : (a m b k j : ℕ) → k < m → j < b → a + k ≡ j → frame n (frames_from F a m) k ≡ frame n (frames_from F 0 b) j
  same_frame a m b k j h l e = frame_is a m k h ∙ ap F (e ∙ sym (zero-add j)) ∙ sym (frame_is 0 b j l)

  pub of_all : (f all first count : ℕ) (piece : Run) → first ≤ f → f < first + count → first + count ≤ all
      → FrameOf n (frames_from F (first - 1) (min (first + count + 1) all - (first - 1))) (f - (first - 1)) piece → FrameOf n (frames_from F 0 all) f piece
  of_all f all first count piece from to fits p =
      let a = first - 1 in
      let m = min (first + count + 1) all - (first - 1) in
      let k = f - (first - 1) in
      record {
        some_channel = p.some_channel;
        inside = rw (count_is 0 all) (omega arith);
        frames = p.frames ∙ same_frame a m all k f (omega arith) (omega arith) (omega arith);
        has_before = p.has_before ∙ same_test 0 k 0 f (λ h. omega arith) (λ h. omega arith);
        before = λ h. p.before (omega arith) ∙ same_frame a m all (k - 1) (f - 1) (omega arith) (omega arith) (omega arith);
        has_after = p.has_after ∙ rw (count_is a m, count_is 0 all) (same_test (suc k) m (suc f) all (λ h. omega arith) (λ h. omega arith));
        after = λ h.
            let l : suc f < all = rw (count_is 0 all) at h in
            p.after (rw (count_is a m) (omega arith)) ∙ same_frame a m all (suc k) (suc f) (omega arith) l (omega arith);
      }

pub gathered_frame : GatheredFrame
unfolding frames_places piece_places tracks_run
gathered_frame files hs s f piece g c =
    let ts = tracks_of files in
    let n = tracks_channels (heads ts) in
    let told = heads_tell files hs s g in
    let ok : decide (frames_places hs s c.first c.count (length c.windows) (length c.scratch)) ≡ accepted = sym c.promise.decided ∙ c.taken in
    let opens : decide (open_places hs s) ≡ accepted = decide_first (open_places hs s) _ ok in
    let past = sym (decide_skip (open_places hs s) _ opens) ∙ ok in
    let within : c.first + c.count ≤ tracks_frames hs = leb-true (c.first + c.count) (tracks_frames hs) (not-false (leb (c.first + c.count) (tracks_frames hs)) (pass _ _ past).0) in
    let fits : c.first + c.count ≤ tracks_frames (heads ts) = rw told.frames at within in
    let left : c.scratch' ≡ files_frames files c.first c.count = frames_of_files files hs s c.first c.count c.windows c.scratch c.scratch' c.answer g c.of_windows c.promise c.taken in
    let of_files : FrameOf n (files_frames files c.first c.count) (f - (c.first - 1)) piece =
    subst (λ (m : ℕ). FrameOf m (files_frames files c.first c.count) (f - (c.first - 1)) piece) told.channels
    (subst (λ (l : List ℕ). FrameOf (tracks_channels hs) l (f - (c.first - 1)) piece) left c.cut) in
    subst (λ (m : ℕ). FrameOf m (album_frames files) f piece) (sym told.channels)
    (of_all n of_files.some_channel (tracks_frame n ts) (tracks_frame_length n ts) f (tracks_frames (heads ts)) c.first c.count piece c.from c.to fits of_files)
