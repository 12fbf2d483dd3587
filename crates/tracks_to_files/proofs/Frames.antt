use Rattle.std.proofs.Common.{min, ◌≡◌, refl, sym, ap, subst, ◌∙◌, ⊎_elim, List, ◌++◌, ℕ, ◌+◌, ◌-◌, ◌*◌, ◌≤◌, ◌<◌, arith, ltb, length, lt-ltb, le-ltb}
-- Frames out of windows are the files': a piece and what is next to it are.
use Rattle.numbers.specs.Lists.{Each}
use Rattle.numbers.proofs.Lists.{below_or}
use Rattle.reference.specs.Frames.{Run}
use Rattle.reference.specs.Refusals.{decide, accepted}
use Rattle.reference.proofs.Refusals.{decide_first}
use Rattle.reference.proofs.Promises.{exit_accepted}
use Rattle.dsf.specs.Dsf.{channels}
use Rattle.tracks.specs.Runs.{frames_from, there, run_from}
use Rattle.tracks.specs.Tracks.{Head, heads, tracks_channels, tracks_frames, tracks_frame, open_places}
use Rattle.tracks.specs.Windows.{low, high, windowed, windowed_tracks, HeadsOf, WindowsFrom, WindowsOf}
use Rattle.tracks.proofs.Opened.{is_opened}
use Rattle.tracks.proofs.Sequences.{none_from, from_one, from_join}
use Rattle.tracks.proofs.Windows.{heads_windowed, same_all_length, windowed_piece}
use Rattle.tracks_step.specs.Promises.{frames_places}
use Rattle.tracks_to_files.specs.Heads.{tracks_of}
use Rattle.tracks_to_files.specs.Frames.{WindowedFrames, FramesOfFiles}
use Rattle.tracks_to_files.proofs.Heads.{heads_tell}

-- ---- a run's frames, with those next to it
around : Run → List ℕ
around r = r.before ++ r.frames ++ r.after

module _ (F : ℕ → List ℕ) (f : ℕ) where
  before_is : (first : ℕ) → frames_from F (first - 1) (min first 1) ≡ there (ltb 0 first) (F (first - 1))
  unfolding there
  before_is first = ⊎_elim one none (below_or 0 first)
    where
      one : 0 < first → frames_from F (first - 1) (min first 1) ≡ there (ltb 0 first) (F (first - 1))
      one h =
          let e : min first 1 ≡ 1 = omega arith in
          rw (e, lt-ltb 0 first h) (from_one F (first - 1))

      none : first ≤ 0 → frames_from F (first - 1) (min first 1) ≡ there (ltb 0 first) (F (first - 1))
      none h =
          let e : min first 1 ≡ 0 = omega arith in
          rw (e, le-ltb 0 first h) (none_from F (first - 1))

  after_is : (end : ℕ) → frames_from F end (min (end + 1) f - end) ≡ there (ltb end f) (F end)
  unfolding there
  after_is end = ⊎_elim one none (below_or end f)
    where
      one : end < f → frames_from F end (min (end + 1) f - end) ≡ there (ltb end f) (F end)
      one h =
          let e : min (end + 1) f - end ≡ 1 = omega arith in
          rw (e, lt-ltb end f h) (from_one F end)

      none : f ≤ end → frames_from F end (min (end + 1) f - end) ≡ there (ltb end f) (F end)
      none h =
          let e : min (end + 1) f - end ≡ 0 = omega arith in
          rw (e, le-ltb end f h) (none_from F end)

  around_is : (first count : ℕ) → first + count ≤ f → frames_from F (first - 1) (min (first + count + 1) f - (first - 1)) ≡ around (run_from F f first count)
  unfolding around run_from
  around_is first count h =
      let b = min first 1 in
      let a = min (first + count + 1) f - (first + count) in
      let e : min (first + count + 1) f - (first - 1) ≡ b + count + a = omega arith in
      let m : first - 1 + b ≡ first = omega arith in
      let l : first - 1 + (b + count) ≡ first + count = omega arith in
      rw (e, from_join F (first - 1) (b + count) a, from_join F (first - 1) b count, m, l, before_is first, after_is (first + count)) refl

-- ---- out of windows
module _ (n : ℕ) (fs : List (List ℕ)) (hs : List Head) (first : ℕ) (w : List ℕ) (g : HeadsOf fs hs) (e : Each (λ h. channels h.bytes ≡ n) hs) where
  -- those up to frame `to`
  Alike : ℕ → Type 0
  Alike to =
      frames_from (tracks_frame n (windowed n (low first * 4704) (to * 4704) 0 0 w hs)) (low first) (to - low first)
      ≡ frames_from (tracks_frame n (tracks_of fs)) (low first) (to - low first)

  -- of frames that the album has
  within : (count : ℕ) → first + count ≤ tracks_frames hs → WindowsOf fs hs n first count w → Alike (high hs first count)
  unfolding Alike tracks_frames
  within count h d =
      let ts = windowed_tracks hs n first count w in
      let out : tracks_frames (heads ts) ≡ tracks_frames hs = ap tracks_frames (heads_windowed n (low first * 4704) (high hs first count * 4704) 0 0 w hs) in
      let whole : tracks_frames (heads (tracks_of fs)) ≡ tracks_frames hs = rw (same_all_length fs hs g) refl in
      let piece = ap around (windowed_piece n fs hs first count w g e h d) in
      around_is (tracks_frame n ts) (tracks_frames hs) first count h
      ∙ ap (λ (f : ℕ). around (run_from (tracks_frame n ts) f first count)) (sym out)
      ∙ piece
      ∙ ap (λ (f : ℕ). around (run_from (tracks_frame n (tracks_of fs)) f first count)) whole
      ∙ sym (around_is (tracks_frame n (tracks_of fs)) (tracks_frames hs) first count h)

  any : (count : ℕ) → WindowsOf fs hs n first count w → Alike (high hs first count)
  unfolding Alike
  any count d = ⊎_elim past inside (below_or (tracks_frames hs) first)
    where
      past : tracks_frames hs < first → Alike (high hs first count)
      past h =
          let z : high hs first count - low first ≡ 0 = omega arith in
          rw (z, none_from (tracks_frame n (windowed_tracks hs n first count w)) (low first), none_from (tracks_frame n (tracks_of fs)) (low first)) refl

      inside : first ≤ tracks_frames hs → Alike (high hs first count)
      inside h =
          let c = min count (tracks_frames hs - first) in
          let same : high hs first count ≡ high hs first c = omega arith in
          subst Alike (sym same)
          (within c (omega arith) (subst (λ (to : ℕ). WindowsFrom n (low first * 4704) (to * 4704) 0 0 w fs hs) same d))

pub windowed_frames : WindowedFrames
unfolding Alike
windowed_frames n fs hs first count w g e d = any n fs hs first w g e count d

-- ---- in the list that is lent
pub frames_of_files : FramesOfFiles
unfolding frames_places
frames_of_files files hs s first count w scratch scratch' answer g d p taken =
    let ok : decide (frames_places hs s first count (length w) (length scratch)) ≡ accepted = sym p.decided ∙ taken in
    let opened = is_opened hs s (decide_first (open_places hs s) _ ok) in
    let told = heads_tell files hs s g in
    p.gathered ∙ exit_accepted _ _ _ ok ∙ windowed_frames (tracks_channels hs) files hs first count w g opened.alike d
    ∙ ap (λ (m : ℕ). frames_from (tracks_frame m (tracks_of files)) (low first) (high hs first count - low first)) told.channels
    ∙ ap (λ (f : ℕ). frames_from (tracks_frame (tracks_channels (heads (tracks_of files))) (tracks_of files)) (low first) (min (first + count + 1) f - low first)) told.frames
