-- Call by call, what is told is the level report's.
use Rattle.std.proofs.Common.{◌≡◌, refl, sym, ap, subst, ◌∙◌, List, [], ◌∷◌, ◌++◌, map, ℕ, zero, suc, ◌+◌, ◌-◌, ◌*◌, ◌%◌, ◌≤◌, ◌<◌, add-zero, zero-add, arith}
use Rattle.std.proofs.Common.{length, sum, fold}
use native.Mathlib.Nat.{mul-mod_left}
use Rattle.numbers.specs.Lists.{tabulate, total}
use Rattle.numbers.proofs.Lists.{tabulate_join, total_join}
use Rattle.text.specs.Text.{joined}
use Rattle.reference.specs.Frames.{Run, frame_length, frame_count}
use Rattle.reference.specs.Output.{frame_clips}
use Rattle.reference.specs.Refusals.{decide, accepted}
use Rattle.reference.specs.Settings.{converter_of}
use Rattle.reference.specs.declared.Settings.{Settings}
use Rattle.reference.specs.declared.Converter.{Converter}
use Rattle.overs.specs.Overs.{Progress}
use Rattle.level_lines.specs.Lines.{last_line}
use Rattle.levels.specs.Levels.{FrameOf, InProgress, whole_input}
use Rattle.levels.proofs.Whole.{clips_same}
use Rattle.level_frames.specs.Report.{ending, left_over, all_clips, lines_of, text_by}
use Rattle.c_levels.proofs.Parts.{in_order, one_early}
use Rattle.c_levels.proofs.Carried.{begins}
use Rattle.tracks.specs.Tracks.{Head, heads, tracks_channels, tracks_frames, tracks_frame, tracks_run, tracks_converter, open_places}
use Rattle.tracks.specs.Windows.{HeadsOf}
use Rattle.tracks.proofs.Opened as Opened
use Rattle.tracks.proofs.Opened.{is_opened, six_channels}
use Rattle.tracks.proofs.Sequences.{from_length}
use Rattle.tracks.proofs.TracksToFiles.{tracks_frame_length}
use Rattle.tracks_to_files.specs.Heads.{tracks_of, HeadsAgree}
use Rattle.tracks_to_files.proofs.Heads.{heads_tell}
use Rattle.levels_of_tracks.specs.Levels.{album_frames, GatheredRun, Before, FrameTold, lines, clips_told, FramesTold, LevelsOfTracks}
use Rattle.levels_of_tracks.proofs.Frames.{count_is, gathered_frame}

-- ---- calls in order
first_of : {A : Type 0} (f : ℕ → A) (a n : ℕ) → tabulate f a (1 + n) ≡ f a ∷ tabulate f (a + 1) n
unfolding tabulate
first_of f a n = tabulate_join f a 1 n ∙ ap (λ (k : ℕ). f k ∷ tabulate f (a + 1) n) (add-zero a)

first_and_more : (f : ℕ → ℕ) (a n : ℕ) → total f a (1 + n) ≡ f a + total f (a + 1) n
unfolding total
first_and_more f a n = total_join f a 1 n ∙ ap (λ (k : ℕ). k + total f (a + 1) n) (zero-add (f (a + 0)) ∙ ap f (add-zero a))

sum_from : (n : ℕ) (l : List ℕ) → fold (λ a x. a + x) n l ≡ n + sum l
sum_from n [] = sym (add-zero n)
sum_from n (x ∷ l) =
    let e : n + x + sum l ≡ n + (0 + x + sum l) = omega arith in
    sum_from (n + x) l ∙ e ∙ ap (λ (k : ℕ). n + k) (sym (sum_from (0 + x) l))

sum_first : (x : ℕ) (l : List ℕ) → sum (x ∷ l) ≡ x + sum l
sum_first x l = sum_from (0 + x) l ∙ ap (λ (k : ℕ). k + sum l) (zero-add x)

module _ {files : List (List ℕ)} {hs : List Head} {s : Settings} where
  ends : (a b : ℕ) (cs : List (FrameTold files hs s)) → FramesTold a b cs → a + length cs ≡ b
  ends a b [] e = omega (arith, e)
  ends a b (c ∷ cs) e = omega (arith, ends (a + 1) b cs e.1)

  some_left : (a b : ℕ) (cs : List (FrameTold files hs s)) → FramesTold (a + 1) b cs → b - a ≡ 1 + (b - (a + 1))
  some_left a b cs e = omega (arith, ends (a + 1) b cs e)

  in_turn : {A : Type 0} (told : FrameTold files hs s → A) (f : ℕ → A) → ((c : FrameTold files hs s) → told c ≡ f c.f) → (a b : ℕ) (cs : List (FrameTold files hs s))
      → FramesTold a b cs → map told cs ≡ tabulate f a (b - a)
  unfolding tabulate
  in_turn told f h a b [] e = let none : b - a ≡ 0 = omega (arith, e) in rw none refl
  in_turn told f h a b (c ∷ cs) e =
      ap (λ (x : _). x ∷ map told cs) (h c ∙ ap f e.0)
      ∙ ap (λ (l : List _). f a ∷ l) (in_turn told f h (a + 1) b cs e.1)
      ∙ sym (ap (tabulate f a) (some_left a b cs e.1) ∙ first_of f a (b - (a + 1)))

  summed : (told : FrameTold files hs s → ℕ) (f : ℕ → ℕ) → ((c : FrameTold files hs s) → told c ≡ f c.f) → (a b : ℕ) (cs : List (FrameTold files hs s))
      → FramesTold a b cs → sum (map told cs) ≡ total f a (b - a)
  unfolding total
  summed told f h a b [] e = let none : b - a ≡ 0 = omega (arith, e) in rw none refl
  summed told f h a b (c ∷ cs) e =
      sum_first (told c) (map told cs)
      ∙ ap (λ (x : ℕ). x + sum (map told cs)) (h c ∙ ap f e.0)
      ∙ ap (λ (x : ℕ). f a + x) (summed told f h (a + 1) b cs e.1)
      ∙ sym (ap (total f a) (some_left a b cs e.1) ∙ first_and_more f a (b - (a + 1)))

-- ---- what they tell
module _ (files : List (List ℕ)) (hs : List Head) (s : Settings) (g : HeadsOf files hs) (taken : decide (open_places hs s) ≡ accepted) where
  abbrev conv : Converter
  conv = tracks_converter s hs

  abbrev input : List ℕ
  input = album_frames files

  abbrev whole : Run
  whole = whole_input conv.channels input

  told : HeadsAgree files hs s
  told = heads_tell files hs s g

  few : conv.channels ≤ 6
  unfolding converter_of
  few = six_channels hs s (is_opened hs s taken)

  some : 0 < tracks_channels (heads (tracks_of files))
  some = subst (λ (m : ℕ). 0 < m) told.channels (Opened.some hs s (is_opened hs s taken))

  here : (f : ℕ) (piece : Run) → GatheredRun files hs s f piece → FrameOf conv.channels input f piece
  unfolding converter_of
  here f piece c = gathered_frame files hs s f piece g c

  -- the album's frames are whole, and as many as are told
  all_frames : frame_count conv.channels input ≡ tracks_frames hs
  unfolding converter_of tracks_run
  all_frames =
      let ts = tracks_of files in
      let n = tracks_channels (heads ts) in
      subst (λ (m : ℕ). frame_count m input ≡ tracks_frames hs) (sym told.channels) (count_is n some (tracks_frame n ts) (tracks_frame_length n ts) 0 (tracks_frames (heads ts)) ∙ sym told.frames)

  none_left : left_over conv input ≡ 0
  unfolding left_over converter_of tracks_run
  none_left =
      let ts = tracks_of files in
      let n = tracks_channels (heads ts) in
      let long : length input ≡ tracks_frames (heads ts) * frame_length n = from_length (frame_length n) (tracks_frame n ts) (tracks_frame_length n ts) 0 (tracks_frames (heads ts)) in
      subst (λ (m : ℕ). length input % frame_length m ≡ 0) (sym told.channels) (ap (λ (l : ℕ). l % frame_length n) long ∙ mul-mod_left (tracks_frames (heads ts)) (frame_length n))

  before_is : (f : ℕ) (states : List Progress) → Before files hs s f states → InProgress conv whole f states
  before_is zero states e = subst (InProgress conv whole 0) (sym e) (begins conv input few)
  before_is (suc f) states l = subst (InProgress conv whole (suc f)) (sym l.after) (one_early conv input f l.piece few (here f l.piece l.gathered) l.before)

  lines_are : (c : FrameTold files hs s) → lines c ≡ lines_of conv input c.f
  unfolding lines_of
  lines_are c = (in_order conv input c.f c.piece few (here c.f c.piece c.gathered) c.states (before_is c.f c.states c.before)).0

  clips_are : (c : FrameTold files hs s) → clips_told c ≡ frame_clips conv whole c.f
  clips_are c = clips_same conv input c.f c.piece (here c.f c.piece c.gathered)

  -- the report of so many frames, and bytes left over
  abbrev report : ℕ → ℕ → List ℕ
  report frames left = joined (tabulate (lines_of conv input) 0 frames) ++ ending left frames (total (frame_clips conv whole) 0 frames)

  report_is : (cs : List (FrameTold files hs s)) → FramesTold 0 (tracks_frames hs) cs
      → joined (map lines cs) ++ last_line (tracks_frames hs) (sum (map clips_told cs)) ≡ text_by conv input (lines_of conv input)
  unfolding text_by ending all_clips
  report_is cs e =
      let n = tracks_frames hs in
      let same : n - 0 ≡ n = omega arith in
      let l = in_turn lines (lines_of conv input) lines_are 0 n cs e ∙ ap (tabulate (lines_of conv input) 0) same in
      let k = summed clips_told (frame_clips conv whole) clips_are 0 n cs e ∙ ap (total (frame_clips conv whole) 0) same in
      ap (λ (t : List (List ℕ)). joined t ++ last_line n (sum (map clips_told cs))) l
      ∙ ap (λ (x : ℕ). joined (tabulate (lines_of conv input) 0 n) ++ last_line n x) k
      ∙ sym (ap (λ (m : ℕ). report m (left_over conv input)) all_frames ∙ ap (report n) none_left)

pub levels_of_tracks : LevelsOfTracks
levels_of_tracks = report_is
