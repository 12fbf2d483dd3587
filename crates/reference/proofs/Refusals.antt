-- What it takes to pass the table's places, and what a refusal says.
use Rattle.std.proofs.Common.{◌≡◌, refl, ap, sym, ◌∙◌, List, [], ◌∷◌, ◌++◌, Bool, true, false, cond, not, ◌&&◌, ℕ, ◌*◌, ◌/◌, ◌%◌, ◌<◌, ◌≤◌, div-add-mod', arith}
use Rattle.std.proofs.Common.{le-leb, ltb-false, lt-ltb, le-ltb, leb-true, eqb-true, eqb, leb, lit≤, length}
use borrow.Author.Tests.{lt-leb, not-false}
use lib.ListN.{length-replicate}
use Rattle.reference.specs.Frames.{Run, idle, frame_length, frame_count, neighbour, before_frame}
use Rattle.reference.specs.Scaling.{right_gain}
use Rattle.reference.specs.Output.{samples_per_frame}
use Rattle.reference.specs.Settings.{filter_of, held_settings, reach_of, true_numbers}
use Rattle.reference.specs.Refusals.{Datum, accepted, refused, error_decision, is_accepted, Place, decide, unsupported, filter_places}
use Rattle.reference.specs.Refusals.{opening_places, held_places, run_length, most, too_many, one_long, if_present, input_places}
use Rattle.reference.specs.declared.Converter.{Converter}
use Rattle.reference.specs.declared.Limit.{Limit}
use Rattle.reference.specs.declared.Limit.TheVariants as limit
use Rattle.reference.specs.declared.PcmError.{PcmError}
use Rattle.reference.specs.declared.PcmError.TheVariants as error

-- ---- trying places in turn

pub at_first : (p : Place) (ps : List Place) → p.holds ≡ true → decide (p ∷ ps) ≡ refused p.refusal p.carried
unfolding decide
at_first p ps e = rw e

pub at_next : (p : Place) (ps : List Place) → p.holds ≡ false → decide (p ∷ ps) ≡ decide ps
unfolding decide
at_next p ps e = rw e

pub at_end : decide [] ≡ accepted
unfolding decide
at_end = refl

-- ---- lists of places one after the other

refused≢accepted : {A : Type 0} (n : ℕ) (d : List Datum) → refused n d ≡ accepted → A
refused≢accepted n d e = let z : ◌≡◌ {A = ℕ} 0 1 = cc in absurd (omega arith)

pub pass : (p : Place) (ps : List Place) → decide (p ∷ ps) ≡ accepted → (p.holds ≡ false) × (decide ps ≡ accepted)
unfolding decide
pass p ps e = go p.holds e
  where
    go : (b : Bool) → cond b (refused p.refusal p.carried) (decide ps) ≡ accepted → (b ≡ false) × (decide ps ≡ accepted)
    go true e = refused≢accepted _ _ e
    go false e = (refl, e)

pub decide_first : (ps qs : List Place) → decide (ps ++ qs) ≡ accepted → decide ps ≡ accepted
unfolding decide
decide_first [] qs e = refl
decide_first (p ∷ ps) qs e =
    let h = pass p (ps ++ qs) e in
    rw h.0 (decide_first ps qs h.1)

pub decide_skip : (ps qs : List Place) → decide ps ≡ accepted → decide (ps ++ qs) ≡ decide qs
unfolding decide
decide_skip [] qs e = refl
decide_skip (p ∷ ps) qs e =
    let h = pass p ps e in
    rw h.0 (decide_skip ps qs h.1)

-- a refusal stands, whatever places follow
pub decide_stop : (ps qs : List Place) → is_accepted (decide ps) ≡ false → decide (ps ++ qs) ≡ decide ps
unfolding decide is_accepted
decide_stop [] qs e = let z : ◌≡◌ {A = ℕ} 0 1 = cc in absurd (omega arith)
decide_stop (p ∷ ps) qs e = go p.holds e (decide_stop ps qs)
  where
    go : (b : Bool) → is_accepted (cond b (refused p.refusal p.carried) (decide ps)) ≡ false → (is_accepted (decide ps) ≡ false → decide (ps ++ qs) ≡ decide ps)
        → cond b (refused p.refusal p.carried) (decide (ps ++ qs)) ≡ cond b (refused p.refusal p.carried) (decide ps)
    go true f h = refl
    go false f h = h f

pub error_refuses : (e : PcmError) → is_accepted (error_decision e) ≡ false
unfolding is_accepted
error_refuses (error.Channels n) = refl
error_refuses (error.Unsupported r c) = refl
error_refuses (error.Gain d) = refl
error_refuses (error.InputLength n k) = refl
error_refuses (error.Frames n) = refl
error_refuses (error.OutputLength n k) = refl
error_refuses (error.OutputBytes n k) = refl
error_refuses (error.FrameCounts n k) = refl
error_refuses error.NotDsf = refl
error_refuses error.DsfFormat = refl
error_refuses error.DsfLength = refl
error_refuses error.NotWav = refl
error_refuses error.Schedule = refl
error_refuses (error.Before n) = refl
error_refuses (error.After n) = refl
error_refuses error.Desk = refl
error_refuses error.Taps = refl
error_refuses error.TapSums = refl
error_refuses error.Sheet = refl
error_refuses error.Stored = refl

-- ---- a number from 1 to k: none, more, or so many

module _ (k n : ℕ) where
  pub below_range : n < 1 → not (leb 1 n && leb n k) ≡ true
  below_range l = rw (lt-leb 1 n l)

  pub above_range : 1 ≤ n → k < n → not (leb 1 n && leb n k) ≡ true
  above_range l m = rw (le-leb 1 n l, lt-leb n k m)

  pub in_range : 1 ≤ n → n ≤ k → not (leb 1 n && leb n k) ≡ false
  in_range l m = rw (le-leb 1 n l, le-leb n k m)

-- ---- what an accepted converter and an accepted run have

pub and_left : (a b : Bool) → a && b ≡ true → a ≡ true
and_left true b e = refl
and_left false b e = e

pub and_right : (a b : Bool) → a && b ≡ true → b ≡ true
and_right true b e = e
and_right false b e = let z : ◌≡◌ {A = ℕ} 0 1 = cc in absurd (omega arith)

module _ (conv : Converter) (opens : decide (held_places conv) ≡ accepted) where
  settings_open : decide (opening_places (held_settings conv)) ≡ accepted
  unfolding held_places
  settings_open = decide_first (opening_places (held_settings conv)) _ opens

  pub some_channel : 0 < conv.channels
  unfolding opening_places
  some_channel = leb-true 1 conv.channels (and_left (leb 1 conv.channels) (leb conv.channels 6) (not-false _ (pass _ _ settings_open).0))

  pub few_channels : conv.channels ≤ 6
  unfolding opening_places
  few_channels = leb-true conv.channels 6 (and_right (leb 1 conv.channels) (leb conv.channels 6) (not-false _ (pass _ _ settings_open).0))

  pub supported : unsupported conv.rate conv.cutoff ≡ false
  unfolding opening_places
  supported = (pass _ _ (pass _ _ settings_open).1).0

  pub right : right_gain conv.gain ≡ true
  unfolding opening_places
  right = not-false _ (pass _ _ (pass _ _ (pass _ _ settings_open).1).1).0

  pub filtered : decide (filter_places conv.filter) ≡ accepted
  unfolding opening_places filter_of
  filtered = (pass _ _ (pass _ _ (pass _ _ settings_open).1).1).1

  numbers_true : true_numbers conv ≡ true
  unfolding held_places
  numbers_true = not-false _ (pass _ _ (sym (decide_skip (opening_places (held_settings conv)) _ settings_open) ∙ opens)).0

  pub stored_samples : conv.samples_per_frame ≡ samples_per_frame conv.rate
  unfolding true_numbers
  stored_samples = eqb-true _ _ (and_left _ _ numbers_true)

  later_true : eqb conv.reach (reach_of conv) && eqb conv.frame_length (frame_length conv.channels) ≡ true
  unfolding true_numbers
  later_true = and_right (eqb conv.samples_per_frame (samples_per_frame conv.rate)) _ numbers_true

  pub stored_reach : conv.reach ≡ reach_of conv
  stored_reach = eqb-true _ _ (and_left _ _ later_true)

  pub stored_frame : conv.frame_length ≡ frame_length conv.channels
  stored_frame = eqb-true _ _ (and_right (eqb conv.reach (reach_of conv)) _ later_true)

  pub stored_count : (frames : List ℕ) → length frames / conv.frame_length ≡ frame_count conv.channels frames
  unfolding frame_count
  stored_count frames = ap (λ (k : ℕ). length frames / k) stored_frame

neighbour_length : (n : ℕ) (d : List Datum) (ch : ℕ) (there : Bool) (bytes : List ℕ) (ps : List Place) → decide (if_present there (one_long n d ch bytes) ++ ps) ≡ accepted
    → length (neighbour ch there bytes) ≡ frame_length ch
unfolding if_present one_long neighbour
neighbour_length n d ch true bytes ps e = eqb-true _ _ (not-false _ (pass _ _ e).0)
neighbour_length n d ch false bytes ps e = length-replicate (frame_length ch) idle

-- whether there are too many frames, by their number
module _ (n : ℕ) where
  pub over : (whose : Limit) → most whose < n → (too_many whose n).holds ≡ true
  over limit.Rack l = lt-ltb _ _ l
  over limit.Desk l = lt-ltb _ _ l

  pub within : (whose : Limit) → n ≤ most whose → (too_many whose n).holds ≡ false
  within limit.Rack l = le-ltb _ _ l
  within limit.Desk l = le-ltb _ _ l

  not_over : (whose : Limit) → (too_many whose n).holds ≡ false → n ≤ most whose
  not_over limit.Rack e = ltb-false _ _ e
  not_over limit.Desk e = ltb-false _ _ e

pub rack_most : (whose : Limit) → most whose ≤ 540000
rack_most limit.Rack = lit≤ tt
rack_most limit.Desk = lit≤ tt

module _ (whose : Limit) (conv : Converter) (r : Run) (fits : decide (input_places whose conv r) ≡ accepted) where
  pub whole_frames : length r.frames ≡ frame_count conv.channels r.frames * frame_length conv.channels
  unfolding input_places run_length frame_count
  whole_frames =
      let h : length r.frames % frame_length conv.channels ≡ 0 = eqb-true _ _ (not-false _ (pass _ _ fits).0) in
      omega (arith, div-add-mod' (length r.frames) (frame_length conv.channels))

  pub few_frames : frame_count conv.channels r.frames ≤ most whose
  unfolding input_places run_length
  few_frames = not_over _ whose (pass _ _ (pass _ _ fits).1).0

  after_run_length : decide (if_present r.has_before (one_long 13 [] conv.channels r.before) ++ if_present r.has_after (one_long 14 [] conv.channels r.after)) ≡ accepted
  unfolding input_places run_length
  after_run_length = (pass _ _ (pass _ _ fits).1).1

  pub one_before : length (before_frame conv.channels r) ≡ frame_length conv.channels
  one_before = neighbour_length 13 [] conv.channels r.has_before r.before _ after_run_length
