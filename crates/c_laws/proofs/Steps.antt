-- A step that answers 0 was accepted.
use Rattle.std.proofs.Common.{◌≡◌, refl, sym, ◌∙◌, true≢false, List, [], ◌∷◌, ◌++◌, Bool, true, false, cond, not, ◌&&◌, ℕ, ◌+◌, eqb, length}
use mathlib.Core.List.{flat_map}
use Rattle.reference.specs.Output.{stats}
use Rattle.reference.specs.Refusals.{Place, accepted, refused, decide, refusal_number, opening_places, filter_places, lent_length}
use Rattle.reference.specs.declared.Settings.{Settings}
use Rattle.reference.proofs.Promises.{exit_accepted}
use Rattle.reference.proofs.Refusals.{and_left, and_right}
use Rattle.dsf.specs.Dsf.{channel_type, places_at}
use Rattle.dsf.specs.Reading.{header_places}
use Rattle.tracks.specs.Tracks.{Head, head_length, tracks_converter, first_places, next_places, rest_places, tracks_places, open_places}
use Rattle.tracks_step.specs.Promises.{piece_places, frames_places, step_places, piece_run}
use Rattle.c_stats.specs.Stats.{stat_numbers}
use Rattle.c_tracks.specs.Asked.{asked_settings, asked_heads}
use Rattle.c_laws.specs.Steps.{StepIsStep, FramesAreFrames}

-- no place has the number 0
unfoldable numbered : List Place → Bool
numbered [] = true
numbered (p ∷ ps) = not (eqb p.refusal 0) && numbered ps

not_nought : (n : ℕ) → not (eqb n 0) ≡ true → n ≡ 0 → ⊥
not_nought n e h = true≢false (sym (rw h at e))

is_accepted_at : (ps : List Place) → numbered ps ≡ true → refusal_number (decide ps) ≡ 0 → decide ps ≡ accepted
unfolding decide numbered
is_accepted_at [] e h = refl
is_accepted_at (p ∷ ps) e h = by p.holds (is_accepted_at ps (and_right (not (eqb p.refusal 0)) _ e)) h
  where
    by : (b : Bool) → (refusal_number (decide ps) ≡ 0 → decide ps ≡ accepted) → refusal_number (cond b (refused p.refusal p.carried) (decide ps)) ≡ 0
        → cond b (refused p.refusal p.carried) (decide ps) ≡ accepted
    by true later z = absurd (not_nought p.refusal (and_left (not (eqb p.refusal 0)) _ e) z)
    by false later z = later z

numbered_join : (ps qs : List Place) → numbered ps ≡ true → numbered qs ≡ true → numbered (ps ++ qs) ≡ true
unfolding numbered
numbered_join [] qs e h = h
numbered_join (p ∷ ps) qs e h =
    rw (and_left (not (eqb p.refusal 0)) _ e) (numbered_join ps qs (and_right (not (eqb p.refusal 0)) _ e) h)

first_numbered : (h : Head) (s : Settings) → numbered (first_places h s) ≡ true
unfolding numbered first_places header_places places_at opening_places filter_places
first_numbered h s = refl

next_numbered : (type end : ℕ) (h : Head) → numbered (next_places type end h) ≡ true
unfolding numbered next_places header_places places_at
next_numbered type end h = refl

rest_numbered : (type before : ℕ) (hs : List Head) → numbered (flat_map (λ p. p) (rest_places type before hs)) ≡ true
unfolding numbered flat_map rest_places
rest_numbered type before [] = refl
rest_numbered type before (h ∷ hs) =
    numbered_join (next_places type (before + head_length h) h) _ (next_numbered type (before + head_length h) h) (rest_numbered type (before + head_length h) hs)

open_numbered : (hs : List Head) (s : Settings) → numbered (open_places hs s) ≡ true
unfolding numbered flat_map open_places tracks_places opening_places filter_places
open_numbered [] s = refl
open_numbered (h ∷ hs) s = numbered_join (first_places h s) _ (first_numbered h s) (rest_numbered (channel_type h.bytes) (head_length h) hs)

frames_numbered : (hs : List Head) (s : Settings) (first count windows scratch : ℕ) → numbered (frames_places hs s first count windows scratch) ≡ true
unfolding numbered frames_places piece_places lent_length
frames_numbered hs s first count windows scratch =
    numbered_join (open_places hs s) (piece_places hs first count windows scratch) (open_numbered hs s) refl

all_numbered : (hs : List Head) (s : Settings) (first count windows scratch out : ℕ) → numbered (step_places hs s first count windows scratch out) ≡ true
unfolding numbered step_places lent_length
all_numbered hs s first count windows scratch out =
    numbered_join (frames_places hs s first count windows scratch) _ (frames_numbered hs s first count windows scratch) refl

pub step_is_step : StepIsStep
step_is_step a first count windows l l' old new k call =
    let d = call.done k in
    let told = stats (tracks_converter (asked_settings a) (asked_heads a)) (piece_run (asked_heads a) first count windows) in
    let places = step_places (asked_heads a) (asked_settings a) first count (length windows) (length l.scratch) (length l.out) in
    let taken : decide places ≡ accepted =
    is_accepted_at places (all_numbered (asked_heads a) (asked_settings a) first count (length windows) (length l.scratch) (length l.out)) (sym d.done.told.told.number) in (
      record { decided = sym taken; named = _; counted = refl; gathered = d.gathered; written = d.written },
      d.done.counted ∙ exit_accepted (decide places) (stat_numbers told) old.stats taken,
    )

pub frames_are_frames : FramesAreFrames
frames_are_frames a first count windows scratch scratch' old new decibels decibels' k call =
    let d = call.done k in
    let places = frames_places (asked_heads a) (asked_settings a) first count (length windows) (length scratch) in
    let taken : decide places ≡ accepted =
    is_accepted_at places (frames_numbered (asked_heads a) (asked_settings a) first count (length windows) (length scratch)) (sym d.told.told.number) in
    record { decided = sym taken; named = _; album = refl; gathered = d.gathered }
