-- A step is a call of `convert` that is accepted.
use Rattle.std.proofs.Common.{◌≡◌, refl, sym, ◌∙◌, Bool, true, false, List, [], ◌++◌, ℕ, ◌+◌, ◌-◌, ◌*◌, ◌%◌, ◌≤◌, ◌<◌, mul-div_cancel, arith, ltb, length}
use Rattle.std.proofs.Common.{eq-eqb, le-ltb}
use native.Mathlib.Nat.{mul-mod_left}
use Rattle.reference.specs.Frames.{Run, frame_length, frame_count}
use Rattle.reference.specs.Output.{channel_samples, all_samples}
use Rattle.reference.specs.Refusals.{Place, rack, decide, accepted, held_places, one_long, if_present, run_length, input_places, lent_length, byte_lengths, convert_places}
use Rattle.reference.specs.declared.Converter.{Converter}
use Rattle.reference.proofs.Refusals.{at_next, at_end, decide_skip}
use Rattle.wav_format.specs.Wav.{frame_size}
use Rattle.tracks.specs.Runs.{there, run_from}
use Rattle.tracks.proofs.Sequences.{from_length}

module _ (conv : Converter) (some : 0 < conv.channels) (F : ℕ → List ℕ) (long : (k : ℕ) → length (F k) ≡ frame_length conv.channels) (f first count : ℕ) (few : count ≤ 540000) where
  abbrev r : Run
  r = run_from F f first count

  abbrev size : ℕ
  size = frame_length conv.channels

  some_size : 0 < size
  some_size = omega arith

  bytes_are : length r.frames ≡ count * size
  unfolding run_from
  bytes_are = from_length size F long first count

  pub frames_are : frame_count conv.channels r.frames ≡ count
  unfolding frame_count
  frames_are = rw bytes_are (mul-div_cancel count some_size)

  near : (refusal : ℕ) (b : Bool) (l : List ℕ) (ps : List Place) → length l ≡ size → decide ps ≡ accepted → decide (if_present b (one_long refusal [] conv.channels (there b l)) ++ ps) ≡ accepted
  unfolding if_present one_long there
  near refusal true l ps e h = at_next _ ps (rw (eq-eqb (length l) size e) refl) ∙ h
  near refusal false l ps e h = h

  near_last : (refusal : ℕ) (b : Bool) (l : List ℕ) → length l ≡ size → decide (if_present b (one_long refusal [] conv.channels (there b l))) ≡ accepted
  unfolding if_present one_long there
  near_last refusal true l e = at_next _ [] (rw (eq-eqb (length l) size e) refl) ∙ at_end
  near_last refusal false l e = at_end

  whole_run : (ps : List Place) → decide (run_length rack conv.channels r.frames ++ ps) ≡ decide ps
  unfolding run_length
  whole_run ps =
      let whole : length r.frames % size ≡ 0 = rw bytes_are (mul-mod_left count size) in
      at_next _ _ (rw (eq-eqb (length r.frames % size) 0 whole) refl) ∙ at_next _ _ (rw frames_are (le-ltb 540000 count few))

  pub fits_run : decide (input_places rack conv r) ≡ accepted
  unfolding input_places run_from
  fits_run = whole_run _ ∙ near 13 (ltb 0 first) (F (first - 1)) _ (long (first - 1)) (near_last 14 (ltb (first + count) f) (F (first + count)) (long (first + count)))

  pub samples_are : 3 * all_samples conv r ≡ count * frame_size conv.rate conv.channels
  unfolding all_samples channel_samples frame_size
  samples_are = rw frames_are (omega arith)

  pub accepted_call : (out : List ℕ) → length out ≡ count * frame_size conv.rate conv.channels → decide (held_places conv) ≡ accepted → decide (convert_places rack conv r out false []) ≡ accepted
  unfolding convert_places byte_lengths lent_length if_present
  accepted_call out e opens =
      decide_skip (held_places conv) _ opens ∙ decide_skip (input_places rack conv r) _ fits_run
      ∙ at_next _ [] (rw (eq-eqb (length out) (3 * all_samples conv r) (e ∙ sym samples_are)) refl) ∙ at_end
