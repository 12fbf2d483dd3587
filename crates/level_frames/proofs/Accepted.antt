-- A frame with neighbours of its length is accepted; and what is told of an accepted one.
use Rattle.std.proofs.Common.{◌≡◌, refl, sym, ap, subst, ◌∙◌, List, [], ◌∷◌, ◌++◌, append_assoc, Bool, true, false, not, Ok, Err, true≢false, ℕ, ◌+◌, ◌*◌, ◌/◌}
use Rattle.std.proofs.Common.{◌%◌, arith, eq-eqb, eqb, ltb, ℤ, length}
use native.Mathlib.Nat.{div_self, mod_self}
use Rattle.reference.specs.Frames.{Run, frame_length, frame_count}
use Rattle.reference.specs.Output.{samples_per_frame, all_samples}
use Rattle.reference.specs.Refusals.{is_accepted, Place as Row, Datum, accepted, decide, held_places, one_long, run_length, if_present, input_places, lent_length, run_lengths, convert_frame_places}
use Rattle.reference.specs.declared.Converter.{Converter}
use Rattle.reference.specs.declared.PcmError.{PcmError}
use Rattle.reference.proofs.Promises.{exit_accepted}
use Rattle.reference.proofs.Refusals.{error_refuses, at_next, at_end, decide_skip, some_channel, few_channels}
use Rattle.text.specs.Text.{Printed}
use Rattle.overs.specs.Overs.{Progress}
use Rattle.levels.specs.inner.Levels.{FrameReported, told_length, told_clips, told_states}
use Rattle.levels.specs.declared.Reported.{Reported}
use Rattle.levels.proofs.Frames.{in_all}
use Rattle.level_frames.specs.inner.Told.{PieceAdded, OneLong}

-- ---- a frame is accepted

not_same : (m n : ℕ) → m ≡ n → not (eqb m n) ≡ false
not_same m n e = rw (eq-eqb m n e)

-- a neighbour of right length, present or not
neighbour_passes : (n : ℕ) (more : List Datum) (ch : ℕ) (there : Bool) (bytes : List ℕ) (ps : List Row) → length bytes ≡ frame_length ch
    → decide (if_present there (one_long n more ch bytes) ++ ps) ≡ decide ps
unfolding if_present one_long
neighbour_passes n more ch true bytes ps e = at_next _ ps (not_same (length bytes) (frame_length ch) e)
neighbour_passes n more ch false bytes ps e = refl

module _ (conv : Converter) (opens : decide (held_places conv) ≡ accepted) where
  one_in : (r : Run) → length r.frames ≡ frame_length conv.channels → frame_count conv.channels r.frames ≡ 1
  unfolding frame_count
  one_in r e = ap (λ n. n / frame_length conv.channels) e ∙ div_self (omega (arith, some_channel conv opens))

  pub accepts : (r : Run) (items : List ℤ) → OneLong (frame_length conv.channels) r → length items ≡ samples_per_frame conv.rate * conv.channels → decide (convert_frame_places conv r items) ≡ accepted
  unfolding convert_frame_places run_lengths input_places run_length one_long lent_length
  accepts r items (before, here, after) all =
      let size = frame_length conv.channels in
      let room = lent_length 6 (length items) (all_samples conv r) in
      let nb = if_present r.has_before (one_long 13 [] conv.channels r.before) in
      let na = if_present r.has_after (one_long 14 [] conv.channels r.after) in
      let fits : length items ≡ all_samples conv r = all ∙ sym (in_all conv r (some_channel conv opens) (few_channels conv opens) (one_in r here)) in
      let last : decide (room ∷ []) ≡ accepted = at_next room [] (not_same (length items) (all_samples conv r) fits) ∙ at_end in
      let neighbours : decide ((nb ++ na) ++ (room ∷ [])) ≡ accepted =
      ap decide (append_assoc nb na (room ∷ [])) ∙ neighbour_passes 13 [] conv.channels r.has_before r.before (na ++ (room ∷ [])) before
      ∙ neighbour_passes 14 [] conv.channels r.has_after r.after (room ∷ []) after ∙ last in
      let none : length r.frames % size ≡ 0 = ap (λ n. n % size) here ∙ mod_self size in
      decide_skip (held_places conv) _ opens
      ∙ at_next _ _ (not_same (length r.frames) size here)
      ∙ at_next _ _ (not_same (length r.frames % size) 0 none)
      ∙ at_next _ _ (ap (ltb 540000) (one_in r here))
      ∙ neighbours

-- ---- what is told of an accepted frame

module _ {conv : Converter} {number : ℕ} {states : List Progress} {piece : Run} {items items' : List ℤ} {old new : List ℕ} where
  pub added : (clipped : ℕ) (a : Reported) → FrameReported conv number states piece items items' old new (Ok a) → decide (convert_frame_places conv piece items) ≡ accepted
      → PieceAdded conv number piece clipped states old (clipped + a.clipped) a.states new a.length
  unfolding told_length told_clips told_states
  added clipped a r ok = record {
    counted = ap (λ k. clipped + k) (r.counted ∙ exit_accepted _ _ _ ok);
    lines = subst (λ l. Printed l old 0 new a.length) (exit_accepted _ _ _ ok) r.lines;
    carried = r.carried ∙ exit_accepted _ _ _ ok;
  }

  pub not_refused : (e : PcmError) → FrameReported conv number states piece items items' old new (Err e) → decide (convert_frame_places conv piece items) ≡ accepted → ⊥
  unfolding is_accepted
  not_refused e r ok = true≢false (sym (ap is_accepted (r.decided ∙ ok)) ∙ error_refuses e)
