-- What the call has done, by what is told of its frame.
use Rattle.std.proofs.Common.{◌≡◌, refl, sym, ap, subst, ◌∙◌, zero-add, lt-ltb, le-ltb, le-leb, Result, Ok, Err, List, [], ◌∷◌, true, false, ℕ, ◌<◌, ◌≤◌, ltb}
use Rattle.std.proofs.Common.{length}
use borrow.Author.Tests.{lt-leb}
use Rattle.reference.specs.Frames.{Run}
use Rattle.reference.specs.Output.{frame_clips}
use Rattle.reference.specs.Refusals.{Decision, accepted, refused, decide, decision, is_accepted, convert_frame_places}
use Rattle.reference.specs.Promises.{by_decision}
use Rattle.reference.specs.declared.Converter.{Converter}
use Rattle.reference.specs.declared.PcmError.{PcmError}
use Rattle.reference.proofs.Promises.{exit_accepted, exit_refused}
use Rattle.reference.proofs.Refusals.{error_refuses}
use Rattle.text.specs.Text.{with_text}
use Rattle.overs.specs.Overs.{Progress}
use Rattle.levels.specs.Levels.{piece_lines, piece_states}
use Rattle.levels.specs.inner.Levels.{told_length, told_clips, told_states, FrameReported}
use Rattle.levels.specs.declared.Reported.{Reported}
use Rattle.codes.specs.Told.{if_ok, ToldWhole}
use Rattle.codes.proofs.Calls.{both_hold, not_left, not_right}
use Rattle.c_converter.specs.Blocks.{CConverter, known_numbers, Input}
use Rattle.c_levels.specs.Standings.{known_standings, standing_numbers}
use Rattle.c_levels.specs.Calls.{LevelLists, levels_understood, LevelsDone}

-- ---- what is understood
module _ (b : CConverter) (i : Input) (l : LevelLists) where
  pub not_presence : 4 ≤ i.presence → levels_understood b i l ≡ false
  not_presence h = not_right (known_numbers b.numbers) _ (not_right (known_standings l.standings) _ (not_left _ _ (le-ltb _ _ h)))

  pub no_room : length l.lines < 864 → levels_understood b i l ≡ false
  no_room h = not_right (known_numbers b.numbers) _ (not_right (known_standings l.standings) _ (not_right (ltb i.presence 4) _ (lt-leb _ _ h)))

  pub all_known : known_numbers b.numbers ≡ true → known_standings l.standings ≡ true → i.presence < 4 → 864 ≤ length l.lines → levels_understood b i l ≡ true
  all_known n s p m = both_hold _ _ n (both_hold _ _ s (both_hold _ _ (lt-ltb _ _ p) (le-leb _ _ m)))

-- ---- what is done

-- no text is put where the call is refused
text_by : (d : Decision) (t old : List ℕ) → with_text old 0 (by_decision d t []) ≡ by_decision d (with_text old 0 t) old
unfolding with_text by_decision
text_by accepted t old = refl
text_by (refused n x) t old = refl

module _ (conv : Converter) (r : Run) (number : ℕ) (before : List Progress) (old new : LevelLists) where
  abbrev d : Decision
  d = decide (convert_frame_places conv r old.samples)

  abbrev Told : Result Reported PcmError → Type 0
  Told = FrameReported conv number before r old.samples new.samples old.lines new.lines

  refuses : (x : PcmError) → Told (Err x) → is_accepted d ≡ false
  refuses x p = ap is_accepted (sym p.decided) ∙ error_refuses x

  numbers_are : (made : Result Reported PcmError) → Told made
      → if_ok (λ a. a.length ∷ a.clipped ∷ []) made old.told ≡ by_decision d (length (piece_lines conv number before r) ∷ frame_clips conv r 0 ∷ []) old.told
  unfolding told_length told_clips
  numbers_are (Ok x) p =
      let e = sym p.decided in
      let l : x.length ≡ length (piece_lines conv number before r) = p.lines.after ∙ zero-add _ ∙ ap length (exit_accepted d _ [] e) in
      let k : x.clipped ≡ frame_clips conv r 0 = p.counted ∙ exit_accepted d _ 0 e in
      rw (l, k) (sym (exit_accepted d _ old.told e))
  numbers_are (Err x) p = sym (exit_refused d _ old.told (refuses x p))

  states_are : (made : Result Reported PcmError) → Told made
      → if_ok (λ a. standing_numbers a.states) made old.standings ≡ by_decision d (standing_numbers (piece_states conv before r)) old.standings
  unfolding told_states
  states_are (Ok x) p =
      let e = sym p.decided in
      let s : x.states ≡ piece_states conv before r = p.carried ∙ exit_accepted d _ before e in
      rw s (sym (exit_accepted d _ old.standings e))
  states_are (Err x) p = sym (exit_refused d _ old.standings (refuses x p))

  pub levels_done : (made : Result Reported PcmError) {answer : ℕ} → Told made → ToldWhole (decision made) answer new.«data» new.decibels
      → new.told ≡ if_ok (λ a. a.length ∷ a.clipped ∷ []) made old.told → new.standings ≡ if_ok (λ a. standing_numbers a.states) made old.standings
      → LevelsDone d conv r number before old new answer
  levels_done made {answer} p t c s =
      record {
        told = subst (λ x. ToldWhole x answer new.«data» new.decibels) p.decided t;
        sampled = p.sampled;
        lines = p.lines.written ∙ text_by d _ old.lines;
        counted = c ∙ numbers_are made p;
        standings = s ∙ states_are made p;
      }
