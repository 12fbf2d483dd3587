-- What `frame_report` tells, once the frame is converted.
use Rattle.std.proofs.Common.{◌≡◌, ℕ, suc, ◌*◌, ◌/◌, ◌<◌, ◌≤◌, false, List, length, get_or, ℤ, sym, refl, ap, ◌∙◌, subst, true≢false, mul-le-mul_right}
use Rattle.std.proofs.Common.{zero-add, arith, eqb-true, Ok, Err}
use native.Mathlib.Nat.{div_self, mul-div_left}
use borrow.Author.Tests.{not-false}
use Rattle.numbers.specs.Lists.{tabulate}
use Rattle.numbers.proofs.Lists.{tabulate_same, length_tabulate}
use Rattle.reference.specs.Frames.{Run, frame_length, frame_count}
use Rattle.reference.specs.Output.{samples_per_frame, item, samples, stats, frame_clips}
use Rattle.reference.specs.Refusals.{accepted, decide, is_accepted, held_places, one_long, convert_frame_places}
use Rattle.reference.specs.Promises.{stats_told, ConvertFramePromise}
use Rattle.reference.specs.declared.Converter.{Converter}
use Rattle.reference.specs.declared.ConvertStats.{ConvertStats}
use Rattle.reference.specs.Statistics.{channel_of, clip_sum}
use Rattle.reference.specs.declared.PcmError.{PcmError}
use Rattle.reference.proofs.Frames.{some_samples}
use Rattle.reference.proofs.Promises.{exit_accepted, exit_refused}
use Rattle.reference.proofs.Refusals.{decide_first, decide_skip, pass, error_refuses, some_channel, few_channels}
use Rattle.overs.specs.Overs.{Progress, none}
use Rattle.text.specs.Text.{joined, Printed}
use Rattle.text.proofs.Printing.{none_printed}
use Rattle.level_lines.specs.Lines.{level_line}
use Rattle.channel_levels.specs.inner.Channels.{level_of}
use Rattle.levels.specs.Levels.{lines_with, states_after, whole_input, InProgress, piece_lines, piece_states}
use Rattle.levels.specs.inner.Levels.{told_length, told_clips, told_states, FrameReported}
use Rattle.levels.proofs.Frames.{in_all, level_is, clips_are, few_below}
use Rattle.levels.proofs.Whole.{lines_same, states_same, clips_same}

-- an accepted frame
module _ (conv : Converter) (r : Run) (items : List ℤ) (ok : decide (convert_frame_places conv r items) ≡ accepted) where
  abbrev ch : ℕ
  ch = conv.channels

  opens : decide (held_places conv) ≡ accepted
  unfolding convert_frame_places
  opens = decide_first (held_places conv) _ ok

  pub some : 0 < ch
  some = some_channel conv opens

  pub few : ch ≤ 6
  few = few_channels conv opens

  one : frame_count ch r.frames ≡ 1
  unfolding convert_frame_places one_long frame_count
  one =
      let rest = sym (decide_skip (held_places conv) _ opens) ∙ ok in
      let e : length r.frames ≡ frame_length ch = eqb-true _ _ (not-false _ (pass _ _ rest).0) in
      rw e (div_self (omega (arith, some)))

  -- what the conversion left
  module _ (items' : List ℤ) (told : ConvertStats) (p : ConvertFramePromise conv r items items' (Ok told)) where
    stats_are : told ≡ stats conv r
    unfolding stats_told
    stats_are = p.answered.counted ∙ exit_accepted _ _ _ ok

    items_are : items' ≡ samples conv r
    items_are = p.written ∙ exit_accepted _ _ _ ok

    items_long : length items' ≡ samples_per_frame conv.rate * ch
    unfolding samples
    items_long = ap length items_are ∙ length_tabulate (item conv r) 0 _ ∙ in_all conv r some few one

    pub enough : ch ≤ length items'
    enough = rw items_long (omega (arith, mul-le-mul_right ch (some_samples conv.rate)))

    pub whole_rows : length items' ≡ length items' / ch * ch
    whole_rows = rw (items_long, mul-div_left (samples_per_frame conv.rate) some) refl

    pub few_clips : clip_sum told ch ≤ 28224
    few_clips = rw stats_are (omega (arith, few, few_below conv r some few one ch (omega arith)))

    lines_are : (number : ℕ) (states : List Progress)
        → joined (tabulate (λ c. level_line number c (level_of (channel_of told c).clipped items' ch c (get_or states c none))) 0 ch) ≡ piece_lines conv number states r
    unfolding piece_lines lines_with
    lines_are number states =
        ap joined (tabulate_same _ _ 0 0 ch (λ c l. rw (zero-add c, stats_are, items_are) (ap (level_line number c) (level_is conv r some few one c l (get_or states c none)))))

    after : (states : List Progress) → states_after items' ch ch states ≡ piece_states conv states r
    unfolding piece_states
    after states = ap (λ z. states_after z ch ch states) items_are

    pub reported : {number clipped n : ℕ} {states next : List Progress} {old new : List ℕ}
        → Printed (joined (tabulate (λ c. level_line number c (level_of (channel_of told c).clipped items' ch c (get_or states c none))) 0 ch)) old 0 new n
        → clipped ≡ clip_sum told ch
        → next ≡ states_after items' ch ch states
        → FrameReported conv number states r items items' old new (Ok (record { length = n; clipped = clipped; states = next }))
    unfolding told_length told_clips told_states
    reported {number} {clipped} {n} {states} {next} {old} {new} q sum carried =
        let lines : Printed (piece_lines conv number states r) old 0 new n = subst (λ t. Printed t old 0 new n) (lines_are number states) q in
        let counted : clipped ≡ frame_clips conv r 0 = sum ∙ rw stats_are (clips_are conv r some few one) in
        let so : next ≡ piece_states conv states r = carried ∙ after states in
        record {
          decided = p.answered.decided;
          sampled = p.written;
          lines = subst (λ t. Printed t old 0 new n) (sym (exit_accepted _ _ _ ok)) lines;
          counted = counted ∙ sym (exit_accepted _ _ _ ok);
          carried = so ∙ sym (exit_accepted _ _ _ ok);
          whole = λ _ input here before. record {
            lines = subst (λ t. Printed t old 0 new n) (lines_same conv input number r here states before number) lines;
            counted = counted ∙ clips_same conv input number r here;
            carried = subst (InProgress conv (whole_input ch input) (suc number)) (sym so) (states_same conv input number r here states before few);
          };
        }

-- a refused frame: nothing is printed
pub unreported : (conv : Converter) (r : Run) (items items' : List ℤ) (e : PcmError) → ConvertFramePromise conv r items items' (Err e)
    → {number : ℕ} {states : List Progress} {old : List ℕ} → FrameReported conv number states r items items' old old (Err e)
unfolding is_accepted told_length told_clips told_states
unreported conv r items items' e p {number} {states} {old} =
    let no : is_accepted (decide (convert_frame_places conv r items)) ≡ false = ap is_accepted (sym p.answered.decided) ∙ error_refuses e in
    record {
      decided = p.answered.decided;
      sampled = p.written;
      lines = subst (λ t. Printed t old 0 old 0) (sym (exit_refused _ _ _ no)) (none_printed old);
      counted = sym (exit_refused _ _ _ no);
      carried = sym (exit_refused _ _ _ no);
      whole = λ ok. absurd (true≢false (sym (ap is_accepted ok) ∙ no));
    }
