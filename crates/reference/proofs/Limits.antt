-- A limit of frames that a run keeps does not show: the calls under two limits decide alike, so up to 8 frames the
-- desk's entry gives what the rack's does.
use Rattle.std.proofs.Common.{◌≡◌, ap, sym, ◌∙◌, List, [], ◌∷◌, ◌++◌, Bool, false, cond, ℕ, ◌≤◌, arith}
use Rattle.reference.specs.Frames.{Run, frame_count}
use Rattle.reference.specs.Output.{samples, stats, per_frame_clips, s24le}
use Rattle.reference.specs.Refusals.{accepted, refused, Place, decide, rack, desk, most, run_length, held_places, input_places, byte_lengths, convert_places}
use Rattle.reference.specs.Promises.{by_decision, Converted, if_lent, BytesPromise, DeskAsRack}
use Rattle.reference.specs.Statistics.{no_stats}
use Rattle.reference.specs.declared.Converter.{Converter}
use Rattle.reference.specs.declared.Limit.{Limit}
use Rattle.reference.proofs.Refusals.{at_next, within, few_frames, rack_most}
use Rattle.reference.proofs.Promises.{convert_exact}

-- places that decide alike, tried after the same ones
decide_after : (ps qs rs : List Place) → decide qs ≡ decide rs → decide (ps ++ qs) ≡ decide (ps ++ rs)
unfolding decide
decide_after [] qs rs e = e
decide_after (p ∷ ps) qs rs e = ap (λ d. cond p.holds (refused p.refusal p.carried) d) (decide_after ps qs rs e)

-- two places that do not hold, tried second
second_alike : (p q q' : Place) (ps : List Place) → q.holds ≡ false → q'.holds ≡ false → decide (p ∷ q ∷ ps) ≡ decide (p ∷ q' ∷ ps)
second_alike p q q' ps e f = decide_after (p ∷ []) (q ∷ ps) (q' ∷ ps) (at_next q ps e ∙ sym (at_next q' ps f))

-- a run that keeps two limits
module _ (whose other : Limit) (conv : Converter) (r : Run) (few : frame_count conv.channels r.frames ≤ most whose) (few' : frame_count conv.channels r.frames ≤ most other) where
  input_alike : decide (input_places whose conv r) ≡ decide (input_places other conv r)
  unfolding input_places run_length
  input_alike = second_alike _ _ _ _ (within _ whose few) (within _ other few')

  module _ (lent : Bool) (out counts : List ℕ) where
    lengths_alike : decide (byte_lengths whose conv r out lent counts) ≡ decide (byte_lengths other conv r out lent counts)
    unfolding byte_lengths input_places run_length
    lengths_alike = second_alike _ _ _ _ (within _ whose few) (within _ other few')

    bytes_alike : decide (convert_places whose conv r out lent counts) ≡ decide (convert_places other conv r out lent counts)
    unfolding convert_places
    bytes_alike = decide_after (held_places conv) _ _ lengths_alike

    promise_alike : (o c : List ℕ) (a : Converted) → BytesPromise whose conv r lent out counts o c a → BytesPromise other conv r lent out counts o c a
    promise_alike o c a p =
        record {
          answered = record { decided = p.answered.decided ∙ bytes_alike; counted = p.answered.counted ∙ ap (λ d. by_decision d (stats conv r) no_stats) bytes_alike };
          written = p.written ∙ ap (λ d. by_decision d (s24le (samples conv r)) out) bytes_alike;
          per_frame = p.per_frame ∙ ap (λ d. by_decision d (if_lent lent (per_frame_clips conv r) counts) counts) bytes_alike;
        }

-- what is accepted under any limit the rack takes
pub rack_fits : (whose : Limit) (conv : Converter) (r : Run) → decide (input_places whose conv r) ≡ accepted → decide (input_places rack conv r) ≡ accepted
rack_fits whose conv r e =
    let few = few_frames whose conv r e in
    sym (input_alike whose rack conv r few (omega (arith, few, rack_most whose))) ∙ e

pub desk_as_rack : DeskAsRack
desk_as_rack conv r lent out counts o o' c c' a b few p q =
    convert_exact rack conv r lent out counts o o' c c' a b p (promise_alike desk rack conv r few (omega arith) lent out counts o' c' b q)
