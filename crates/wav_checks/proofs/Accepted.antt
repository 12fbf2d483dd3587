-- What an accepted call has.
use Rattle.std.proofs.Common.{◌≡◌, sym, ap, ◌∙◌, List, [], ◌∷◌, ◌++◌, Bool, true, not, ◌&&◌, ℕ, ◌+◌, ◌-◌, ◌≤◌, arith, eq-eqb, eqb-true, leb-true, leb, length}
use borrow.Author.Tests.{not-false}
use Rattle.reference.specs.Frames.{Run, frame_count}
use Rattle.reference.specs.Refusals.{Decision, accepted, decide, if_present, lent_length, rack, held_places, input_places, byte_lengths, convert_places}
use Rattle.reference.specs.declared.Converter.{Converter}
use Rattle.reference.proofs.Refusals.{at_next, pass, decide_first, decide_skip}
use Rattle.wav_header.specs.Header.{most_data}
use Rattle.text.proofs.Same.{and_left, and_right}
use Rattle.wav_checks.specs.Places.{too_large, run_bytes, wav_lengths, wav_places}

module _ (conv : Converter) (r : Run) (out : List ℕ) (lent : Bool) (counts : List ℕ) where
  abbrev d : Decision
  d = decide (wav_places conv r out lent counts)

  module _ (ok : d ≡ accepted) where
    pub opens_of : decide (held_places conv) ≡ accepted
    unfolding wav_places
    opens_of = decide_first (held_places conv) _ ok

    behind : decide (input_places rack conv r ++ wav_lengths conv r out lent counts) ≡ accepted
    unfolding wav_places
    behind = sym (decide_skip (held_places conv) _ opens_of) ∙ ok

    pub fits_of : decide (input_places rack conv r) ≡ accepted
    fits_of = decide_first (input_places rack conv r) _ behind

    lengths_of : decide (wav_lengths conv r out lent counts) ≡ accepted
    lengths_of = sym (decide_skip (input_places rack conv r) _ fits_of) ∙ behind

    pub length_of : length out ≡ 44 + run_bytes conv r
    unfolding wav_lengths lent_length
    length_of = eqb-true _ _ (not-false _ (pass _ _ lengths_of).0)

    counts_and_size : decide (if_present lent (lent_length 8 (length counts) (frame_count conv.channels r.frames)) ++ (too_large conv.channels (run_bytes conv r) ∷ [])) ≡ accepted
    unfolding wav_lengths
    counts_and_size = (pass _ _ lengths_of).1

    counts_of : decide (if_present lent (lent_length 8 (length counts) (frame_count conv.channels r.frames))) ≡ accepted
    counts_of = decide_first (if_present lent (lent_length 8 (length counts) (frame_count conv.channels r.frames))) _ counts_and_size

    told_of : leb conv.channels 2 && leb (run_bytes conv r) most_data ≡ true
    unfolding too_large
    told_of = not-false _ (pass _ _ (sym (decide_skip (if_present lent (lent_length 8 (length counts) (frame_count conv.channels r.frames))) _ counts_of) ∙ counts_and_size)).0

    pub two_channels : conv.channels ≤ 2
    two_channels = leb-true _ 2 (and_left _ _ told_of)

    pub data_told : run_bytes conv r ≤ most_data
    data_told = leb-true _ most_data (and_right (leb conv.channels 2) _ told_of)

    pub long_enough : 44 ≤ length out
    long_enough = omega (arith, length_of)

    pub rest_told : length out - 44 ≤ most_data
    rest_told = omega (arith, length_of, data_told)

    -- `convert` takes the part behind the header
    pub convert_takes : (part : List ℕ) → length part ≡ run_bytes conv r → decide (convert_places rack conv r part lent counts) ≡ accepted
    unfolding convert_places byte_lengths lent_length run_bytes
    convert_takes part e =
        decide_skip (held_places conv) _ opens_of ∙ decide_skip (input_places rack conv r) _ fits_of ∙ at_next _ _ (ap not (eq-eqb _ _ e)) ∙ counts_of
