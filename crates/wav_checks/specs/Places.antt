-- Where the converting writer is turned down: `convert`'s places with the header's 44 bytes in the output, then 12,
-- which carries nothing.
use Rattle.std.specs.Prelude.{List, [], ◌∷◌, ◌++◌, Bool, not, ◌&&◌, ℕ, ◌+◌, ◌*◌, leb, length}
use Rattle.reference.specs.Frames.{Run, frame_count}
use Rattle.reference.specs.Output.{all_samples}
use Rattle.reference.specs.Refusals.{Place, place, lent_length, if_present, rack, held_places, input_places}
use Rattle.reference.specs.declared.Converter.{Converter}
use Rattle.wav_header.specs.Header.{sample_bytes, most_data}

-- more than two channels, or more data than the header can tell
unfoldable pub too_large : ℕ → ℕ → Place
too_large channels n = place (not (leb channels 2 && leb n most_data)) 12 []

-- bytes of a run's data
unfoldable pub run_bytes : Converter → Run → ℕ
run_bytes conv r = sample_bytes * all_samples conv r

module _ (conv : Converter) (r : Run) (out : List ℕ) (lent : Bool) (counts : List ℕ) where
  unfoldable pub wav_lengths : List Place
  wav_lengths =
      lent_length 7 (length out) (44 + run_bytes conv r)
      ∷ (if_present lent (lent_length 8 (length counts) (frame_count conv.channels r.frames))
      ++ (too_large conv.channels (run_bytes conv r) ∷ []))

  unfoldable pub wav_places : List Place
  wav_places = held_places conv ++ (input_places rack conv r ++ wav_lengths)
