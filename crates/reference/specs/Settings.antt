-- What opening is given, and the converter that it gives.
use Rattle.std.specs.Prelude.{Bool, Some, unwrap_or, ◌&&◌, ◌++◌, ℕ, eqb, pos, replicate}
use Rattle.reference.specs.Taps.{F40}
use Rattle.reference.specs.Frames.{frame_length}
use Rattle.reference.specs.Stages.{taps_of, reach}
use Rattle.reference.specs.Output.{samples_per_frame}
use Rattle.reference.specs.declared.Filter.{Filter}
use Rattle.reference.specs.declared.Settings.{Settings}
use Rattle.reference.specs.declared.Converter.{Converter}

-- F40 as a filter record
unfoldable pub built_in : Filter
built_in = record { taps = F40 ++ replicate 56 (pos 0); count = 61 }

-- the filter given, or F40 where none is
unfoldable pub filter_of : Settings → Filter
filter_of s = unwrap_or s.filter built_in

-- with the three numbers that a converter stores (request 7)
unfoldable pub converter_of : Settings → Converter
converter_of s =
    record {
      rate = s.rate;
      cutoff = s.cutoff;
      channels = s.channels;
      gain = s.gain;
      filter = filter_of s;
      samples_per_frame = samples_per_frame s.rate;
      reach = reach s.rate s.cutoff (taps_of (filter_of s));
      frame_length = frame_length s.channels;
    }

-- the settings that a converter holds
abbrev pub held_settings : Converter → Settings
held_settings conv =
    record { rate = conv.rate; cutoff = conv.cutoff; channels = conv.channels; gain = conv.gain; filter = Some conv.filter }

-- the reach of a converter's settings
abbrev pub reach_of : Converter → ℕ
reach_of conv = reach conv.rate conv.cutoff (taps_of conv.filter)

-- whether the stored numbers are those of the settings
unfoldable pub true_numbers : Converter → Bool
true_numbers conv =
    eqb conv.samples_per_frame (samples_per_frame conv.rate)
    && (eqb conv.reach (reach_of conv) && eqb conv.frame_length (frame_length conv.channels))

-- a converter with another filter
abbrev pub with_filter : Filter → Converter → Converter
with_filter f conv =
    record {
      rate = conv.rate;
      cutoff = conv.cutoff;
      channels = conv.channels;
      gain = conv.gain;
      filter = f;
      samples_per_frame = conv.samples_per_frame;
      reach = conv.reach;
      frame_length = conv.frame_length;
    }
