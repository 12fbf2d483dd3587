-- What the converting writer leaves, from its places and from what `convert` leaves behind the header.
use Rattle.std.proofs.Common.{◌≡◌, sym, ap, ◌∙◌, Err, List, ◌++◌, Bool, false, ℕ, ◌-◌, ◌*◌, ◌≤◌, arith, length, take, drop, length-drop, length-append}
use Rattle.std.proofs.Common.{length-take-le}
use borrow.Rule.Slice.PartMut.{put_mid}
use Rattle.numbers.proofs.Lists.{length_tabulate}
use Rattle.reference.specs.Codes.{hertz}
use Rattle.reference.specs.Frames.{Run}
use Rattle.reference.specs.Output.{all_samples, samples, stats, per_frame_clips, s24le}
use Rattle.reference.specs.Refusals.{Decision, accepted, error_decision, decide, is_accepted, rack, convert_places}
use Rattle.reference.specs.Promises.{Converted, stats_told, if_lent, ConvertPromise}
use Rattle.reference.specs.Statistics.{no_stats}
use Rattle.reference.specs.declared.Converter.{Converter}
use Rattle.reference.specs.declared.PcmError.{PcmError}
use Rattle.reference.proofs.Refusals.{error_refuses}
use Rattle.reference.proofs.Promises.{exit_accepted, exit_refused}
use Rattle.wav_header.specs.Header.{header, most_data}
use Rattle.wav_format.specs.Wav.{wav_file}
use Rattle.wav_header.proofs.ThreeParts.{length_header}
use Rattle.wav_format.proofs.Writing.{whole}
use Rattle.wav_checks.specs.Places.{run_bytes, wav_places}
use Rattle.wav_checks.proofs.Accepted.{length_of, long_enough, two_channels, rest_told, convert_takes}
use Rattle.wav.specs.Promises.{WavPromise}

pub length_data : (conv : Converter) (r : Run) → length (s24le (samples conv r)) ≡ run_bytes conv r
unfolding s24le samples run_bytes
length_data conv r = length_tabulate _ 0 (3 * length (samples conv r)) ∙ ap (λ (n : ℕ). 3 * n) (length_tabulate _ 0 (all_samples conv r))

module _ (conv : Converter) (r : Run) (lent : Bool) (out counts : List ℕ) where
  abbrev dd : Decision
  dd = decide (wav_places conv r out lent counts)

  pub refused_call : (e : PcmError) → error_decision e ≡ dd → (out' : List ℕ) → out' ≡ out → WavPromise conv r lent out counts out' counts (Err e)
  unfolding stats_told
  refused_call e refuses out' kept =
      let down : is_accepted dd ≡ false = ap is_accepted (sym refuses) ∙ error_refuses e in
      record {
        answered = record { decided = refuses; counted = sym (exit_refused dd (stats conv r) no_stats down) };
        written = kept ∙ sym (exit_refused dd (wav_file conv.rate conv.channels (s24le (samples conv r))) out down);
        per_frame = sym (exit_refused dd (if_lent lent (per_frame_clips conv r) counts) counts down);
      }

  module _ (accepts : accepted ≡ dd) where
    ok : dd ≡ accepted
    ok = sym accepts

    pub fits_header : (conv.channels ≤ 2) × (length out - 44 ≤ most_data) × (44 ≤ length out)
    fits_header = (two_channels conv r out lent counts ok, rest_told conv r out lent counts ok, long_enough conv r out lent counts ok)

    -- what `convert` leaves in a part of the right length
    module _ (part part' counts' : List ℕ) (a : Converted) (n : length part ≡ run_bytes conv r) (p : ConvertPromise conv r lent part counts part' counts' a) where
      takes : decide (convert_places rack conv r part lent counts) ≡ accepted
      takes = convert_takes conv r out lent counts ok part n

      pub part_is : part' ≡ s24le (samples conv r)
      part_is = p.written ∙ exit_accepted _ (s24le (samples conv r)) part takes

      pub wav_promise : (out' : List ℕ) → out' ≡ wav_file conv.rate conv.channels (s24le (samples conv r)) → WavPromise conv r lent out counts out' counts' a
      wav_promise out' w =
          record {
            answered = record {
              decided = p.answered.decided ∙ takes ∙ sym ok;
              counted = p.answered.counted ∙ exit_accepted _ (stats conv r) no_stats takes ∙ sym (exit_accepted dd (stats conv r) no_stats ok);
            };
            written = w ∙ sym (exit_accepted dd (wav_file conv.rate conv.channels (s24le (samples conv r))) out ok);
            per_frame = p.per_frame ∙ exit_accepted _ (if_lent lent (per_frame_clips conv r) counts) counts takes ∙ sym (exit_accepted dd (if_lent lent (per_frame_clips conv r) counts) counts ok);
          }

    -- the header is put, then `convert` works on the part behind it
    module _ (mid : List ℕ) (put : mid ≡ header (hertz conv.rate) conv.channels (length out - 44) ++ drop 44 out) where
      mid_length : length mid ≡ length out
      mid_length =
          let h = header (hertz conv.rate) conv.channels (length out - 44) in
          omega (arith, ap length put, length-append h (drop 44 out), length_header (hertz conv.rate) conv.channels (length out - 44), length-drop 44 out, long_enough conv r out lent counts ok)

      pub mid_long : 44 ≤ length mid
      mid_long = omega (arith, mid_length, long_enough conv r out lent counts ok)

      part_length : length (take (length mid - 44) (drop 44 mid)) ≡ run_bytes conv r
      part_length =
          length-take-le (length mid - 44) (drop 44 mid) (omega (arith, length-drop 44 mid))
          ∙ omega (arith, mid_length, length_of conv r out lent counts ok)

      pub converted : (part' counts' : List ℕ) (a : Converted) → ConvertPromise conv r lent (take (length mid - 44) (drop 44 mid)) counts part' counts' a
          → WavPromise conv r lent out counts (put_mid 44 (length mid - 44) mid part') counts' a
      unfolding wav_file
      converted part' counts' a p =
          let part = take (length mid - 44) (drop 44 mid) in
          let h = header (hertz conv.rate) conv.channels (length (s24le (samples conv r))) in
          let n : length out - 44 ≡ length (s24le (samples conv r)) = omega (arith, length_data conv r, length_of conv r out lent counts ok) in
          let m : mid ≡ h ++ drop 44 out = put ∙ ap (λ (x : ℕ). header (hertz conv.rate) conv.channels x ++ drop 44 out) n in
          wav_promise part part' counts' a part_length p _
          (whole h mid out part' (length_header (hertz conv.rate) conv.channels (length (s24le (samples conv r)))) m ∙ ap (λ (l : List ℕ). h ++ l) (part_is part part' counts' a part_length p))
