-- An absent neighbour as an empty slice: the sequence is the same, and with it all that the definition gives.
use Rattle.std.proofs.Common.{◌≡◌, refl, ap, ap₂, ◌∙◌, List, [], ◌++◌, append-nil, Bool, true, false, cond, ℕ, ◌+◌, ◌*◌, ◌/◌, ◌%◌, ◌<◌, arith, lt-ltb, eqb-true}
use Rattle.std.proofs.Common.{T, ltb, ℤ, length, None}
use borrow.Author.Tests.{not-false}
use lib.Ieee.{binary64, fits}
use Rattle.numbers.specs.Lists.{tabulate, total, count}
use Rattle.reference.specs.Frames.{Run, run, frame_length, frame_count, neighbour, sequence, channel_byte}
use Rattle.reference.specs.Stages.{taps_of, y}
use Rattle.reference.specs.Scaling.{scaled, clamp, clips}
use Rattle.reference.specs.Output.{samples_per_frame, unclamped, sample, clipped, item, channel_samples, all_samples, samples, channel_clips, channel_extremes, channel_stats, stats, frame_clips}
use Rattle.reference.specs.Statistics.{extremes_of}
use Rattle.output.specs.inner.Fills.{Layout, parts_of}
use Rattle.reference.specs.Refusals.{rack, accepted, decide, Datum, Place, if_present, one_long, run_length, input_places}
use Rattle.reference.specs.declared.Converter.{Converter}
use Rattle.reference.specs.declared.ConvertStats.{ConvertStats}
use Rattle.reference.proofs.Refusals.{pass, some_channel, few_channels, supported, right, filtered, whole_frames, few_frames}
use Rattle.channel_bytes.specs.inner.Lent.{Lent, lent_run}
use Rattle.gain.proofs.Records.{right_bounded}
use Rattle.runs.specs.inner.Loops.{Ran}
use Rattle.workspace.specs.inner.Accepted.{Accepted}
use Rattle.run_record.specs.inner.Calls.{AcceptedCall, present}
use Rattle.routes.proofs.Routes.{few_taps, low_pass, last_filter}

-- ---- what depends on the sequence and the frames alone

module _ (conv : Converter) (r q : Run) (e : sequence conv.channels r ≡ sequence conv.channels q) (g : r.frames ≡ q.frames) where
  unclamped_same : unclamped conv r ≡ unclamped conv q
  unfolding unclamped
  unclamped_same = ap {B = ℕ → ℕ → ℤ}
      (λ (l : List ℕ). λ c n. scaled conv.gain.linear (y conv.rate conv.cutoff (taps_of conv.filter) (channel_byte conv.channels l c) (samples_per_frame conv.rate + n))) e

  pub samples_same : samples conv r ≡ samples conv q
  unfolding samples item sample all_samples channel_samples
  samples_same =
      ap₂ (λ (u : ℕ → ℕ → ℤ) (f : List ℕ). tabulate (λ i. clamp (u (i % conv.channels) (i / conv.channels))) 0 (frame_count conv.channels f * samples_per_frame conv.rate * conv.channels))
      unclamped_same g

  pub stats_same : stats conv r ≡ stats conv q
  unfolding stats channel_stats channel_clips channel_extremes clipped channel_samples
  stats_same =
      ap₂ {C = ConvertStats} (λ (u : ℕ → ℕ → ℤ) (f : List ℕ).
      let n = frame_count conv.channels f * samples_per_frame conv.rate in
      record {
        channels = tabulate
            (λ c. record { clipped = cond (ltb c conv.channels) (count (λ k. clips (u c k)) 0 n) 0; extremes = cond (ltb c conv.channels) (extremes_of (u c) 0 n) None }) 0 6;
      }) unclamped_same g

  pub frame_clips_same : frame_clips conv r ≡ frame_clips conv q
  unfolding frame_clips clipped
  frame_clips_same =
      ap {B = ℕ → ℕ} (λ (u : ℕ → ℕ → ℤ). λ f. total (λ c. count (λ n. clips (u c n)) (f * samples_per_frame conv.rate) (samples_per_frame conv.rate)) 0 conv.channels)
      unclamped_same

-- ---- a neighbour that passes its place

passed : (n : ℕ) (d : List Datum) (ch : ℕ) (there : Bool) (bytes : List ℕ) (ps : List Place) → decide (if_present there (one_long n d ch bytes) ++ ps) ≡ accepted
    → (0 < length (present there bytes) → length (present there bytes) ≡ frame_length ch) × (decide ps ≡ accepted)
unfolding if_present one_long present
passed n d ch true bytes ps e = let h = pass _ _ e in ((λ l. eqb-true _ _ (not-false _ h.0)), h.1)
passed n d ch false bytes ps e = ((λ l. absurd (omega arith)), e)

neighbour_same : (n : ℕ) (d : List Datum) (ch : ℕ) (there : Bool) (bytes : List ℕ) (ps : List Place) → 0 < ch → decide (if_present there (one_long n d ch bytes) ++ ps) ≡ accepted
    → neighbour ch (ltb 0 (length (present there bytes))) (present there bytes) ≡ neighbour ch there bytes
unfolding if_present one_long present neighbour
neighbour_same n d ch true bytes ps some e =
    let whole : length bytes ≡ frame_length ch = eqb-true _ _ (not-false _ (pass _ _ e).0) in
    rw (lt-ltb 0 (length bytes) (omega arith))
neighbour_same n d ch false bytes ps some e = refl

-- ---- an accepted run, its slices lent

module _ (conv : Converter) (hb : Bool) (b f : List ℕ) (ha : Bool) (a : List ℕ) (ok : AcceptedCall conv (run hb b f ha a)) where
  neighbours : decide (if_present hb (one_long 13 [] conv.channels b) ++ if_present ha (one_long 14 [] conv.channels a)) ≡ accepted
  unfolding input_places run_length
  neighbours = (pass _ _ (pass _ _ ok.fits).1).1

  last_place : decide (if_present ha (one_long 14 [] conv.channels a) ++ []) ≡ accepted
  last_place = ap decide (append-nil (if_present ha (one_long 14 [] conv.channels a))) ∙ (passed 13 [] conv.channels hb b _ neighbours).1

  pub lent : Lent conv.channels (frame_count conv.channels f) (present hb b) f (present ha a)
  lent =
      record {
        some = some_channel conv ok.opens;
        few = few_channels conv ok.opens;
        limit = few_frames rack conv (run hb b f ha a) ok.fits;
        whole = whole_frames rack conv (run hb b f ha a) ok.fits;
        first = (passed 13 [] conv.channels hb b _ neighbours).0;
        last = (passed 14 [] conv.channels ha a _ last_place).0;
      }

  sequence_same : sequence conv.channels (lent_run (present hb b) f (present ha a)) ≡ sequence conv.channels (run hb b f ha a)
  unfolding sequence lent_run
  sequence_same = rw (neighbour_same 13 [] conv.channels hb b _ (some_channel conv ok.opens) neighbours, neighbour_same 14 [] conv.channels ha a _ (some_channel conv ok.opens) last_place)

  -- its record's array has 117 places
  pub slices_accepted : T (fits binary64 conv.gain.linear) → length conv.filter.taps ≡ 117 → Accepted conv (frame_count conv.channels f) (present hb b) f (present ha a)
  slices_accepted h long =
      record {
        slices = lent;
        supported = supported conv ok.opens;
        few_taps = few_taps conv.filter (filtered conv ok.opens);
        last = last_filter conv.rate conv.cutoff (taps_of conv.filter) (low_pass conv.filter (filtered conv ok.opens) long) (supported conv ok.opens);
        factor = right_bounded conv.gain h (right conv ok.opens);
      }

  module _ {A : Type 0} {o : Layout A} {told : ConvertStats} {out' : List A} {counts counts' : List ℕ} (ran : Ran o conv (lent_run (present hb b) f (present ha a)) told out' counts counts') where
    pub ran_places : out' ≡ parts_of o (samples conv (run hb b f ha a))
    unfolding lent_run
    ran_places = ran.places ∙ ap (parts_of o) (samples_same conv _ _ sequence_same refl)

    pub ran_stats : told ≡ stats conv (run hb b f ha a)
    unfolding lent_run
    ran_stats = ran.is_stats ∙ stats_same conv _ _ sequence_same refl

    pub ran_counts : counts' ≡ tabulate (frame_clips conv (run hb b f ha a)) 0 (length counts)
    unfolding lent_run
    ran_counts = ran.counted ∙ ap (λ (g : ℕ → ℕ). tabulate g 0 (length counts)) (frame_clips_same conv _ _ sequence_same refl)
