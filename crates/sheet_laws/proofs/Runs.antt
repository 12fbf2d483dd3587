-- The statistics of a run are small, and those of its pieces join.
use Rattle.std.proofs.Common.{◌≡◌, refl, ap, ◌∙◌, Bool, true, false, cond, not, ◌&&◌, true≢false, List, ℕ, zero, suc, ◌+◌, ◌*◌, ◌^◌, ◌≤◌, ◌<◌, mul-le-mul}
use Rattle.std.proofs.Common.{arith, leb-true, eqb, ltb, leb, ℤ, nat_abs, None}
use mathlib.Core.Bool.{and-eq-true_iff}
use borrow.Author.Tests.{not-false}
use Rattle.numbers.specs.Extremes.{extreme}
use Rattle.numbers.specs.Lists.{count}
use Rattle.numbers.proofs.Extremes.{Best, least_best, greatest_best, picked_in}
use Rattle.numbers.proofs.Lists.{count_few}
use Rattle.reference.specs.Frames.{Run}
use Rattle.reference.specs.Output.{unclamped, clipped, channel_samples, channel_clips, channel_extremes, channel_stats, stats}
use Rattle.reference.specs.Statistics.{extremes_of, channel_of}
use Rattle.reference.proofs.Statistics.{at_channel}
use Rattle.reference.specs.Refusals.{Datum, rack, accepted, refused, refusal_number, decide, lent_length}
use Rattle.reference.specs.Stages.{taps_of, y}
use Rattle.reference.specs.Scaling.{scaled}
use Rattle.reference.specs.declared.Converter.{Converter}
use Rattle.reference.proofs.Frames.{frame_samples}
use Rattle.reference.proofs.Refusals.{supported, right, filtered, few_frames}
use Rattle.routes.proofs.Routes.{low_pass, last_filter, y_of_is, y_of_size}
use Rattle.gain.proofs.Records.{right_bounded}
use Rattle.gain.proofs.Scaling.{scaled_small}
use Rattle.joins.specs.Joins.{AcceptedConverter, AcceptedRun}
use Rattle.joins.proofs.Joins.{cut_runs_join}
use Rattle.stretches.proofs.Ends.{either_end}
use Rattle.sheet.specs.Sheet.{sheet, sheet_too_wide}
use Rattle.sheet.specs.Promises.{sheet_length, sheet_places}
use Rattle.sheet_laws.specs.Runs.{ConverterHeld, NumbersFit, NeverTooWide, CutSheetsJoin}
use Rattle.sheet_laws.proofs.Fitting.{SmallExtremes, Small, sheet_fits}

module _ (conv : Converter) (r : Run) (held : ConverterHeld conv) (ok : AcceptedConverter conv) (fits : AcceptedRun conv r) where
  y_small : (β : ℕ → ℕ) (n : ℕ) → nat_abs (y conv.rate conv.cutoff (taps_of conv.filter) β n) < 2 ^ 30
  y_small β n =
      rw (← y_of_is conv.rate conv.cutoff (taps_of conv.filter) (supported conv ok.opens) β n)
      (y_of_size _ _ (last_filter conv.rate conv.cutoff (taps_of conv.filter) (low_pass conv.filter (filtered conv ok.opens) held.1) (supported conv ok.opens)) β n)

  -- ---- sizes
  scaled_within : (y : ℤ) → nat_abs y < 2 ^ 30 → nat_abs (scaled conv.gain.linear y) < 10 ^ 11
  scaled_within y h = omega (arith, scaled_small y conv.gain.linear (omega arith) (right_bounded conv.gain held.0 (right conv ok.opens)))

  unclamped_small : (c n : ℕ) → nat_abs (unclamped conv r c n) < 10 ^ 11
  unfolding unclamped
  unclamped_small c n = scaled_within _ (y_small _ _)

  samples_few : channel_samples conv r ≤ 540000 * 4704
  unfolding channel_samples
  samples_few = mul-le-mul (few_frames rack conv r fits.fits) (frame_samples conv.rate)

  extreme_small : {R : ℤ → ℤ → Type 0} {pick : ℤ → ℤ → ℤ} → Best R pick → (c n : ℕ) → nat_abs (extreme pick (unclamped conv r c) 0 (suc n)) < 10 ^ 11
  extreme_small b c n =
      picked_in b (λ z. nat_abs z < 10 ^ 11) (λ z. z) (λ x y p q l. l) (unclamped conv r c 0) (unclamped conv r c) 0 (suc n) (unclamped_small c 0) (λ k l. unclamped_small c (0 + k))

  extremes_small : (c n : ℕ) → SmallExtremes (extremes_of (unclamped conv r c) 0 n)
  unfolding extremes_of
  extremes_small c zero = tt
  extremes_small c (suc n) = (extreme_small least_best c n, extreme_small greatest_best c n)

  channel_small : (c : ℕ) → SmallExtremes (channel_extremes conv r c)
  unfolding channel_extremes
  channel_small c = go (ltb c conv.channels)
    where
      go : (b : Bool) → SmallExtremes (cond b (extremes_of (unclamped conv r c) 0 (channel_samples conv r)) None)
      go true = extremes_small c (channel_samples conv r)
      go false = tt

  clips_small : (c : ℕ) → channel_clips conv r c ≤ 10 ^ 10
  unfolding channel_clips
  clips_small c = go (ltb c conv.channels)
    where
      go : (b : Bool) → cond b (count (clipped conv r c) 0 (channel_samples conv r)) 0 ≤ 10 ^ 10
      go true = omega (arith, count_few (clipped conv r c) 0 (channel_samples conv r), samples_few)
      go false = omega arith

  pub stats_small : Small (stats conv r)
  unfolding stats channel_stats channel_of
  stats_small = record {
    clips = λ c l. rw (at_channel (channel_stats conv r) c l) (clips_small c);
    extremes = λ c l. rw (at_channel (channel_stats conv r) c l) (channel_small c);
  }

pub numbers_fit : NumbersFit
numbers_fit conv r held ok fits = sheet_fits (stats_small conv r held ok fits)

-- the last of three places holds only where the first does
not_the_last : (a b d : Bool) (x y z : List Datum) → (a ≡ false → d ≡ false)
    → refusal_number (cond a (refused 1 x) (cond b (refused 7 y) (cond d (refused 20 z) accepted))) ≡ 20 → ⊥
not_the_last true b d x y z h e = omega (arith, e)
not_the_last false true d x y z h e = omega (arith, e)
not_the_last false false true x y z h e = true≢false (h refl)
not_the_last false false false x y z h e = omega (arith, e)

pub never_too_wide : NeverTooWide
unfolding sheet_places decide lent_length
never_too_wide conv r held ok fits channels n e =
    not_the_last (not (leb 1 channels && leb channels 6)) (not (eqb n (sheet_length channels))) (sheet_too_wide channels (stats conv r)) _ _ _
    (λ a. numbers_fit conv r held ok fits channels (leb-true channels 6 ((and-eq-true_iff (leb 1 channels) (leb channels 6)).0 (not-false (leb 1 channels && leb channels 6) a)).1)) e

pub cut_sheets_join : CutSheetsJoin
cut_sheets_join conv r calls ok fits joins channels =
    let e = (cut_runs_join conv r calls ok fits joins).told in
    record { from_first = either_end _ ∙ e; same_text = ap (sheet channels) e; same_decision = λ n. ap (λ s. decide (sheet_places channels s n)) e }
