-- The built-in filter: its taps are F40, and it passes its places; the places of a filter record past its number of
-- taps are free.
use Rattle.std.proofs.Common.{◌≡◌, refl, ap, ap₂, sym, ◌∙◌, List, [], ◌∷◌, not, ◌&&◌, ℕ, ◌+◌, arith, min, length, take, take_all, leb, ℤ}
use Rattle.std.proofs.lemmas.List.{take_min}
use Rattle.reference.specs.Frames.{Run, sequence, channel_byte}
use Rattle.numbers.specs.Lists.{total}
use Rattle.numbers.specs.Sums.{sum_to}
use Rattle.reference.specs.Taps.{F40}
use Rattle.reference.specs.Stages.{taps_of, whole_sum, whole_size, y, reach}
use Rattle.reference.specs.Scaling.{scaled}
use Rattle.reference.specs.Settings.{built_in, filter_of, true_numbers, with_filter}
use Rattle.reference.specs.Output.{samples_per_frame, unclamped}
use Rattle.reference.specs.Refusals.{accepted, place, decide, right_sums, filter_places, opening_places, held_places}
use Rattle.reference.specs.Promises.{FilterPlacesFree}
use Rattle.reference.specs.declared.Filter.{Filter}
use Rattle.reference.specs.declared.Converter.{Converter}

pub built_in_taps : taps_of built_in ≡ F40
unfolding taps_of built_in F40
built_in_taps = refl

pub built_in_passes : decide (filter_places built_in) ≡ accepted
unfolding decide filter_places right_sums whole_sum whole_size sum_to total taps_of built_in F40
built_in_passes = refl

module _ (conv : Converter) (f : Filter) where
  filter_alike : f.count ≡ conv.filter.count → taps_of f ≡ taps_of conv.filter → filter_places f ≡ filter_places conv.filter
  unfolding filter_places
  filter_alike = ap₂ (λ (n : ℕ) (h : List ℤ). place (not (leb 1 n && leb n 117)) 17 [] ∷ place (not (right_sums h)) 18 [] ∷ [])

  decides_alike : filter_places f ≡ filter_places conv.filter → taps_of f ≡ taps_of conv.filter → decide (held_places (with_filter f conv)) ≡ decide (held_places conv)
  unfolding held_places opening_places filter_of true_numbers
  decides_alike e t = rw (e, t)

  unclamped_alike : taps_of f ≡ taps_of conv.filter → (r : Run) → unclamped (with_filter f conv) r ≡ unclamped conv r
  unfolding unclamped
  unclamped_alike e r =
      ap {B = ℕ → ℕ → ℤ} (λ (h : List ℤ). λ c n.
      scaled conv.gain.linear (y conv.rate conv.cutoff h (channel_byte conv.channels (sequence conv.channels r) c) (samples_per_frame conv.rate + n))) e

pub filter_places_free : FilterPlacesFree
filter_places_free conv f n e r =
    (decides_alike conv f (filter_alike conv f n e) e, ap (reach conv.rate conv.cutoff) e, unclamped_alike conv f e r)

-- the taps of a record of 117 places
pub first_taps : (f : Filter) → length f.taps ≡ 117 → take (min f.count 117) f.taps ≡ taps_of f
unfolding taps_of
first_taps f e = ap (λ n. take (min f.count n) f.taps) (sym e) ∙ (take_min f.count f.taps ∙ ap (take f.count) (sym (take_all 117 f.taps (omega (arith, e)))))
