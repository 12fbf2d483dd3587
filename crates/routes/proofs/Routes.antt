-- The routes of the reference are routes here, with every filter that 17 and 18 let through; sizes of their y.
use Rattle.std.proofs.Common.{◌≡◌, refl, ap, ◌∙◌, true, false, ◌&&◌, List, ℕ, ◌^◌, ◌≤◌, ◌<◌, le_antisymm, arith, leb-true, lit≤, lit<, leb, ℤ, pos, negsuc}
use Rattle.std.proofs.Common.{nat_abs, length, take, length-take}
use borrow.Author.Tests.{not-false}
use lib.Signed.{le_z}
use Rattle.reference.specs.Taps.{F30}
use Rattle.reference.specs.Stages.{taps_of, whole_sum, whole_size, y}
use Rattle.reference.specs.Output.{samples_per_frame}
use Rattle.reference.specs.Refusals.{accepted, decide, right_sums, filter_places, unsupported}
use Rattle.reference.specs.declared.Filter.{Filter as Record}
use Rattle.reference.specs.declared.PcmRate.{PcmRate}
use Rattle.reference.specs.declared.PcmRate.TheVariants.{Hz88200, Hz176400, Hz352800}
use Rattle.reference.specs.declared.Cutoff.{Cutoff}
use Rattle.reference.specs.declared.Cutoff.TheVariants.{Standard, Low, Wide}
use Rattle.reference.proofs.Refusals.{pass, and_left, and_right}
use Rattle.reference.specs.inner.Sizes.{absolute_sum}
use Rattle.reference.proofs.Sizes.{F30_sum, y_narrow_size, y_wide_size}
use Rattle.filters.specs.inner.Filters.{UnityGain}
use Rattle.filters.proofs.Totals.{absolute_sum_is, taps_sum, filter_by_sums}
use Rattle.filters.proofs.Tables.{filter_F30}
use Rattle.routes.specs.inner.Routes.{route_of, LowPass, LastFilter, y_of, last_taps}
use Rattle.routes.specs.declared.Route.{Route}
use Rattle.routes.specs.declared.Route.TheVariants.{Narrow88, Narrow176, Narrow352, Wide176, Wide352}

pub a_frame : (rate : PcmRate) → 1000 ≤ samples_per_frame rate
unfolding samples_per_frame
a_frame Hz88200 = lit≤ tt
a_frame Hz176400 = lit≤ tt
a_frame Hz352800 = lit≤ tt

-- ---- a filter record that opening takes

antisym : (a b : ℤ) → le_z a b ≡ true → le_z b a ≡ true → a ≡ b
antisym (pos m) (pos n) p q = ap pos (le_antisymm (leb-true m n p) (leb-true n m q))
antisym (pos m) (negsuc n) p q = let z : ◌≡◌ {A = ℕ} 0 1 = cc in absurd (omega arith)
antisym (negsuc m) (pos n) p q = let z : ◌≡◌ {A = ℕ} 0 1 = cc in absurd (omega arith)
antisym (negsuc m) (negsuc n) p q = ap negsuc (le_antisymm (leb-true m n q) (leb-true n m p))

right_taps : (F : List ℤ) → right_sums F ≡ true → UnityGain F × (absolute_sum F ≤ 40000000)
unfolding right_sums whole_sum whole_size
right_taps F e =
    let a = le_z (whole_sum F) (pos 16777216) in
    let b = le_z (pos 16777216) (whole_sum F) in
    let c = leb (whole_size F) 40000000 in
    let h = and_left (a && b) c e in
    let small : absolute_sum F ≤ 40000000 = rw (absolute_sum_is F) (leb-true (whole_size F) 40000000 (and_right (a && b) c e)) in
    (filter_by_sums F (taps_sum F ∙ antisym (whole_sum F) (pos 16777216) (and_left a b h) (and_right a b h)) (omega arith), small)

taps_length : (f : Record) → length f.taps ≡ 117 → f.count ≤ 117 → length (taps_of f) ≡ f.count
unfolding taps_of
taps_length f long few = omega (arith, length-take f.count (take 117 f.taps), length-take 117 f.taps)

module _ (f : Record) (passes : decide (filter_places f) ≡ accepted) where
  counted : leb 1 f.count && leb f.count 117 ≡ true
  unfolding filter_places
  counted = not-false _ (pass _ _ passes).0

  pub few_taps : f.count ≤ 117
  few_taps = leb-true f.count 117 (and_right (leb 1 f.count) (leb f.count 117) counted)

  some_tap : 1 ≤ f.count
  some_tap = leb-true 1 f.count (and_left (leb 1 f.count) (leb f.count 117) counted)

  -- its array has 117 places
  pub low_pass : length f.taps ≡ 117 → LowPass (taps_of f)
  unfolding filter_places
  low_pass long =
      let h = right_taps (taps_of f) (not-false _ (pass _ _ (pass _ _ passes).1).0) in
      let e = taps_length f long few_taps in
      record { some = omega (arith, some_tap); few = omega (arith, few_taps); keeps = h.0; small = h.1 }

-- ---- the last filters

low_pass_F30 : LowPass F30
unfolding F30
low_pass_F30 = record { some = lit< tt; few = lit≤ tt; keeps = filter_F30; small = F30_sum }

no_route : {A : Type 0} → true ≡ false → A
no_route e = let z : ◌≡◌ {A = ℕ} 0 1 = cc in absurd (omega arith)

-- every rate and cutoff that opening supports has its last filter
pub last_filter : (rate : PcmRate) (cutoff : Cutoff) (F : List ℤ) → LowPass F → unsupported rate cutoff ≡ false → LastFilter (route_of rate cutoff) (last_taps rate cutoff F)
unfolding unsupported LastFilter route_of last_taps
last_filter Hz88200 Standard F l e = l
last_filter Hz88200 Low F l e = low_pass_F30
last_filter Hz88200 Wide F l e = no_route e
last_filter Hz176400 Standard F l e = l
last_filter Hz176400 Low F l e = low_pass_F30
last_filter Hz176400 Wide F l e = refl
last_filter Hz352800 Standard F l e = l
last_filter Hz352800 Low F l e = low_pass_F30
last_filter Hz352800 Wide F l e = refl

-- with it, y is the reference's
pub y_of_is : (rate : PcmRate) (cutoff : Cutoff) (F : List ℤ) → unsupported rate cutoff ≡ false → (β : ℕ → ℕ) (n : ℕ) → y_of (route_of rate cutoff) (last_taps rate cutoff F) β n ≡ y rate cutoff F β n
unfolding unsupported y_of route_of last_taps y
y_of_is Hz88200 Standard F e β n = refl
y_of_is Hz88200 Low F e β n = refl
y_of_is Hz88200 Wide F e β n = no_route e
y_of_is Hz176400 Standard F e β n = refl
y_of_is Hz176400 Low F e β n = refl
y_of_is Hz176400 Wide F e β n = refl
y_of_is Hz352800 Standard F e β n = refl
y_of_is Hz352800 Low F e β n = refl
y_of_is Hz352800 Wide F e β n = refl

pub y_of_size : (route : Route) (F : List ℤ) → LastFilter route F → (β : ℕ → ℕ) (n : ℕ) → nat_abs (y_of route F β n) < 2 ^ 30
unfolding LastFilter y_of
y_of_size Narrow88 F l β n = y_narrow_size Hz88200 F l.small β n
y_of_size Narrow176 F l β n = y_narrow_size Hz176400 F l.small β n
y_of_size Narrow352 F l β n = y_narrow_size Hz352800 F l.small β n
y_of_size Wide176 F l β n = y_wide_size Hz176400 β n
y_of_size Wide352 F l β n = y_wide_size Hz352800 β n
