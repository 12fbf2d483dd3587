-- Request 13: each statement is a test that antt computes at every whole number of decibels, and a lemma that turns it
-- into the statement.
use Rattle.std.proofs.Common.{◌≡◌, ⊎_elim, ℕ, ◌+◌, ◌-◌, ◌<◌, Bool, ◌&&◌, le_of_suc-le-suc, arith, T, ltb, ltb→lt, ℤ, pos, negsuc}
use lib.Ieee.{add, mul, div, lt, of_int, of_bits}
use lib.Ieee.Fits.{and_l, and_r}
use Rattle.numbers.proofs.Lists.{below_or}
use Rattle.numbers.specs.Tests.{each_below}
use Rattle.numbers.proofs.Tests.{each_below_at}
use Rattle.reference.specs.Scaling.{LN_10, magnitude, exponent, series, squared, db_to_linear}
use Rattle.decibel_laws.specs.Decibels.{factor, low_power, ten_power, high_power, TrueDecibels, FactorsAreTrue, louder, across, FactorsGrow}

-- ---- 10^d

is_true : ℤ → Bool
is_true d = ltb (low_power d) (ten_power d) && ltb (ten_power d) (high_power d)

up_to_24 : T (each_below (λ k. is_true (pos k)) 25)
unfolding each_below is_true db_to_linear exponent magnitude LN_10 series squared of_int of_bits mul div add lt
up_to_24 = tt

down_to_120 : T (each_below (λ k. is_true (negsuc k)) 120)
unfolding each_below is_true db_to_linear exponent magnitude LN_10 series squared of_int of_bits mul div add lt
down_to_120 = tt

told : (d : ℤ) → T (is_true d) → TrueDecibels d
unfolding is_true
told d t =
    let low = ltb (low_power d) (ten_power d) in
    let high = ltb (ten_power d) (high_power d) in
    record { above = ltb→lt _ _ (and_l low high t); below = ltb→lt _ _ (and_r low high t) }

pub factors_are_true : FactorsAreTrue
factors_are_true (pos k) h = told (pos k) (each_below_at (λ k. is_true (pos k)) 25 k up_to_24 h)
factors_are_true (negsuc k) h = told (negsuc k) (each_below_at (λ k. is_true (negsuc k)) 120 k down_to_120 h)

-- ---- growth

grows : ℤ → Bool
grows d = ltb (across (factor d) (factor (louder d))) (across (factor (louder d)) (factor d))

grows_to_24 : T (each_below (λ k. grows (pos k)) 24)
unfolding each_below grows db_to_linear exponent magnitude LN_10 series squared of_int of_bits mul div add lt
grows_to_24 = tt

-- below 0 in two halves, since antt limits the steps of one computation
grows_to_0 : T (each_below (λ k. grows (negsuc k)) 60)
unfolding each_below grows db_to_linear exponent magnitude LN_10 series squared of_int of_bits mul div add lt
grows_to_0 = tt

grows_from_120 : T (each_below (λ k. grows (negsuc (60 + k))) 60)
unfolding each_below grows db_to_linear exponent magnitude LN_10 series squared of_int of_bits mul div add lt
grows_from_120 = tt

grows_below : (k : ℕ) → k < 120 → T (grows (negsuc k))
grows_below k h =
    ⊎_elim (λ l. each_below_at (λ k. grows (negsuc k)) 60 k grows_to_0 l)
    (λ l. let e : 60 + (k - 60) ≡ k = omega arith in rw e at (each_below_at (λ k. grows (negsuc (60 + k))) 60 (k - 60) grows_from_120 (omega arith)))
    (below_or k 60)

pub factors_grow : FactorsGrow
unfolding grows
factors_grow (pos k) h g = ltb→lt _ _ (each_below_at (λ k. grows (pos k)) 24 k grows_to_24 (le_of_suc-le-suc g))
factors_grow (negsuc k) h g = ltb→lt _ _ (grows_below k h)
