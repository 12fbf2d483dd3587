-- Whole decibels beside a console's: d decibels are the factor whose twentieth power is 10^d. No real number is named:
-- fractions are compared over whole numbers.
use Rattle.std.specs.Prelude.{ℕ, suc, ◌+◌, ◌-◌, ◌*◌, ◌^◌, ◌<◌, true, false, ℤ, pos, negsuc, Float}
use Rattle.std.proofs.Math.IntN.{suc_ℤ}
use Rattle.std.specs.Float.{nan, inf, fin, binary64}
use Rattle.std.specs.Float.Ieee.{up, down, of_int}
use Rattle.reference.specs.Scaling.{db_to_linear}

-- the factor of d decibels
abbrev pub factor : ℤ → Float
factor d = db_to_linear (of_int binary64 d)

-- the exact fraction that a float above 0 is, `numerator` over `denominator`; 0 over 0 of any other
abbrev pub numerator : Float → ℕ
numerator nan = 0
numerator (inf s) = 0
numerator (fin true m e) = 0
numerator (fin false m e) = m * up e

abbrev pub denominator : Float → ℕ
denominator nan = 0
denominator (inf s) = 0
denominator (fin true m e) = 0
denominator (fin false m e) = down e

-- 10^d as a fraction
abbrev pub ten_over : ℤ → ℕ
ten_over (pos k) = 10 ^ k
ten_over (negsuc k) = 1

abbrev pub ten_under : ℤ → ℕ
ten_under (pos k) = 1
ten_under (negsuc k) = 10 ^ suc k

-- -120 to 24
abbrev pub Allowed : ℤ → Type 0
Allowed (pos k) = k < 25
Allowed (negsuc k) = k < 120

-- the bound is one part in 2^40, and the powers are twentieth powers
abbrev pub parts : ℕ
parts = 2 ^ 40

abbrev pub power : ℕ
power = 20

-- with G the factor: the powers of G (1 - 1 / parts), of 10^(d / 20) and of G (1 + 1 / parts), each times one number
-- that makes all three whole
abbrev pub low_power : ℤ → ℕ
low_power d = (numerator (factor d) * (parts - 1)) ^ power * ten_under d

abbrev pub ten_power : ℤ → ℕ
ten_power d = (denominator (factor d) * parts) ^ power * ten_over d

abbrev pub high_power : ℤ → ℕ
high_power d = (numerator (factor d) * (parts + 1)) ^ power * ten_under d

-- request 13: 10^d lies between the twentieth powers of G (1 - 2^-40) and G (1 + 2^-40)
pub record TrueDecibels (d : ℤ) : Type 0 where
  pub above : low_power d < ten_power d
  pub below : ten_power d < high_power d

abbrev pub FactorsAreTrue : Type 0
FactorsAreTrue = (d : ℤ) → Allowed d → TrueDecibels d

-- one decibel more
abbrev pub louder : ℤ → ℤ
louder d = suc_ℤ d

-- of two fractions f and g, f is less than g where `across f g` is less than `across g f`
abbrev pub across : Float → Float → ℕ
across f g = numerator f * denominator g

-- request 13: the factor grows strictly from each d to the next
abbrev pub FactorsGrow : Type 0
FactorsGrow = (d : ℤ) → Allowed d → Allowed (louder d) → across (factor d) (factor (louder d)) < across (factor (louder d)) (factor d)
