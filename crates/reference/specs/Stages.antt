-- Modules 2, 4 and 5: byte tables, first stage and later stages, from the bytes β of one channel to y; the reach. A
-- stage counts its values as positions are counted, and a frame is a whole number of values at every stage.
use Rattle.std.specs.Prelude.{List, cond, ℕ, zero, suc, ◌+◌, ◌-◌, ◌*◌, ◌/◌, ◌%◌, ◌^◌, eqb, ℤ, pos, negsuc, nat_abs, ◌+ℤ◌, ◌*ℤ◌, length, get_or, take}
use Rattle.numbers.specs.Lists.{total}
use Rattle.numbers.specs.Sums.{sum_to, apart}
use Rattle.reference.specs.Rounding.{R}
use Rattle.reference.specs.Taps.{S1, S1_WIDE, HB, F40, F30, F80}
use Rattle.reference.specs.declared.Filter.{Filter}
use Rattle.reference.specs.declared.PcmRate.{PcmRate}
use Rattle.reference.specs.declared.PcmRate.TheVariants.{Hz88200, Hz176400, Hz352800}
use Rattle.reference.specs.declared.Cutoff.{Cutoff}
use Rattle.reference.specs.declared.Cutoff.TheVariants.{Standard, Low, Wide}

-- ---- taps

-- tap(t) for |t| = k: the table's number at k, and 0 past its end
abbrev pub tap : List ℤ → ℕ → ℤ
tap h k = get_or h k (pos 0)

-- M, the last place of a table of taps
abbrev pub M : List ℤ → ℕ
M h = length h - 1

-- the taps of a filter record: of its 117 places the first `count`. The others are free
unfoldable pub taps_of : Filter → List ℤ
taps_of f = take f.count (take 117 f.taps)

-- centre plus twice the rest
unfoldable pub whole_sum : List ℤ → ℤ
whole_sum h = tap h 0 +ℤ sum_to (M h) (λ k. tap h (1 + k)) *ℤ pos 2

-- the absolute sum: the centre once, the rest twice
unfoldable pub whole_size : List ℤ → ℕ
whole_size h = nat_abs (tap h 0) + 2 * total (λ k. nat_abs (tap h k)) 1 (M h)

-- sum over |t| ≤ M of h(|t|) × s(c + t), where t = k - M
unfoldable pub fir : List ℤ → (ℕ → ℤ) → ℕ → ℤ
fir h s c = sum_to (M h + M h + 1) (λ k. tap h (apart k (M h)) *ℤ s (c - M h + k))

-- ---- bits

-- bit 7 - p of a byte
unfoldable pub bit : ℕ → ℕ → ℕ
bit b p = b / 2 ^ (7 - p) % 2

-- +1 for a bit that is 1, -1 for 0
unfoldable pub sign : ℕ → ℤ
sign zero = negsuc 0
sign (suc n) = pos 1

-- entry b of byte table j of B: the sum over p = 0..7 of tap(8(j - B/2) + p), plus if bit 7 - p of b is 1, else minus
unfoldable pub entry : List ℤ → ℕ → ℕ → ℕ → ℤ
entry h B j b = sum_to 8 (λ p. tap h (apart (8 * j + p) (4 * B)) *ℤ sign (bit b p))

-- ---- stages

-- x(s): bit 7 - (s mod 8) of the byte at floor(s / 8)
unfoldable pub x : (ℕ → ℕ) → ℕ → ℤ
x β s = sign (bit (β (s / 8)) (s % 8))

-- u(m), with the taps of S1 or S1_WIDE
unfoldable pub u : List ℤ → (ℕ → ℕ) → ℕ → ℤ
u h β m = fir h (x β) (8 * m)

unfoldable pub v : (ℕ → ℕ) → ℕ → ℤ
v β i = R (fir HB (u S1 β) (2 * i)) 24

unfoldable pub w : List ℤ → (ℕ → ℕ) → ℕ → ℤ
w F β i = R (fir F (v β) i) 24

-- the sum of y(2k + 1) at 352,800, over the values s of w
unfoldable pub between : (ℕ → ℤ) → ℕ → ℤ
between s k = sum_to 8 (λ j. tap HB (2 * j + 1) *ℤ (s (k - j) +ℤ s (k + 1 + j)))

-- y(n) with the low-pass F: the routes of Standard and Low
unfoldable pub y_narrow : PcmRate → List ℤ → (ℕ → ℕ) → ℕ → ℤ
y_narrow Hz88200 F β n = w F β (2 * n)
y_narrow Hz176400 F β n = w F β n
y_narrow Hz352800 F β n = cond (eqb (n % 2) 0) (w F β (n / 2)) (R (between (w F β) (n / 2)) 23)

-- y(n) of Wide; opening refuses it at 88,200
unfoldable pub y_wide : PcmRate → (ℕ → ℕ) → ℕ → ℤ
y_wide Hz88200 β n = pos 0
y_wide Hz176400 β n = R (fir F80 (u S1_WIDE β) (2 * n)) 24
y_wide Hz352800 β n = R (fir F40 (u S1_WIDE β) n) 24

-- y(n) with the low-pass F of Standard; Low has F30
unfoldable pub y : PcmRate → Cutoff → List ℤ → (ℕ → ℕ) → ℕ → ℤ
y rate Standard F β n = y_narrow rate F β n
y rate Low F β n = y_narrow rate F30 β n
y rate Wide F β n = y_wide rate β n

-- ---- reach: bytes of each channel around some frames that their samples may depend on; F: the low-pass of Standard
unfoldable pub reach : PcmRate → Cutoff → List ℤ → ℕ
reach Hz88200 Standard F = 2 * M F + 19
reach Hz176400 Standard F = 2 * M F + 19
reach Hz352800 Standard F = 2 * M F + 35
reach Hz88200 Low F = 179
reach Hz176400 Low F = 179
reach Hz352800 Low F = 195
reach Hz88200 Wide F = 0
reach Hz176400 Wide F = 122
reach Hz352800 Wide F = 66
