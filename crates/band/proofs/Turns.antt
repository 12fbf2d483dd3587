-- The half band's eight odd taps, taken two at a time.
use Rattle.std.proofs.Common.{◌≡◌, refl, ap, ap₂, Bool, true, false, not, List, ℕ, zero, suc, ◌+◌, ◌*◌, ◌-◌, ◌^◌, ◌%◌, ◌<◌, ◌≤◌, eqb, arith, ℤ, pos, nat_abs}
use Rattle.std.proofs.Common.{◌+ℤ◌, ◌*ℤ◌, length, get_or}
use lib.IntN.{+ℤ_idr, pos-*ℤ-pos, negsuc-*ℤ-pos}
use Rattle.numbers.specs.Sums.{sum_to}
use Rattle.numbers.specs.Lists.{tabulate}
use Rattle.numbers.proofs.Integers.{abs_add, sums}
use Rattle.reference.specs.Taps.{HB}
use Rattle.reference.specs.Stages.{tap}
use Rattle.lanes.specs.inner.Lanes.{copied, arm, arms, Low, Lanes, Added}
use Rattle.lanes.proofs.Pairs.{copied_size, pair_size}
use Rattle.lanes.proofs.Places.{lanes_then}
use Rattle.filters.specs.inner.Filters.{odd_taps}
use Rattle.band.specs.inner.Bands.{odd_sizes, signed}
use Rattle.filters.proofs.Tables.{between_HB}

-- ---- sizes and signs
pub signed_product : (minus : Bool) (n w : ℕ) → signed minus n *ℤ pos w ≡ signed minus (n * w)
unfolding signed
signed_product false n w = pos-*ℤ-pos n w
signed_product true zero w = let e : 0 * w ≡ 0 = omega arith in rw e refl
signed_product true (suc n) w = negsuc-*ℤ-pos n w

pub signed_size : (minus : Bool) (n : ℕ) → nat_abs (signed minus n) ≡ n
unfolding signed
signed_size false n = refl
signed_size true zero = refl
signed_size true (suc n) = refl

pub eight_sizes : length odd_sizes ≡ 8
unfolding HB odd_taps tabulate odd_sizes
eight_sizes = refl

-- the signs of HB's odd taps take turns
pub in_turn : (k : ℕ) → k < 8 → signed (not (eqb (k % 2) 0)) (get_or odd_sizes k 0) ≡ tap (odd_taps HB) k
unfolding HB odd_taps tabulate odd_sizes signed
in_turn zero l = refl
in_turn (suc zero) l = refl
in_turn (suc (suc zero)) l = refl
in_turn (suc (suc (suc zero))) l = refl
in_turn (suc (suc (suc (suc zero)))) l = refl
in_turn (suc (suc (suc (suc (suc zero))))) l = refl
in_turn (suc (suc (suc (suc (suc (suc zero)))))) l = refl
in_turn (suc (suc (suc (suc (suc (suc (suc zero))))))) l = refl
in_turn (suc (suc (suc (suc (suc (suc (suc (suc k)))))))) l = absurd (omega arith)

pub size_fits : (k : ℕ) → k < 8 → get_or odd_sizes k 0 ≤ 2 ^ 25
size_fits k l = omega (arith, signed_size (not (eqb (k % 2) 0)) (get_or odd_sizes k 0), ap nat_abs (in_turn k l), between_HB.small.size k)

-- taps j and j + 2 of a turn are those of the sum
pub two_is : (h : List ℤ) (s : ℕ → ℤ) (i l j d u : ℕ) {x y : ℤ} → x ≡ tap h j → y ≡ tap h (j + 2) → d + j ≡ i + 5 → u ≡ i + 8 + j
    → x *ℤ (s (d + 2 + l) +ℤ s (u + l)) +ℤ y *ℤ (s (d + l) +ℤ s (u + 2 + l)) ≡ arm h s (8 + (i + l) - 1) (8 + (i + l)) j +ℤ arm h s (8 + (i + l) - 1) (8 + (i + l)) (j + 2)
two_is h s i l j d u p q e f =
    ap₂ (λ (y z : ℤ). y +ℤ z) (ap₂ (λ (y z : ℤ). y *ℤ z) p (ap₂ (λ (a b : ℕ). s a +ℤ s b) (omega arith) (omega arith)))
    (ap₂ (λ (y z : ℤ). y *ℤ z) q (ap₂ (λ (a b : ℕ). s a +ℤ s b) (omega arith) (omega arith)))

two_size : (s : ℕ → ℤ) (a b : ℤ) (i j k l : ℕ) → nat_abs a ≤ 2 ^ 25 → nat_abs b ≤ 2 ^ 25 → ((k : ℕ) → nat_abs (s k) ≤ 2 ^ 30) → nat_abs (a *ℤ (s i +ℤ s j) +ℤ b *ℤ (s k +ℤ s l)) ≤ 2 * 2 ^ 56
two_size s a b i j k l p q e =
    omega (arith, abs_add (a *ℤ (s i +ℤ s j)) (b *ℤ (s k +ℤ s l)), pair_size a (s i) (s j) p (e i) (e j), pair_size b (s k) (s l) q (e k) (e l))

-- two taps more, of sizes that the lanes have room for
pub two_lanes : {L : ℕ} {v : List ℕ} {acc r : List ℤ} (A B : ℕ) (minus : Bool) (a b down up : ℕ) → a ≤ 2 ^ 25 → b ≤ 2 ^ 25 → Low v → Lanes L A acc
    → Added L (λ l. signed minus a *ℤ (copied v (down + 2 + l) +ℤ copied v (up + l)) +ℤ signed minus b *ℤ (copied v (down + l) +ℤ copied v (up + 2 + l))) acc r
    → A + 2 * 2 ^ 56 ≤ B → Lanes L B r
two_lanes {v = v} A B minus a b down up p q low l added m =
    let x : nat_abs (signed minus a) ≤ 2 ^ 25 = rw (signed_size minus a) p in
    let y : nat_abs (signed minus b) ≤ 2 ^ 25 = rw (signed_size minus b) q in
    lanes_then (2 * 2 ^ 56) B added l (λ i. two_size (copied v) (signed minus a) (signed minus b) (down + 2 + i) (up + i) (down + i) (up + 2 + i) x y (copied_size low)) m

pub all_eight : (h : List ℤ) (s : ℕ → ℤ) (d u : ℕ)
    → arm h s d u 0 +ℤ arm h s d u 2 +ℤ (arm h s d u 1 +ℤ arm h s d u 3) +ℤ (arm h s d u 4 +ℤ arm h s d u 6) +ℤ (arm h s d u 5 +ℤ arm h s d u 7) ≡ arms h s 0 d u 8
unfolding arms sum_to
all_eight h s d u = turn (arm h s d u 0) (arm h s d u 1) (arm h s d u 2) (arm h s d u 3) (arm h s d u 4) (arm h s d u 5) (arm h s d u 6) (arm h s d u 7)
  where
    turn : (a b c d e f g k : ℤ) → a +ℤ c +ℤ (b +ℤ d) +ℤ (e +ℤ g) +ℤ (f +ℤ k) ≡ pos 0 +ℤ a +ℤ b +ℤ c +ℤ d +ℤ e +ℤ f +ℤ g +ℤ k
    turn a b c d e f g k = simp (sums, +ℤ_idr)

pub four : {a b c d w x y z : ℤ} → a ≡ w → b ≡ x → c ≡ y → d ≡ z → a +ℤ b +ℤ c +ℤ d ≡ w +ℤ x +ℤ y +ℤ z
four p q r s = cc
