-- No entry of the byte tables is over 2^27 in size.
use Rattle.std.proofs.Common.{◌≡◌, ap, ⊎_elim, List, ℕ, zero, suc, ◌+◌, ◌-◌, ◌*◌, ◌/◌, ◌%◌, ◌^◌, ◌≤◌, ◌<◌, arith, lit≤, ℤ, nat_abs}
use Rattle.numbers.specs.Sums.{apart}
use Rattle.numbers.specs.Lists.{total}
use Rattle.numbers.proofs.Lists.{below_or, total_same, total_join}
use Rattle.numbers.proofs.Sums.{sum_size}
use Rattle.reference.specs.Taps.{S1, S1_WIDE}
use Rattle.reference.specs.Stages.{tap, bit, sign, entry}
use Rattle.filters.proofs.Signals.{past}
use Rattle.tables.specs.Tables.{ByteTables}
use Rattle.first_stage.specs.inner.Windows.{SmallEntries}

sign_size : (n : ℕ) → nat_abs (sign n) ≤ 1
unfolding sign
sign_size zero = lit≤ tt
sign_size (suc n) = lit≤ tt

-- an entry is a sum of eight taps, each with a sign: no more than the sizes of all taps of B tables
module _ (h : List ℤ) (B : ℕ) where
  sizes : ℕ → ℕ
  sizes s = nat_abs (tap h (apart s (4 * B)))

  entry_size : (j b : ℕ) → j < B → nat_abs (entry h B j b) ≤ total sizes 0 (8 * B)
  unfolding entry sizes
  entry_size j b l =
      let one : nat_abs (entry h B j b) ≤ total (λ p. sizes (8 * j + p)) 0 8 * 1 = sum_size 8 (λ p. tap h (apart (8 * j + p) (4 * B))) (λ p. sign (bit b p)) 1 (λ p m. sign_size (bit b p)) in
      let here : total (λ p. sizes (8 * j + p)) 0 8 ≡ total sizes (0 + 8 * j) 8 = total_same (λ p. sizes (8 * j + p)) sizes 0 (0 + 8 * j) 8 (λ p m. ap sizes (omega arith)) in
      let e : 8 * j + (8 + (8 * B - (8 * j + 8))) ≡ 8 * B = omega arith in
      omega (
        arith,
        one,
        here,
        total_join sizes 0 (8 * j) (8 + (8 * B - (8 * j + 8))),
        total_join sizes (0 + 8 * j) 8 (8 * B - (8 * j + 8)),
        ap (total sizes 0) e,
      )

  entries_small : total sizes 0 (8 * B) ≤ 2 ^ 27 → {t : List ℤ} → ByteTables h B t → SmallEntries t
  entries_small small {t} b k =
      ⊎_elim (λ (m : k < 256 * B). rw (b.rule k m) (omega (arith, small, entry_size (k / 256) (k % 256) (omega arith))))
      (λ (m : 256 * B ≤ k). rw (past t k (omega (arith, b.long))) (lit≤ tt)) (below_or k (256 * B))

pub S1_small : {t : List ℤ} → ByteTables S1 8 t → SmallEntries t
unfolding sizes total S1
S1_small = entries_small S1 8 (lit≤ tt)

pub S1_WIDE_small : {t : List ℤ} → ByteTables S1_WIDE 12 t → SmallEntries t
unfolding sizes total S1_WIDE
S1_WIDE_small = entries_small S1_WIDE 12 (lit≤ tt)
