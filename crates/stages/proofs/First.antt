-- u is the sum of the byte tables' entries over its window.
use Rattle.std.proofs.Common.{◌≡◌, sym, ◌∙◌, ap, ap₂, List, ℕ, suc, ◌+◌, ◌-◌, ◌*◌, ◌/◌, ◌%◌, ◌≤◌, ◌<◌, arith, ℤ, pos, ◌+ℤ◌, ◌*ℤ◌, length, get_or}
use lib.IntN.{+ℤ_idl, zero-*ℤ}
use lib.ListN.{get_or-eq_default}
use Rattle.numbers.specs.Sums.{sum_to, apart}
use Rattle.numbers.specs.inner.Lists.{Held}
use Rattle.numbers.proofs.Sums.{sum_same, sum_head, sum_blocks}
use Rattle.reference.specs.Stages.{tap, M, fir, bit, sign, entry, x, u}
use Rattle.tables.specs.Tables.{ByteTables}
use Rattle.first_stage.specs.inner.Windows.{window_sum}
use Rattle.first_stage.proofs.Windows.{not_later}

module _ (h : List ℤ) (half : ℕ) (long : length h ≡ 8 * half) (some : 0 < half) (β : ℕ → ℕ) (m : ℕ) (room : half ≤ m) where
  -- the 16 × half samples of the window, with the taps from -8 × half on; the first tap is past the table's end
  term : ℕ → ℤ
  term s = tap h (apart s (8 * half)) *ℤ x β (8 * (m - half) + s)

  first : term 0 ≡ pos 0
  unfolding term
  first = rw (get_or-eq_default h (pos 0) {n = apart 0 (8 * half)} (omega arith)) (zero-*ℤ (x β (8 * (m - half) + 0)))

  byte_part : (j : ℕ) → j < 2 * half → sum_to 8 (λ p. term (j * 8 + p)) ≡ entry h (2 * half) j (β (m - half + j))
  unfolding term entry x
  byte_part j l = sum_same 8 _ _ (λ p q.
      let d : (8 * (m - half) + (j * 8 + p)) / 8 ≡ m - half + j = omega arith in
      let r : (8 * (m - half) + (j * 8 + p)) % 8 ≡ p = omega arith in
      let t : apart (j * 8 + p) (8 * half) ≡ apart (8 * j + p) (4 * (2 * half)) = omega arith in
      rw (d, r) (ap (λ k. tap h k *ℤ sign (bit (β (m - half + j)) p)) t))

  pub u_is : u h β m ≡ sum_to (2 * half) (λ j. entry h (2 * half) j (β (m - half + j)))
  unfolding u fir term
  u_is =
      let n : 2 * half * 8 ≡ suc (M h + M h + 1) = omega arith in
      sym (sym (sum_same (2 * half) _ _ byte_part) ∙ sym (sum_blocks 8 (2 * half) term) ∙ rw n (sum_head (M h + M h + 1) term
      ∙ ap₂ (λ a b. a +ℤ b) first
      (sum_same (M h + M h + 1) (λ k. term (suc k)) (λ k. tap h (apart k (M h)) *ℤ x β (8 * m - M h + k)) (λ k l. ap₂ (λ a b. tap h a *ℤ x β b) (omega arith) (omega arith)))
      ∙ +ℤ_idl _))

-- bytes that hold β from position `base` on, and the tables of the taps h
module _ {h tables : List ℤ} {bytes : List ℕ} {β : ℕ → ℕ} {base : ℕ} (half : ℕ) (long : length h ≡ 8 * half) (some : 0 < half)
    (rule : ByteTables h (2 * half) tables) (small : (i : ℕ) → get_or bytes i 0 < 256) (held : Held 0 β base (length bytes) bytes) where
  -- u at the place that a sum stands for
  u_held : (at : ℕ) → at + 2 * half ≤ length bytes → window_sum tables half bytes at ≡ u h β (base + at + half)
  unfolding window_sum
  u_held at l =
      sum_same (2 * half) _ _ (λ j m.
      let b = get_or bytes (at + j) 0 in
      let q : (256 * j + b) / 256 ≡ j = omega (arith, small (at + j)) in
      let r : (256 * j + b) % 256 ≡ b = omega (arith, small (at + j)) in
      let i : base + at + half - half + j ≡ base + (at + j) = omega arith in
      rule.rule (256 * j + b) (omega (arith, small (at + j))) ∙ ap₂ (entry h (2 * half)) q (r ∙ held.is (at + j) (omega arith)) ∙ ap (λ k. entry h (2 * half) j (β k)) (sym i))
      ∙ sym (u_is h half long some β (base + at + half) (omega arith))

  -- the sums of every step-th window are u at every step-th place
  pub first_held : (start step n : ℕ) (out : List ℤ) → start + step * n + 2 * half ≤ length bytes + step → Held (pos 0) (λ k. window_sum tables half bytes (start + step * k)) 0 n out
      → Held (pos 0) (λ k. u h β (base + start + half + step * k)) 0 n out
  first_held start step n out room sums =
      record {
        is = λ k l. sums.is k l ∙ u_held (start + step * (0 + k)) (omega (arith, not_later step k n l)) ∙ ap (u h β) (omega arith);
      }
