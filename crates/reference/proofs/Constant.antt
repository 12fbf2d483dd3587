-- Where every byte is the same, so is every value of a stage.
use Rattle.std.proofs.Common.{◌≡◌, refl, ap, ◌∙◌, List, ℕ, suc, ◌+◌, ◌*◌, arith, lit<, ℤ}
use Rattle.reference.specs.Rounding.{R}
use Rattle.reference.specs.Taps.{S1, HB}
use Rattle.reference.specs.Stages.{M, fir, u, v, w}
use Rattle.reference.proofs.Locality.{fir_same, u_same, S1_length, HB_last}

-- values that are z from place a on
fir_constant : (h : List ℤ) (s : ℕ → ℤ) (a : ℕ) (z : ℤ) → ((k : ℕ) → s (a + k) ≡ z) → (k : ℕ) → fir h s (a + M h + k) ≡ fir h (λ _. z) 0
unfolding fir
fir_constant h s a z e k = fir_same h (suc k) s a (λ _. z) 0 (λ j l. e j) k (omega arith)

module _ (b : ℕ) where
  u_constant : (k : ℕ) → u S1 (λ _. b) (4 + k) ≡ u S1 (λ _. b) 4
  u_constant k = ap (u S1 (λ _. b)) (omega arith) ∙ u_same S1 4 1 S1_length (lit< tt) (λ _. b) k (λ _. b) 0 (λ _ _. refl) 0 (lit< tt) ∙ ap (u S1 (λ _. b)) (omega arith)

  v_constant : (k : ℕ) → v (λ _. b) (10 + k) ≡ R (fir HB (λ _. u S1 (λ _. b) 4) 0) 24
  unfolding v
  v_constant k =
      let i : 2 * (10 + k) ≡ 4 + M HB + (1 + 2 * k) = omega (arith, HB_last) in
      rw i (ap (λ z. R z 24) (fir_constant HB (u S1 (λ _. b)) 4 _ u_constant (1 + 2 * k)))

  -- the value of w where every byte is b
  pub w_constant : (F : List ℤ) (k : ℕ) → w F (λ _. b) (10 + M F + k) ≡ R (fir F (λ _. R (fir HB (λ _. u S1 (λ _. b) 4) 0) 24) 0) 24
  unfolding w
  w_constant F k = ap (λ z. R z 24) (fir_constant F (v (λ _. b)) 10 _ v_constant k)
