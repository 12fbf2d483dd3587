-- Where a channel's byte stands in the data.
use Rattle.std.proofs.Common.{◌≡◌, sym, ap, ◌∙◌, ℕ, suc, ◌+◌, ◌*◌, ◌/◌, ◌%◌, ◌≤◌, ◌<◌, mod-eq_of_lt, mul-le-mul_right, mul_assoc, mul_comm, arith}
use native.Mathlib.Nat.{mul-add-mod_self_right, mul-add-div_right, div-eq_of_lt}
use Rattle.dsf.specs.Dsf.{data_place}

-- b of m, then c: which m, and which c
pub quotient : (b m c : ℕ) → c < m → (b * m + c) / m ≡ b
quotient b m c l = mul-add-div_right (omega arith) b c ∙ omega (arith, div-eq_of_lt l)

pub remainder : (b m c : ℕ) → c < m → (b * m + c) % m ≡ c
remainder b m c l = mul-add-mod_self_right b m c ∙ mod-eq_of_lt l

-- so many whole groups of n blocks
pub group : (m n : ℕ) → m * 4096 * n ≡ m * n * 4096
group m n = mul_assoc m 4096 n ∙ ap (λ (k : ℕ). m * k) (mul_comm 4096 n) ∙ sym (mul_assoc m n 4096)

module _ (n c q : ℕ) (l : c < n) where
  pub place_below : (m : ℕ) → q < m * 4096 → data_place n c q < m * 4096 * n
  unfolding data_place
  place_below m h =
      let s : suc (q / 4096) ≤ m = omega arith in
      rw (group m n) (omega (arith, mul-le-mul_right n s))
