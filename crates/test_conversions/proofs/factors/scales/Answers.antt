-- `scales` is safe: the factor of a made record is bounded, and the number is below 2^31 in size.
use Rattle.std.proofs.Common.{ℕ, zero, suc, ◌<◌, ◌^◌, [], ◌∷◌, get_or, refl, sym, subst, arith, ℤ, pos, nat_abs}
use Rattle.numbers.proofs.Machine.{val}
use Rattle.gain.proofs.Records.{made_bounded}
use Rattle.test_conversions.proofs.factors.scales.Goals as goal

only : (z : ℤ) → nat_abs z < 2 ^ 31 → (k : ℕ) → k < 1 → nat_abs (get_or (z ∷ []) k (pos 0)) < 2 ^ 31
only z h zero l = h
only z h (suc k) l = absurd (omega arith)

pub scale_block-t-requires : goal.scale_block-t-requires
scale_block-t-requires c =
    let low = c.lowered in
    let h = subst (λ (z : ℤ). nat_abs z < 2 ^ 31) (sym (val low.result low.result low.type_inv refl)) low.ensures in
    record { ys_nonzero = (omega arith, refl); t = made_bounded _ c.in-Ok.g c.in-Ok.ensures; by_index = only _ h }
