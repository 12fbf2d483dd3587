-- A rounded fraction is at most what its bound rounds to, whatever its sign.
use Rattle.std.proofs.Common.{◌≡◌, refl, sym, ap, ◌∙◌, subst, ◌⊎◌, inl, inr, ℕ, zero, suc, ◌+◌, ◌-◌, ◌*◌, ◌/◌, ◌%◌, ◌^◌, ◌≤◌, ◌<◌, le_trans, le_of_eq, le_of_lt}
use Rattle.std.proofs.Common.{mul_right_comm, mul-le-mul_right, le_of_mul-le-mul_right, Bool, true, false, cond, ◌&&◌, ◌||◌, true≢false, T, ltb, eqb, ltb→lt}
use Rattle.std.proofs.Common.{eqb→eq, Float}
use Prim.Native.Nat.{compare}
use lib.Ieee.{nan, inf, fin, Format, prec, emax, low, up, down, size, nearest, units, odd, round, le}
use lib.Ieee.Fits.{round_is, down_pos, and_l}
use lib.Ieee.Exact.{HasValue}
use lib.Ieee.Order.{round_mono}

-- ---- the sign goes through `round`
abbrev pub with_sign : Bool → Float → Float
with_sign s nan = nan
with_sign s (inf t) = inf s
with_sign s (fin t m e) = fin s m e

odd_signs : (s : Bool) (d q k l : ℕ) → odd d s q k l ≡ with_sign s (odd d false q k l)
unfolding odd
odd_signs s d zero k l = refl
odd_signs s d (suc q) k l = refl

units_signs : (f : Format) (s : Bool) (q k : ℕ) → units f s q k ≡ with_sign s (units f false q k)
unfolding units
units_signs f s q k = go (ltb (q * 2 ^ k) (2 ^ (low f + suc (emax f))))
  where
    go : (b : Bool) → cond b (odd (suc (prec f)) s q k (low f)) (inf s) ≡ with_sign s (cond b (odd (suc (prec f)) false q k (low f)) (inf false))
    go true = odd_signs s (suc (prec f)) q k (low f)
    go false = refl

pub round_signs : (f : Format) (s : Bool) (a b : ℕ) → round f s a b ≡ with_sign s (round f false a b)
round_signs f s a b =
    let n = a * 2 ^ low f in
    let k = size (n / b) - prec f in
    let u = b * 2 ^ k in
    round_is f s a b ∙ units_signs f s (nearest (n / u) (compare (n % u * 2) u)) k ∙ ap (with_sign s) (sym (round_is f false a b))

-- ---- finite, and at most B / C in size
abbrev pub AtMost : Float → ℕ → ℕ → Type 0
AtMost nan B C = ⊥
AtMost (inf s) B C = ⊥
AtMost (fin s m e) B C = m * up e * C ≤ B * down e

or_split : (a b : Bool) → T (a || b) → T a ⊎ T b
or_split true b t = inl tt
or_split false b t = inr t

lt_or_eq : (a b : ℕ) → T (ltb a b || (eqb a b && true)) → a ≤ b
lt_or_eq a b t = elim (or_split (ltb a b) (eqb a b && true) t) [ inl u ↦ le_of_lt (ltb→lt a b u) | inr u ↦ le_of_eq (eqb→eq a b (and_l (eqb a b) true u)) ]

pub under : (s : Bool) (x y : Float) (B C : ℕ) → HasValue y false B C → T (le (with_sign false x) y) → AtMost (with_sign s x) B C
unfolding le
under s nan y B C v h = absurd h
under s (inf t) nan B C v h = absurd v
under s (inf t) (inf u) B C v h = absurd v
under s (inf t) (fin u n d) B C v h = absurd h
under s (fin t m e) nan B C v h = absurd v
under s (fin t m e) (inf u) B C v h = absurd v
under s (fin t m e) (fin true n d) B C v h = absurd (true≢false v.0)
under s (fin t m e) (fin false n d) B C v h =
    le_of_mul-le-mul_right
    (le_trans (le_of_eq (mul_right_comm (m * up e) C (down d)))
    (le_trans (mul-le-mul_right C (lt_or_eq (m * up e * down d) (n * up d * down e) h))
    (le_of_eq (mul_right_comm (n * up d) (down e) C ∙ ap (λ (x : ℕ). x * down e) v.1 ∙ mul_right_comm B (down d) (down e)))))
    (down_pos d)

-- a / b ≤ B / C, which the format holds
pub round_at_most : (f : Format) (s : Bool) (a b B C : ℕ) → 0 < b → 0 < C → a * C ≤ B * b → HasValue (round f false B C) false B C → AtMost (round f s a b) B C
round_at_most f s a b B C P Q h v =
    subst (λ (x : Float). AtMost x B C) (sym (round_signs f s a b))
    (under s (round f false a b) (round f false B C) B C v (subst (λ (x : Float). T (le x (round f false B C))) (round_signs f false a b) (round_mono f a b B C P Q h)))
