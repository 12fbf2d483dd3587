-- A right gain record has the factor that its decibels give, and that factor is bounded; so is that of a record that
-- the gain call makes.
use Rattle.std.proofs.Common.{◌≡◌, refl, sym, ap, ◌∙◌, subst, Bool, true, false, not, ◌&&◌, true≢false, ℕ, Ok, Err, arith, eqb-true, ne_eqb, T, eqb, Float}
use Rattle.std.proofs.Common.{to_bits}
use Rattle.std.specs.Float.{float_with_sign}
use lib.Ieee.{nan, inf, fin, binary64, of_int, neg, lt, le, fits, is_nan, of_bits}
use lib.Ieee.Fits.{nan-fits, cond-fits, mul-fits, div-fits, and_l, and_r}
use lib.Ieee.Bits.{of_bits-to_bits, is_true}
use Rattle.reference.specs.Scaling.{whole, squared, magnitude, db_to_linear, allowed, right_gain}
use Rattle.reference.specs.Refusals.{gain_places, decide, accepted, refused}
use Rattle.reference.specs.Promises.{GainPromise}
use Rattle.reference.specs.declared.Gain.{Gain}
use Rattle.reference.specs.declared.PcmError.TheVariants as error
use Rattle.gain.specs.Scale.{bounded}
use Rattle.gain.proofs.Reach.{factor_bounded}

-- floats with the same bits are the same
pub same_bits : (x y : Float) → T (fits binary64 x) → T (fits binary64 y) → to_bits binary64 x ≡ to_bits binary64 y → x ≡ y
same_bits x y p q e = sym (of_bits-to_bits binary64 x p) ∙ ap (of_bits binary64) e ∙ of_bits-to_bits binary64 y q

pub factor_fits : (db : Float) → T (fits binary64 (db_to_linear db))
unfolding db_to_linear squared
factor_fits db = cond-fits binary64 (lt db (whole 0)) _ _ (div-fits binary64 (whole 1) _) (mul-fits binary64 _ _)

pub bounded_number : (x : Float) → T (bounded x) → T (not (is_nan x))
unfolding is_nan bounded
bounded_number nan h = absurd h
bounded_number (inf s) h = absurd h
bounded_number (fin s m e) h = tt

-- the factor of allowed decibels is a number
pub factor_number : (db : Float) → allowed db ≡ true → T (not (is_nan (db_to_linear db)))
factor_number db a = bounded_number _ (factor_bounded db (subst T (sym a) tt))

-- so a record whose factor is none is wrong, whatever its bits
pub no_number : (g : Gain) → is_nan g.linear ≡ true → right_gain g ≡ false
unfolding right_gain is_nan bounded
no_number g h = go (allowed g.db) refl
  where
    is : (x : Float) → is_nan x ≡ true → x ≡ nan
    is nan e = refl
    is (inf s) e = absurd (true≢false (sym e))
    is (fin s m k) e = absurd (true≢false (sym e))

    go : (b : Bool) → allowed g.db ≡ b → b && eqb (to_bits binary64 g.linear) (to_bits binary64 (db_to_linear g.db)) ≡ false
    go false a = refl
    go true a = rw (is g.linear h)
        (ne_eqb _ _ (λ e. subst (λ (y : Float). T (bounded y)) (sym (same_bits nan (db_to_linear g.db) (nan-fits binary64) (factor_fits g.db) e)) (factor_bounded g.db (subst T (sym a) tt))))

module _ (g : Gain) (held : T (fits binary64 g.linear)) (right : right_gain g ≡ true) where
  pub right_factor : g.linear ≡ db_to_linear g.db
  unfolding right_gain
  right_factor =
      let b = eqb (to_bits binary64 g.linear) (to_bits binary64 (db_to_linear g.db)) in
      same_bits g.linear (db_to_linear g.db) held (factor_fits g.db) (eqb-true _ _ (is_true b (and_r (allowed g.db) b (subst T (sym right) tt))))

  pub right_bounded : T (bounded g.linear)
  unfolding right_gain
  right_bounded =
      let b = eqb (to_bits binary64 g.linear) (to_bits binary64 (db_to_linear g.db)) in
      subst (λ (x : Float). T (bounded x)) (sym right_factor) (factor_bounded g.db (and_l (allowed g.db) b (subst T (sym right) tt)))

-- ---- the gain call

pub made : (db linear : Float) → allowed db ≡ true → linear ≡ db_to_linear db → GainPromise db (Ok (record { db = db; linear = linear }))
unfolding gain_places decide
made db linear a e = record { decided = rw a; made = λ h. rw e }

pub turned_down : (db : Float) → allowed db ≡ false → GainPromise db (Err (error.Gain db))
unfolding gain_places decide
turned_down db a = record {
  decided = rw a;
  made = λ h. let k : refused 3 _ ≡ accepted = rw a at h in let z : ◌≡◌ {A = ℕ} 0 1 = cc in absurd (omega arith);
}

-- the two tests of the decibels, from -120 to 24 as they are stored
module _ (db : Float) where
  pub from_below : le (neg (of_bits binary64 0x405e_0000_0000_0000)) db ≡ true → le db (of_bits binary64 0x4038_0000_0000_0000) ≡ allowed db
  unfolding allowed of_int of_bits neg
  from_below h = rw h

  pub too_low : le (neg (of_bits binary64 0x405e_0000_0000_0000)) db ≡ false → le (neg (of_bits binary64 0x405e_0000_0000_0000)) db ≡ allowed db
  unfolding allowed of_int of_bits neg
  too_low h = rw h

-- the sign is cleared
pub abs_is : (db : Float) → float_with_sign false db ≡ magnitude db
unfolding magnitude float_with_sign
abs_is nan = refl
abs_is (inf s) = refl
abs_is (fin s m e) = refl

-- what the gain call makes has such a factor
pub made_bounded : (db : Float) (g : Gain) → GainPromise db (Ok g) → T (bounded g.linear)
unfolding gain_places decide
made_bounded db g p = go (allowed db) refl
  where
    go : (b : Bool) → allowed db ≡ b → T (bounded g.linear)
    go true a =
        let e : Ok g ≡ Ok (record { db = db; linear = db_to_linear db }) = p.made (rw a) in
        let l : g.linear ≡ db_to_linear db = cc in
        subst (λ (x : Float). T (bounded x)) (sym l) (factor_bounded db (subst T (sym a) tt))
    go false a =
        let k : accepted ≡ refused 3 _ = rw a at p.decided in
        let z : ◌≡◌ {A = ℕ} 0 1 = cc in
        absurd (omega arith)
