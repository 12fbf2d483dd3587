use Rattle.std.proofs.Common.{◌≡◌, ℕ, suc, ◌+◌, ◌<◌, ◌^◌, Bool, true, false, cond, List, ℤ, pos, negsuc, length, refl, ap, ◌∙◌, arith, rules, ne_of_lt}
use Rattle.std.proofs.Common.{not-suc-le-zero, zero-add, below_more, get_or-set_same, get_or-set_other, w32, w64, to_z, of_z, nat_abs, set, to_z-of_z}
use mir.Val.{bool_byte}
use Rattle.std.specs.Int.{int_min, int_max}
use Rattle.numbers.specs.Sums.{at0}
use Rattle.numbers.specs.Lists.{count, total}
use Rattle.numbers.specs.Extremes.{lesser, greater, picked}
use Rattle.numbers.proofs.Integers.{sfits_abs}
use Rattle.numbers.proofs.Lists.{count_few}
use Rattle.reference.specs.Scaling.{scaled, clamp, clips}
use Rattle.gain.proofs.Scaling.{clamp_fits}
use Rattle.gain.proofs.Order.{least_y, greatest_y, block_told}
use Rattle.gain.proofs.scale.scale_block.Goals as goal

-- one number more
few_more : (p : ℕ → Bool) (i : ℕ) {n m : ℕ} → n ≡ count p 0 i → m ≡ cond (p i) 1 0 → n + m ≡ count p 0 (i + 1)
unfolding total
few_more p i e f = let s : i + 1 ≡ suc i = omega arith in rw (s, zero-add i, e, f) refl

picked_more : (pick : ℤ → ℤ → ℤ) (s : ℤ) (ys : List ℤ) (i : ℕ) {x y r : ℤ} → x ≡ picked pick s (at0 ys) 0 i → y ≡ at0 ys i → r ≡ pick x y → r ≡ picked pick s (at0 ys) 0 (i + 1)
unfolding picked
picked_more pick s ys i e f g = let t : i + 1 ≡ suc i = omega arith in g ∙ rw (t, zero-add i, e, f) refl

byte_is : (b : Bool) → bool_byte b ≡ cond b 1 0
byte_is true = refl
byte_is false = refl

lesser_is : (x y : ℤ) → int_min x y ≡ lesser x y
unfolding lesser
lesser_is x y = refl

greater_is : (x y : ℤ) → int_max x y ≡ greater x y
unfolding greater
greater_is x y = search rules

pub loop-i-init : goal.loop-i-init
unfolding total picked
loop-i-init c = record { done = λ k h. absurd (not-suc-le-zero h); counted = refl; low = refl; high = refl }

pub overflow_add-clipped : goal.overflow_add-clipped
overflow_add-clipped c =
    let p : ℕ → Bool = λ k. clips (scaled c.args.factor (at0 c.args.ys.now k)) in
    let y = at0 c.args.ys.now c.loop-i.i in
    let small : nat_abs y < 2 ^ 31 = c.requires.by_index c.loop-i.i (omega arith) in
    let back : to_z w64 (of_z w64 y) ≡ y = to_z-of_z {w = w64} (sfits_abs (omega arith)) in
    let short : to_z w32 (of_z w32 y) ≡ y = to_z-of_z {w = w32} (sfits_abs small) in
    let told = rw (back, short) at c.scale-scaled.ensures in
    let next = few_more p c.loop-i.i c.loop-i.invariant.counted (c.from-clipped.ensures ∙ byte_is c.scale-scaled.result.clipped ∙ ap (λ (b : Bool). cond b 1 0) told.is_clipped) in
    record { fits = omega (arith, count_few p 0 (c.loop-i.i + 1), next) }

pub loop-i-preserved : goal.loop-i-preserved
loop-i-preserved c =
    let ys = c.args.ys.now in
    let f : ℕ → ℤ = λ k. scaled c.args.factor (at0 ys k) in
    let i = c.loop-i.i in
    let y = at0 ys i in
    let small : nat_abs y < 2 ^ 31 = c.requires.by_index i (omega arith) in
    let back : to_z w64 (of_z w64 y) ≡ y = to_z-of_z {w = w64} (sfits_abs (omega arith)) in
    let short : to_z w32 (of_z w32 y) ≡ y = to_z-of_z {w = w32} (sfits_abs small) in
    let once : to_z w32 (of_z w32 (to_z w64 (of_z w64 y))) ≡ y = rw back short in
    let told = rw (back, short) at c.scale-scaled.ensures in
    let v = to_z w32 (of_z w32 c.scale-scaled.result.sample) in
    let v_is : v ≡ clamp (f i) = ap (λ (z : ℤ). to_z w32 (of_z w32 z)) told.is_sample ∙ to_z-of_z (clamp_fits (f i)) in
    record {
      done = below_more (λ (j : ℕ). at0 (set c.loop-i.out i v) j ≡ clamp (f j)) i
          (λ j h. get_or-set_other c.loop-i.out i j v (pos 0) (ne_of_lt h) ∙ c.loop-i.invariant.done j h)
          (get_or-set_same c.loop-i.out i v (pos 0) (omega arith) ∙ v_is);
      counted = few_more (λ k. clips (f k)) i c.loop-i.invariant.counted (c.from-clipped.ensures ∙ byte_is c.scale-scaled.result.clipped ∙ ap (λ (b : Bool). cond b 1 0) told.is_clipped);
      low = to_z-of_z {w = w32} (record { sfits = c.min-least.type_inv })
          ∙ picked_more lesser (pos 2147483647) ys i c.loop-i.invariant.low once (c.min-least.ensures.value ∙ lesser_is _ _);
      high = to_z-of_z {w = w32} (record { sfits = c.max-greatest.type_inv })
          ∙ picked_more greater (negsuc 2147483647) ys i c.loop-i.invariant.high once (c.max-greatest.ensures.value ∙ greater_is _ _);
    }

pub returns : goal.returns
returns c =
    let ys = c.args.ys.now in
    let e : c.loop-i.i ≡ length ys = omega arith in
    let low : to_z w64 (of_z w64 c.before_clamp.result) ≡ scaled c.args.factor (least_y ys c.loop-i.i)
    = to_z-of_z {w = w64} (record { sfits = c.before_clamp.type_inv }) ∙ c.before_clamp.ensures ∙ ap (scaled _) c.loop-i.invariant.low in
    let high : to_z w64 (of_z w64 c.before_clamp-2.result) ≡ scaled c.args.factor (greatest_y ys c.loop-i.i)
    = to_z-of_z {w = w64} (record { sfits = c.before_clamp-2.type_inv }) ∙ c.before_clamp-2.ensures ∙ ap (scaled _) c.loop-i.invariant.high in
    record {
      same_length = c.loop-i.auto.out;
      samples = λ k h. c.loop-i.invariant.done k (omega arith);
      is_told = rw (low, high, c.loop-i.invariant.counted, e) (block_told c.args.factor ys (length ys) c.requires.t (omega arith) c.requires.by_index);
    }
