-- A stretch counted from what is in progress before it gives the overs that the signal has there, and what is in
-- progress after it.
use Rattle.std.proofs.Common.{◌≡◌, refl, ap, sym, ◌∙◌, List, Bool, true, false, cond, not, ◌&&◌, min, ℕ, zero, suc, ◌+◌, ◌-◌, ◌≤◌, add-zero, add-suc, arith}
use Rattle.std.proofs.Common.{lt-ltb, eqb, ℤ, pos, negsuc, Option, Some, None}
use mathlib.Core.Bool.{or-false, and-false}
use lib.Dec.{eqb-suc-zero}
use Rattle.numbers.specs.Lists.{tabulate, total}
use Rattle.overs.specs.declared.End.{End}
use Rattle.overs.specs.declared.End.TheVariants.{High, Low}
use Rattle.overs.specs.Overs.{end_of, same_end, stands_at, none, length_at, longer, third_after, normal, step_at, step, overs_from, after, channel, overs_of}
use Rattle.overs.proofs.Laws.{overs_more, after_more}
use Rattle.overs_joins.specs.Signal.{third_at, third, overs, just_before, in_progress, standing}

-- ---- ends

-- a sample's end is this one
is_end : Option End → End → Bool
is_end None e = false
is_end (Some d) e = same_end d e

-- to stand at an end is to have it
stands_is : (e : End) (z : ℤ) → stands_at e z ≡ is_end (end_of z) e
unfolding stands_at end_of same_end is_end
stands_is High (pos a) = go (eqb a 8388607)
  where
    go : (b : Bool) → b ≡ is_end (cond b (Some High) None) High
    go true = refl
    go false = refl
stands_is High (negsuc a) = go (eqb a 8388607)
  where
    go : (b : Bool) → false ≡ is_end (cond b (Some Low) None) High
    go true = refl
    go false = refl
stands_is Low (pos a) = go (eqb a 8388607)
  where
    go : (b : Bool) → false ≡ is_end (cond b (Some High) None) Low
    go true = refl
    go false = refl
stands_is Low (negsuc a) = go (eqb a 8388607)
  where
    go : (b : Bool) → b ≡ is_end (cond b (Some Low) None) Low
    go true = refl
    go false = refl

same_self : (e : End) → same_end e e ≡ true
unfolding same_end
same_self High = refl
same_self Low = refl

-- ---- the four samples that a third looks at

four : (a b c d : Bool) → (a && (b && (c && not d))) ≡ (a && eqb (cond b (suc (cond c (suc (cond d 1 0)) 0)) 0) 2)
four false b c d = refl
four true false c d = refl
four true true false d = refl
four true true true false = refl
four true true true true = refl

three : (a b c : Bool) → (a && (b && (c && true))) ≡ (a && eqb (cond b (suc (cond c 1 0)) 0) 2)
three false b c = refl
three true false c = refl
three true true false = refl
three true true true = refl

two : (a b : Bool) → false ≡ (a && eqb (cond b 1 0) 2)
two false b = refl
two true false = refl
two true true = refl

long_3 : (b c d : Bool) → longer (cond b (suc (cond c (suc (cond d 1 0)) 0)) 0) ≡ suc (cond b (suc (cond c 1 0)) 0)
unfolding longer
long_3 false c d = refl
long_3 true false d = refl
long_3 true true false = refl
long_3 true true true = refl

long_2 : (b c : Bool) → longer (cond b (suc (cond c 1 0)) 0) ≡ suc (cond b (suc (cond c 1 0)) 0)
unfolding longer
long_2 false c = refl
long_2 true false = refl
long_2 true true = refl

long_1 : (b : Bool) → longer (cond b 1 0) ≡ suc (cond b 1 0)
unfolding longer
long_1 false = refl
long_1 true = refl

module _ (s : ℕ → ℤ) where
  third_is : (e : End) (n : ℕ) → third_at s e n ≡ (stands_at e (s n) && eqb (just_before s e n 3) 2)
  unfolding third_at just_before
  third_is e zero = sym (and-false (stands_at e (s 0)))
  third_is e (suc zero) = two (stands_at e (s 1)) (stands_at e (s 0))
  third_is e (suc (suc zero)) = three (stands_at e (s 2)) (stands_at e (s 1)) (stands_at e (s 0))
  third_is e (suc (suc (suc k))) =
      let n = suc (suc (suc k)) in
      let i : n - 1 ≡ suc (suc k) = omega arith in
      let j : n - 2 ≡ suc k = omega arith in
      let l : n - 3 ≡ k = omega arith in
      rw (lt-ltb 1 n (omega arith), lt-ltb 2 n (omega arith), i, j, l) (four (stands_at e (s (suc (suc (suc k))))) (stands_at e (s (suc (suc k)))) (stands_at e (s (suc k))) (stands_at e (s k)))

  longer_is : (e : End) (n : ℕ) → longer (just_before s e n 3) ≡ suc (just_before s e n 2)
  unfolding just_before longer
  longer_is e zero = refl
  longer_is e (suc zero) = long_1 (stands_at e (s 0))
  longer_is e (suc (suc zero)) = long_2 (stands_at e (s 1)) (stands_at e (s 0))
  longer_is e (suc (suc (suc k))) = long_3 (stands_at e (s (suc (suc k)))) (stands_at e (s (suc k))) (stands_at e (s k))

  -- a sample at no end stands at neither; one at an end, at that one alone
  at_none : (n : ℕ) (e : End) → end_of (s n) ≡ None → stands_at e (s n) ≡ false
  unfolding is_end
  at_none n e h = rw (stands_is e (s n), h)

  at_end : (n : ℕ) (d e : End) → end_of (s n) ≡ Some d → stands_at e (s n) ≡ same_end d e
  unfolding is_end
  at_end n d e h = rw (stands_is e (s n), h)

  no_third : (n : ℕ) → end_of (s n) ≡ None → third s n ≡ false
  unfolding third
  no_third n h = rw (third_is High n, third_is Low n, at_none n High h, at_none n Low h)

  third_of : (n : ℕ) (e : End) → end_of (s n) ≡ Some e → third s n ≡ eqb (just_before s e n 3) 2
  unfolding third same_end
  third_of n High h = rw (third_is High n, third_is Low n, at_end n High High h, at_end n High Low h) (or-false (eqb (just_before s High n 3) 2))
  third_of n Low h = rw (third_is High n, third_is Low n, at_end n Low High h, at_end n Low Low h)

  other : (d e : End) (n : ℕ) → cond (same_end d e) (suc (just_before s d n 2)) 0 ≡ cond (same_end d e) (suc (just_before s e n 2)) 0
  unfolding same_end
  other High High n = refl
  other High Low n = refl
  other Low High n = refl
  other Low Low n = refl

  -- what is in progress at an end is what stands just before
  held_is : (e : End) (n : ℕ) → length_at (in_progress s n) e ≡ just_before s e n 3
  unfolding in_progress standing length_at just_before
  held_is e zero = refl
  held_is e (suc n) = go (end_of (s n)) refl
    where
      go : (d : Option End) → end_of (s n) ≡ d → length_at (standing d (λ f. just_before s f (suc n) 3)) e ≡ just_before s e (suc n) 3
      go None h = rw (at_none n e h)
      go (Some d) h = rw (at_end n d d h, at_end n d e h, same_self d) (other d e n)

  -- so many stand before the sample after one that stands at the end
  one_before : (n : ℕ) (e : End) → end_of (s n) ≡ Some e → just_before s e (suc n) 3 ≡ suc (just_before s e n 2)
  unfolding just_before
  one_before n e h = rw (at_end n e e h, same_self e)

  -- one sample more: the third of an over is counted, and what is in progress is what is in progress one place on
  one_more : (n : ℕ) → step (in_progress s n) (s n) ≡ record { count = cond (third s n) 1 0; next = in_progress s (suc n) }
  unfolding step step_at in_progress standing third_after longer
  one_more n = go (end_of (s n)) refl
    where
      go : (e : Option End) → end_of (s n) ≡ e → step_at (in_progress s n) e ≡ record { count = cond (third s n) 1 0; next = standing e (λ f. just_before s f (suc n) 3) }
      go None h = rw (no_third n h)
      go (Some e) h = rw (third_of n e h, held_is e n, one_before n e h, ← longer_is e n)

  -- n samples from place a on
  pub after_is : (a n : ℕ) → after (in_progress s a) (tabulate s a n) ≡ in_progress s (a + n)
  unfolding tabulate after
  after_is a zero = ap (in_progress s) (sym (add-zero a))
  after_is a (suc n) =
      after_more (in_progress s a) (tabulate s a n) (s (a + n)) ∙ rw (after_is a n, one_more (a + n)) (ap (in_progress s) (sym (add-suc a n)))

  pub overs_are : (a n : ℕ) → overs_from (in_progress s a) (tabulate s a n) ≡ overs s a n
  unfolding tabulate overs_from overs total
  overs_are a zero = refl
  overs_are a (suc n) =
      overs_more (in_progress s a) (tabulate s a n) (s (a + n)) ∙ rw (after_is a n, one_more (a + n), overs_are a n)

  -- nothing is in progress before the first sample
  pub starts : in_progress s 0 ≡ none
  unfolding in_progress
  starts = refl

  -- a state that is in progress somewhere is its own normal form
  held_at : (e : End) (n m : ℕ) → just_before s e n m ≤ m
  unfolding just_before
  held_at e n zero = omega arith
  held_at e zero (suc m) = omega arith
  held_at e (suc n) (suc m) = go (stands_at e (s n)) (held_at e n m)
    where
      go : (b : Bool) → just_before s e n m ≤ m → cond b (suc (just_before s e n m)) 0 ≤ suc m
      go true h = omega arith
      go false h = omega arith

  pub normal_is : (n : ℕ) → normal (in_progress s n) ≡ in_progress s n
  unfolding in_progress standing normal
  normal_is zero = refl
  normal_is (suc n) = go (end_of (s n)) refl
    where
      go : (e : Option End) → end_of (s n) ≡ e → normal (standing e (λ f. just_before s f (suc n) 3)) ≡ standing e (λ f. just_before s f (suc n) 3)
      go None h = refl
      go (Some e) h =
          let l : min (suc (just_before s e n 2)) 3 ≡ suc (just_before s e n 2) = omega (arith, held_at e n 2) in
          rw (one_before n e h, eqb-suc-zero (just_before s e n 2), l)

  -- what `overs` answers of items that hold the channel's samples a, …, a + n - 1, from what is in progress at a
  pub answer_is : (items : List ℤ) (channels c a n : ℕ) → channel items channels c ≡ tabulate s a n
      → overs_of items channels c (in_progress s a) ≡ record { count = overs s a n; next = in_progress s (a + n) }
  unfolding overs_of
  answer_is items channels c a n e = rw (normal_is a, e, overs_are a n, after_is a n)
