-- Three samples of which the third is at no end, where nothing is in progress before them; and samples passed over.
use Rattle.std.proofs.Common.{◌≡◌, refl, ap, ◌∙◌, ◌++◌, Bool, true, false, cond, ⊎_elim, ℕ, ◌+◌, ◌-◌, ◌/◌, ◌≤◌, div-le_self, arith, eqb, ℤ, Option, Some, None}
use Rattle.std.specs.Option.{is_some, is_none}
use Rattle.numbers.specs.Lists.{tabulate}
use Rattle.numbers.proofs.Lists.{tabulate_join, below_or}
use Rattle.overs.specs.declared.End.{End}
use Rattle.overs.specs.declared.OverCount.{OverCount}
use Rattle.overs.specs.Overs.{Progress, end_of, same_end, none, length_at, longer, third_after, step_at, step, overs_from, after}
use Rattle.overs.proofs.Laws.{overs_append, after_append, quiet_step}
use Rattle.channel_overs.specs.inner.Passed.{Passed}

pub small_quotient : (a n : ℕ) → a / n ≤ a
small_quotient a n = div-le_self a n

-- ---- nothing

pub nothing_some : {A : Type 0} (o : Option A) → is_some o ≡ false → o ≡ None
nothing_some None h = refl
nothing_some (Some x) h = let z : ◌≡◌ {A = ℕ} 0 1 = cc in absurd (omega arith)

pub nothing_none : {A : Type 0} (o : Option A) → is_none o ≡ true → o ≡ None
nothing_none None h = refl
nothing_none (Some x) h = let z : ◌≡◌ {A = ℕ} 0 1 = cc in absurd (omega arith)

-- ---- three samples of which the third is at no end, where nothing is in progress before them

-- the first two give no over
two_steps : (y z : ℤ) → ((step none y).count ≡ 0) × ((step (step none y).next z).count ≡ 0)
unfolding step step_at length_at longer third_after
two_steps y z = go (end_of y) (end_of z)
  where
    no_count : (b : Bool) → ◌≡◌ {A = ℕ} (cond (eqb (cond b 1 0) 2) 1 0) 0
    no_count true = refl
    no_count false = refl

    go : (d e : Option End) → ((step_at none d).count ≡ 0) × ((step_at (step_at none d).next e).count ≡ 0)
    go None None = (refl, refl)
    go None (Some e) = (refl, refl)
    go (Some d) None = (refl, refl)
    go (Some d) (Some e) = (refl, no_count (same_end d e))

-- none of them is the third of an over, and nothing is in progress after them
module _ (p : Progress) (f : ℕ → ℤ) (a : ℕ) (start : p ≡ none) (third : end_of (f (a + 2)) ≡ None) where
  three_passed : overs_from p (tabulate f a 3) ≡ 0
  unfolding overs_from tabulate
  three_passed =
      let two = two_steps (f (a + 0)) (f (a + 1)) in
      rw (start, two.0, two.1, quiet_step (step (step none (f (a + 0))).next (f (a + 1))).next (f (a + 2)) third)

  three_after : after p (tabulate f a 3) ≡ none
  unfolding after tabulate
  three_after = ap (λ (o : OverCount). o.next) (quiet_step (step (step p (f (a + 0))).next (f (a + 1))).next (f (a + 2)) third)

module _ (s : ℕ → ℤ) (p : Progress) (a : ℕ) where
  pub passed_none : Passed s p a a
  unfolding overs_from tabulate
  passed_none =
      let e : a - a ≡ 0 = omega arith in
      record { on = omega arith; no_overs = rw e; nothing = λ l. absurd (omega arith) }

  module _ (e : ℕ) (so : Passed s p a e) (start : p ≡ none) (third : end_of (s (e + 2)) ≡ None) where
    -- nothing is in progress at e
    still : after p (tabulate s a (e - a)) ≡ none
    unfolding after tabulate
    still =
        ⊎_elim
        (λ some. so.nothing some)
        (λ same. let z : e - a ≡ 0 = omega arith in rw z start)
        (below_or a e)

    joined : tabulate s a (e + 3 - a) ≡ tabulate s a (e - a) ++ tabulate s e 3
    joined =
        let size : e + 3 - a ≡ e - a + 3 = omega (arith, so.on) in
        let place : a + (e - a) ≡ e = omega (arith, so.on) in
        rw size (tabulate_join s a (e - a) 3 ∙ ap (λ k. tabulate s a (e - a) ++ tabulate s k 3) place)

    pub passed_more : Passed s p a (e + 3)
    passed_more = record {
      on = omega (arith, so.on);
      no_overs = rw (joined, overs_append p (tabulate s a (e - a)) (tabulate s e 3), so.no_overs) (omega (arith, three_passed (after p (tabulate s a (e - a))) s e still third));
      nothing = λ _. rw (joined, after_append p (tabulate s a (e - a)) (tabulate s e 3)) (three_after (after p (tabulate s a (e - a))) s e still third);
    }
