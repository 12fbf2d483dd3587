-- A frame of an input tells what the whole input, as one run, has; and what is in progress after it is told by its
-- samples alone, as a frame has three and more of each channel.
use Rattle.std.proofs.Common.{◌≡◌, ℕ, suc, ◌+◌, ◌-◌, ◌*◌, ◌≤◌, Bool, true, false, cond, [], ◌∷◌, get_or, ℤ, refl, ap, sym, ◌∙◌, zero-add, arith, lt-ltb, Option}
use Rattle.std.proofs.Common.{Some, None}
use Rattle.numbers.specs.Lists.{tabulate}
use Rattle.numbers.proofs.Lists.{get_d_tabulate, tabulate_join}
use Rattle.reference.specs.Output.{samples_per_frame, sample, samples}
use Rattle.reference.specs.declared.PcmRate.{PcmRate}
use Rattle.reference.specs.declared.PcmRate.TheVariants.{Hz88200, Hz176400, Hz352800}
use Rattle.overs.specs.declared.End.{End}
use Rattle.overs.specs.Overs.{Progress, none, end_of, same_end, length_at, longer, normal, step_at, step, after, channel, overs_of}
use Rattle.overs.proofs.Laws.{after_append}
use Rattle.overs_joins.specs.Signal.{in_progress}
use Rattle.overs_joins.proofs.Signal.{after_is}
use Rattle.levels.specs.Levels.{whole_input, states_after, piece_states}
use Rattle.levels.proofs.Whole.{frame_channel, lines_same, states_same}
use Rattle.c_levels.specs.Theorems.{InOrder, OneEarly}

pub in_order : InOrder
in_order conv input f piece few here states before =
    (lines_same conv input f piece here states before f, states_same conv input f piece here states before few)

-- ---- three samples

-- a length three samples on is the same from every length
three : (a b : Bool) (m n : ℕ) → longer (cond a (longer (cond b (longer m) 0)) 0) ≡ longer (cond a (longer (cond b (longer n) 0)) 0)
unfolding longer
three true true m n = omega arith
three true false m n = refl
three false b m n = refl

module _ (p q : Progress) where
  ends_three : (x y z : Option End) → (step_at (step_at (step_at p x).next y).next z).next ≡ (step_at (step_at (step_at q x).next y).next z).next
  unfolding step_at length_at
  ends_three x y None = refl
  ends_three x None (Some e) = refl
  ends_three None (Some d) (Some e) = refl
  ends_three (Some b) (Some d) (Some e) = ap (λ n. Some (record { end = e; length = n })) (three (same_end d e) (same_end b d) (length_at p b) (length_at q b))

  after_three : (x y z : ℤ) → after p (x ∷ y ∷ z ∷ []) ≡ after q (x ∷ y ∷ z ∷ [])
  unfolding after step
  after_three x y z = ends_three (end_of x) (end_of y) (end_of z)

-- so after three samples and more what is in progress is told by them
last_three : (p q : Progress) (s : ℕ → ℤ) (b : ℕ) → after p (tabulate s b 3) ≡ after q (tabulate s b 3)
unfolding tabulate
last_three p q s b = after_three p q (s (b + 0)) (s (b + 1)) (s (b + 2))

any_more : (s : ℕ → ℤ) (a m : ℕ) (p : Progress) → after p (tabulate s a (m + 3)) ≡ in_progress s (a + (m + 3))
any_more s a m p =
    let q = in_progress s a in
    let cut : (x : Progress) → after x (tabulate s a (m + 3)) ≡ after (after x (tabulate s a m)) (tabulate s (a + m) 3) =
    λ x. ap (after x) (tabulate_join s a m 3) ∙ after_append x (tabulate s a m) (tabulate s (a + m) 3) in
    cut p ∙ last_three (after p (tabulate s a m)) (after q (tabulate s a m)) s (a + m) ∙ sym (cut q) ∙ after_is s a (m + 3)

any_before : (s : ℕ → ℤ) (a n : ℕ) (p : Progress) → 3 ≤ n → after p (tabulate s a n) ≡ in_progress s (a + n)
any_before s a n p l = let e : n - 3 + 3 ≡ n = omega arith in rw e at (any_more s a (n - 3) p)

-- a frame has as many
enough : (rate : PcmRate) → 3 ≤ samples_per_frame rate
unfolding samples_per_frame
enough Hz88200 = omega arith
enough Hz176400 = omega arith
enough Hz352800 = omega arith

pub one_early : OneEarly
unfolding piece_states states_after overs_of
one_early conv input f piece few here states =
    let per = samples_per_frame conv.rate in
    record {
      held = λ c l.
          let whole = sample conv (whole_input conv.channels input) c in
          let place : f * per + per ≡ suc f * per = omega arith in
          let end : after (normal (get_or states c none)) (channel (samples conv piece) conv.channels c) ≡ in_progress whole (suc f * per) =
          ap (after (normal (get_or states c none))) (frame_channel conv input f piece here c l) ∙ any_before whole (f * per) per _ (enough conv.rate) ∙ ap (in_progress whole) place in
          get_d_tabulate _ 0 6 c none (omega arith) ∙ rw (zero-add c, lt-ltb c conv.channels l) end;
    }
