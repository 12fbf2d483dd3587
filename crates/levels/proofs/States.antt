-- What is in progress after a frame, channel by channel.
use Rattle.std.proofs.Common.{◌≡◌, ℕ, ◌+◌, ◌<◌, Bool, true, false, cond, eqb, ltb, List, get_or, set, replicate, ℤ, refl, ◌∙◌, ⊎_elim, zero-add, arith}
use Rattle.std.proofs.Common.{length-set, get_or-set_other, get_or-set_same, le-ltb, lt-ltb, eqb-true}
use borrow.Author.Tests.{eqb-false}
use Rattle.numbers.specs.Lists.{tabulate}
use Rattle.numbers.proofs.Lists.{get_d_tabulate, length_tabulate, is_tabulate, below_or}
use Rattle.overs.specs.Overs.{Progress, none, overs_of}
use Rattle.levels.specs.Levels.{states_after}

-- the states after n channels, and one more
module _ (items : List ℤ) (ch : ℕ) (states : List Progress) where
  abbrev pub next_of : ℕ → Progress
  next_of c = (overs_of items ch c (get_or states c none)).next

  pub states_none : replicate 6 none ≡ states_after items ch 0 states
  unfolding states_after tabulate
  states_none = refl

  pub states_more : (n : ℕ) {p : Progress} → n < 6 → p ≡ next_of n → set (states_after items ch n states) n p ≡ states_after items ch (n + 1) states
  unfolding states_after
  states_more n {p} l e = is_tabulate (λ c. cond (ltb c (n + 1)) (next_of c) none) 0 6 none (set so_far n p) (length-set so_far n p ∙ length_tabulate _ 0 6) (λ i m. at i m (eqb i n) refl)
    where
      so_far : List Progress
      so_far = tabulate (λ c. cond (ltb c n) (next_of c) none) 0 6

      kept : (i : ℕ) → i < 6 → (i ≡ n → ⊥) → get_or (set so_far n p) i none ≡ cond (ltb i n) (next_of i) none
      kept i m h = get_or-set_other so_far n i p none h ∙ get_d_tabulate _ 0 6 i none m ∙ rw zero-add

      at : (i : ℕ) → i < 6 → (b : Bool) → eqb i n ≡ b → get_or (set so_far n p) i none ≡ cond (ltb (0 + i) (n + 1)) (next_of (0 + i)) none
      at i m true h =
          let j : i ≡ n = eqb-true i n h in
          rw (zero-add i, lt-ltb i (n + 1) (omega arith), j) (get_or-set_same so_far n p none (omega (arith, length_tabulate (λ c. cond (ltb c n) (next_of c) none) 0 6)) ∙ e)
      at i m false h =
          let o = eqb-false i n h in
          kept i m o
          ∙ rw zero-add (⊎_elim
          (λ less. rw (lt-ltb i n less, lt-ltb i (n + 1) (omega arith)))
          (λ more. rw (le-ltb i n more, le-ltb i (n + 1) (⊎_elim (λ less. absurd (o (omega arith))) (λ past. past) (below_or i (n + 1)))))
          (below_or i n))
