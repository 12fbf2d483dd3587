-- Document 02's overs of a channel's signal: three samples in a row at one end of full scale, counted at the third.
use Rattle.std.specs.Prelude.{Option, Some, None, Bool, cond, not, ◌&&◌, ◌||◌, ℕ, zero, suc, ◌-◌, ltb, ℤ}
use Rattle.numbers.specs.Lists.{count}
use Rattle.overs.specs.declared.End.{End}
use Rattle.overs.specs.declared.End.TheVariants.{High, Low}
use Rattle.overs.specs.Overs.{stands_at, end_of, Progress, none}

-- so many samples at an end; at no end, nothing
unfoldable pub standing : Option End → (End → ℕ) → Progress
standing None n = none
standing (Some e) n = Some (record { end = e; length = n e })

-- ---- a channel's signal: its sample n is `s n`

module _ (s : ℕ → ℤ) where
  -- samples n, n - 1 and n - 2 stand at the end, and n - 3 is not there or does not
  unfoldable pub third_at : End → ℕ → Bool
  third_at e n = ltb 1 n && (stands_at e (s n) && (stands_at e (s (n - 1)) && (stands_at e (s (n - 2)) && not (ltb 2 n && stands_at e (s (n - 3))))))

  -- sample n is the third of an over
  unfoldable pub third : ℕ → Bool
  third n = third_at High n || third_at Low n

  -- overs of samples a, …, a + n - 1
  unfoldable pub overs : ℕ → ℕ → ℕ
  overs a n = count third a n

  -- how many samples just before n stand at the end, held at m
  unfoldable pub just_before : End → ℕ → ℕ → ℕ
  just_before e n zero = 0
  just_before e zero (suc m) = 0
  just_before e (suc n) (suc m) = cond (stands_at e (s n)) (suc (just_before e n m)) 0

  -- what is in progress at place n: the end of sample n - 1, and how many samples of it stand just before n, held at 3
  unfoldable pub in_progress : ℕ → Progress
  in_progress zero = none
  in_progress (suc n) = standing (end_of (s n)) (λ e. just_before e (suc n) 3)
