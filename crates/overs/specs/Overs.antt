-- Document 02's overs: three samples in a row at one end of full scale, counted at the third.
use Rattle.std.specs.Prelude.{Option, Some, None, List, [], ◌∷◌, Bool, true, false, cond, ℕ, ◌+◌, ◌-◌, ◌*◌, ◌/◌, min, eqb, ltb, ℤ, pos, negsuc, length, get_or}
use Rattle.numbers.specs.Lists.{tabulate}
use Rattle.overs.specs.declared.End.{End}
use Rattle.overs.specs.declared.End.TheVariants.{High, Low}
use Rattle.overs.specs.declared.Standing.{Standing}
use Rattle.overs.specs.declared.OverCount.{OverCount}

-- ---- full scale

-- two whole numbers are the same
abbrev pub same_number : ℤ → ℤ → Bool
same_number (pos a) (pos b) = eqb a b
same_number (pos a) (negsuc b) = false
same_number (negsuc a) (pos b) = false
same_number (negsuc a) (negsuc b) = eqb a b

-- the sample stands at this end of full scale
unfoldable pub stands_at : End → ℤ → Bool
stands_at High z = same_number z (pos 8388607)
stands_at Low z = same_number z (negsuc 8388607)

-- the end that a sample stands at
unfoldable pub end_of : ℤ → Option End
end_of z = cond (stands_at High z) (Some High) (cond (stands_at Low z) (Some Low) None)

-- what is in progress
abbrev pub Progress : Type 0
Progress = Option Standing

-- nothing: the start
abbrev pub none : Progress
none = None

-- ---- a stretch from what is in progress before it: the samples before are not seen

-- two ends are the same
unfoldable pub same_end : End → End → Bool
same_end High High = true
same_end High Low = false
same_end Low High = false
same_end Low Low = true

-- how many samples in progress stand at this end
unfoldable pub length_at : Progress → End → ℕ
length_at None e = 0
length_at (Some q) e = cond (same_end q.end e) q.length 0

-- one sample longer, held at 3
unfoldable pub longer : ℕ → ℕ
longer n = min n 2 + 1

-- 1 where the sample after so many is the third
unfoldable pub third_after : ℕ → ℕ
third_after n = cond (eqb n 2) 1 0

-- a length over 3 counts as 3; 0 as nothing
unfoldable pub normal : Progress → Progress
normal None = none
normal (Some q) = cond (eqb q.length 0) none (Some (record { end = q.end; length = min q.length 3 }))

-- one sample more: at no end, at an end
unfoldable pub step_at : Progress → Option End → OverCount
step_at p None = record { count = 0; next = none }
step_at p (Some e) = record { count = third_after (length_at p e); next = Some (record { end = e; length = longer (length_at p e) }) }

unfoldable pub step : Progress → ℤ → OverCount
step p z = step_at p (end_of z)

-- overs of a stretch
unfoldable pub overs_from : Progress → List ℤ → ℕ
overs_from p [] = 0
overs_from p (z ∷ zs) = (step p z).count + overs_from (step p z).next zs

-- what is in progress after it
unfoldable pub after : Progress → List ℤ → Progress
after p [] = p
after p (z ∷ zs) = after (step p z).next zs

-- ---- interleaved items

-- how many of so many items are channel c's, of n: places c, c + n, … below the length
unfoldable pub channel_size : ℕ → ℕ → ℕ → ℕ
channel_size size n c = cond (ltb c n) (cond (ltb c size) ((size - 1 - c) / n + 1) 0) 0

-- channel c's items
unfoldable pub channel : List ℤ → ℕ → ℕ → List ℤ
channel items n c = tabulate (λ k. get_or items (k * n + c) (pos 0)) 0 (channel_size (length items) n c)

-- what `overs` answers
unfoldable pub overs_of : List ℤ → ℕ → ℕ → Progress → OverCount
overs_of items n c p = record { count = overs_from (normal p) (channel items n c); next = after (normal p) (channel items n c) }
