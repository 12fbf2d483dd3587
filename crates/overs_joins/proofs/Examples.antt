-- Worked cases of document 02's rule.
use Rattle.std.proofs.Common.{◌≡◌, refl, List, ◌∷◌, ◌++◌, ℕ, ℤ, pos, negsuc, get_or, replicate, Some}
use Rattle.numbers.specs.Lists.{total}
use Rattle.overs.specs.Overs.{end_of, stands_at, same_end, none, length_at, longer, third_after, normal, step_at, step, overs_from, after}
use Rattle.overs_joins.specs.Signal.{third_at, third, overs}
use Rattle.overs.specs.declared.End.TheVariants.{High, Low}

abbrev high : ℕ → List ℤ
high n = replicate n (pos 8388607)

abbrev low : ℕ → List ℤ
low n = replicate n (negsuc 8388607)

-- ---- signals: a list's samples, then 0

abbrev signal : List ℤ → ℕ → ℤ
signal zs n = get_or zs n (pos 0)

two : overs (signal (high 2)) 0 5 ≡ 0
unfolding overs total third third_at stands_at
two = refl

three : overs (signal (high 3)) 0 5 ≡ 1
unfolding overs total third third_at stands_at
three = refl

low_end : overs (signal (low 3)) 0 5 ≡ 1
unfolding overs total third third_at stands_at
low_end = refl

-- a longer run is counted at its third sample, and once
counted : (overs (signal (high 5)) 0 2 ≡ 0) × (overs (signal (high 5)) 2 1 ≡ 1) × (overs (signal (high 5)) 3 5 ≡ 0)
unfolding overs total third third_at stands_at
counted = (refl, refl, refl)

-- a change of end starts another
changed : overs (signal (high 3 ++ low 3)) 0 8 ≡ 2
unfolding overs total third third_at stands_at
changed = refl

mixed : overs (signal (high 2 ++ low 2)) 0 8 ≡ 0
unfolding overs total third third_at stands_at
mixed = refl

-- one short of full scale ends a run
near : overs (signal (high 2 ++ (pos 8388606 ∷ high 2))) 0 8 ≡ 0
unfolding overs total third third_at stands_at
near = refl

-- ---- stretches, from what is in progress before them

thousand : overs_from none (low 1000) ≡ 1
unfolding overs_from step step_at end_of stands_at same_end length_at longer third_after
thousand = refl

-- over a border: the third sample first in the next stretch, or last in this one
first : (overs_from none (high 2) ≡ 0) × (overs_from (after none (high 2)) (high 5) ≡ 1)
unfolding overs_from after step step_at end_of stands_at same_end length_at longer third_after
first = (refl, refl)

last : (overs_from none (low 3) ≡ 1) × (overs_from (after none (low 3)) (low 5) ≡ 0)
unfolding overs_from after step step_at end_of stands_at same_end length_at longer third_after
last = (refl, refl)

-- a state from outside: over 3 is 3, 0 is none
normals : (normal (Some (record { end = High; length = 9 })) ≡ Some (record { end = High; length = 3 }))
    × (normal (Some (record { end = Low; length = 0 })) ≡ none) × (normal none ≡ none)
unfolding normal
normals = (refl, refl, refl)
