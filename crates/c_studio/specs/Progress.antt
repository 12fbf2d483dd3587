-- What is in progress at full scale, and overs, as numbers.
use Rattle.std.specs.Prelude.{Some, None, List, [], ◌∷◌, Bool, cond, ℕ, eqb, ltb}
use Rattle.overs.specs.declared.End.{End}
use Rattle.overs.specs.declared.End.TheVariants.{High, Low}
use Rattle.overs.specs.declared.OverCount.{OverCount}
use Rattle.overs.specs.Overs.{Progress}

-- the number of an end, and of none
abbrev pub which : End → ℕ
which High = 1
which Low = 2

abbrev pub end_number : Progress → ℕ
end_number None = 0
end_number (Some s) = which s.end

abbrev pub standing_length : Progress → ℕ
standing_length None = 0
standing_length (Some s) = s.length

abbrev pub known_end : ℕ → Bool
known_end n = ltb n 3

-- what is in progress, by its end's number and its length
unfoldable pub progress_of : ℕ → ℕ → Progress
progress_of end length =
    cond (eqb end 0) None (cond (eqb end 1) (Some (record { end = High; length = length })) (Some (record { end = Low; length = length })))

-- overs, and what is in progress after them: its end's number and its length
abbrev pub over_numbers : OverCount → List ℕ
over_numbers o = o.count ∷ end_number o.next ∷ standing_length o.next ∷ []
