-- Statistics joined one after the other, from the first on.
use Rattle.std.specs.Prelude.{◌≡◌, List, [], ◌∷◌}
use Rattle.reference.specs.Statistics.{no_stats, joined_stats, all_joined}
use Rattle.reference.specs.declared.ConvertStats.{ConvertStats}

unfoldable pub joined_on : ConvertStats → List ConvertStats → ConvertStats
joined_on so_far [] = so_far
joined_on so_far (s ∷ rest) = joined_on (joined_stats so_far s) rest

-- it makes no difference from which end a list is joined. Proved in proofs/Ends
abbrev pub EitherEnd : Type 0
EitherEnd = (l : List ConvertStats) → joined_on no_stats l ≡ all_joined l
