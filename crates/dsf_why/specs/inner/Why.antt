-- Fields that are read as one number.
use Rattle.std.specs.Prelude.{List, [], ◌∷◌, Bool, true, ◌&&◌, leb, length}
use Rattle.dsf.specs.Dsf.{Field}
use Rattle.dsf_why.specs.Why.{first_value}

-- a field that is read as one number
abbrev pub readable : Field → Bool
readable f = leb f.start 92 && (leb 1 (length f.values) && leb (length (first_value f)) 8)

abbrev pub all_readable : List Field → Bool
all_readable [] = true
all_readable (f ∷ fs) = readable f && all_readable fs
