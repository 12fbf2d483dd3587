-- Why a DSF file is refused: the first wrong field.
use Rattle.std.specs.Prelude.{Option, Some, None, unwrap_or, option_map, List, [], ◌∷◌, cond, not, ℕ, ◌+◌, ◌%◌, min, eqb, ltb, length, get_or}
use Rattle.dsf.specs.Dsf.{Field, layout, frequency, fits, stated_length, sample_count, data_size, needed}
use Rattle.text.specs.Bytes.{number_of, number_at}
use Rattle.dsf_why.specs.declared.Why.{Why}

-- where it stands in the file, the number that stands there, lowest byte first, and the number that is asked
abbrev pub why : ℕ → ℕ → ℕ → Why
why place value asked = record { place = place; value = value; asked = asked }

-- the first of some fields of which a file has no value, as far as it goes
unfoldable pub first_unfit : List ℕ → List Field → Option Field
first_unfit file [] = None
first_unfit file (f ∷ fs) = cond (fits file f) (first_unfit file fs) (Some f)

-- the first value that a field may have is asked
abbrev pub first_value : Field → List ℕ
first_value f = get_or f.values 0 []

abbrev pub of_field : List ℕ → Field → Why
of_field head f = why f.start (number_at head f.start (length (first_value f))) (number_of (first_value f))

-- a file of n bytes that is laid out: 10, the frequency and whole bytes of samples; 11, the length that it states, the
-- data chunk's size, and that it does not end before its data do. Zeros where nothing is wrong
unfoldable pub why_laid_out : List ℕ → ℕ → Why
why_laid_out head n =
    cond (not (fits head frequency)) (why 56 (number_at head 56 4) 2822400)
    (cond (not (eqb (sample_count head % 8) 0)) (why 64 (sample_count head) 8)
    (cond (not (eqb (stated_length head) n)) (why 12 (stated_length head) n)
    (cond (not (eqb (data_size head) (12 + needed head))) (why 84 (data_size head) (12 + needed head))
    (cond (ltb n (92 + needed head)) (why 92 n (92 + needed head)) (why 0 0 0)))))

-- a file of n bytes, by its first bytes: before these 9, that there are 92, and the layout
unfoldable pub why_of : List ℕ → ℕ → Why
why_of head n =
    let known = min n (length head) in
    cond (ltb known 92) (why 92 known 92) (unwrap_or (option_map (of_field head) (first_unfit head layout)) (why_laid_out head n))
