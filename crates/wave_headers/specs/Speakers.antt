-- The loudspeakers of a DSF file's channel types.
use Rattle.std.specs.Prelude.{◌≡◌, List, [], ◌∷◌, Bool, true, ◌&&◌, cond, ℕ, eqb, ltb, sum}

-- a loudspeaker's number in the mask
abbrev pub front_left : ℕ
front_left = 1

abbrev pub front_right : ℕ
front_right = 2

abbrev pub centre : ℕ
centre = 4

abbrev pub low_frequency : ℕ
low_frequency = 8

abbrev pub back_left : ℕ
back_left = 16

abbrev pub back_right : ℕ
back_right = 32

-- those of types 1 to 7, in the order of the channels; none of another number
unfoldable pub loudspeakers : ℕ → List ℕ
loudspeakers type =
    cond (eqb type 1) (centre ∷ [])
    (cond (eqb type 2) (front_left ∷ front_right ∷ [])
    (cond (eqb type 3) (front_left ∷ front_right ∷ centre ∷ [])
    (cond (eqb type 4) (front_left ∷ front_right ∷ back_left ∷ back_right ∷ [])
    (cond (eqb type 5) (front_left ∷ front_right ∷ centre ∷ low_frequency ∷ [])
    (cond (eqb type 6) (front_left ∷ front_right ∷ centre ∷ back_left ∷ back_right ∷ [])
    (cond (eqb type 7) (front_left ∷ front_right ∷ centre ∷ low_frequency ∷ back_left ∷ back_right ∷ [])
    []))))))

unfoldable pub mask : ℕ → ℕ
mask type = sum (loudspeakers type)

-- each number is greater than the one before
unfoldable pub rising : List ℕ → Bool
rising [] = true
rising (x ∷ []) = true
rising (x ∷ y ∷ l) = ltb x y && rising (y ∷ l)

-- so a file's channels stand in the order of their loudspeakers' bits, as WAVE_FORMAT_EXTENSIBLE has them. Proved in
-- proofs/Choosing, `in_mask_order`
abbrev pub InMaskOrder : Type 0
InMaskOrder = (type : ℕ) → rising (loudspeakers type) ≡ true
