-- Words compared with a name.
use Rattle.std.proofs.Common.{◌≡◌, sym, ◌∙◌, Bool, true, false, true≢false, List, [], ◌∷◌, ℕ, length, take}
use Rattle.std.specs.Str.{bytes_eq}
use Rattle.std.proofs.lemmas.Slice.Eq.{bytes_eq-Decides}

pub word_is : {w v : List ℕ} {b : Bool} → b ≡ true → b ≡ bytes_eq w v → w ≡ v
word_is {w} {v} t e = (bytes_eq-Decides w v).0 (sym e ∙ t)

-- a text without a minus sign in front
pub no_sign : {p t : List ℕ} → p ≡ 45 ∷ [] → bytes_eq (take (length p) t) p ≡ false → (rest : List ℕ) → t ≡ 45 ∷ rest → ⊥
no_sign e f rest q = let g = rw (e, q) at f in true≢false g
