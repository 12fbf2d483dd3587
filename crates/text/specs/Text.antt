-- Text as ASCII codes: words, whole numbers in decimal, and text put into a list.
use Rattle.std.specs.Prelude.{◌≡◌, List, [], ◌∷◌, ◌++◌, cond, ℕ, zero, suc, ◌+◌, ◌/◌, ◌%◌, ltb, ℤ, pos, negsuc, length, take, drop}
use Prim.Native.Char.{code}
use Prim.Native.String.{String, [] as no-characters, ◌∷◌ as ◌then◌}

-- the codes of a text's characters
unfoldable pub text : String → List ℕ
text no-characters = []
text (c then s) = code c ∷ text s

-- texts end to end
unfoldable pub joined : List (List ℕ) → List ℕ
joined [] = []
joined (t ∷ ts) = t ++ joined ts

-- texts end to end, and a newline: a line
unfoldable pub printed : List (List ℕ) → List ℕ
printed ts = joined ts ++ (10 ∷ [])

-- the last digits of n, at most k of them, with no needless zeros
unfoldable pub numeral : ℕ → ℕ → List ℕ
numeral zero n = []
numeral (suc k) n = cond (ltb n 10) ((48 + n) ∷ []) (numeral k (n / 10) ++ ((48 + n % 10) ∷ []))

-- n in decimal: n has at most n + 1 digits
unfoldable pub decimal : ℕ → List ℕ
decimal n = numeral (suc n) n

-- a minus sign below 0; so there is no -0
unfoldable pub signed_decimal : ℤ → List ℕ
signed_decimal (pos n) = decimal n
signed_decimal (negsuc n) = 45 ∷ decimal (suc n)

-- a list with a text put into it from a place on
unfoldable pub with_text : List ℕ → ℕ → List ℕ → List ℕ
with_text l at t = take at l ++ (t ++ drop (at + length t) l)

-- what a function that prints promises: it puts the text from a place on, keeps all else, and answers the place after
-- it
pub record Printed (t old : List ℕ) (at : ℕ) (new : List ℕ) (next : ℕ) : Type 0 where
  pub written : new ≡ with_text old at t
  pub after : next ≡ at + length t
