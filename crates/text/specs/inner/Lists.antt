-- A text cut at the first of a byte.
use Rattle.std.specs.Prelude.{◌≡◌, List, ◌∷◌, ◌++◌, ℕ, ◌<◌, Option, length, get_or, MatchOption}
use denote.Ref.{Bor}

-- no byte of a text is this one
pub record Without (byte : ℕ) (t : List ℕ) : Type 0 where
  pub none : (k : ℕ) → k < length t → get_or t k 0 ≡ byte → ⊥

-- a text's part in front of the first of a byte, and the part after it; nothing where the text has none
abbrev pub SplitOnce : ℕ → List ℕ → Option (Bor (List ℕ) × Bor (List ℕ)) → Type 0
SplitOnce byte t r = MatchOption r (Without byte t) (λ p. Without byte p.0.now × (t ≡ p.0.now ++ (byte ∷ p.1.now)))
