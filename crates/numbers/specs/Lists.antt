-- Stretches of a function: as a list, summed, counted; and a property of a list's elements.
use Rattle.std.specs.Prelude.{List, [], ◌∷◌, ◌++◌, Bool, cond, ℕ, zero, suc, ◌+◌}

-- f a, …, f (a + n - 1)
unfoldable pub tabulate : {A : Type 0} → (ℕ → A) → ℕ → ℕ → List A
tabulate f a zero = []
tabulate f a (suc n) = tabulate f a n ++ (f (a + n) ∷ [])

-- f a + … + f (a + n - 1)
unfoldable pub total : (ℕ → ℕ) → ℕ → ℕ → ℕ
total f a zero = 0
total f a (suc n) = total f a n + f (a + n)

-- how many k in a, …, a + n - 1 pass the test
abbrev pub count : (ℕ → Bool) → ℕ → ℕ → ℕ
count p a n = total (λ k. cond (p k) 1 0) a n

-- every element has the property
abbrev pub Each {ℓ} : {A : Type 0} → (A → Type ℓ) → List A → Type ℓ
Each P [] = Unit {ℓ}
Each P (x ∷ xs) = P x × Each P xs
