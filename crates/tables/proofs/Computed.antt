-- A list that is f 0, f 1, .. has f k at place k. That a literal table is `computed` so is for antt to compute.
use Rattle.std.proofs.Common.{◌≡◌, ◌∙◌, ap, sym, List, [], ◌∷◌, ℕ, zero, suc, ◌+◌, ◌<◌, add-zero, zero-add, add-suc, suc-add, le_of_suc-le-suc, not-suc-le-zero}
use Rattle.std.proofs.Common.{get_or}

module _ {A : Type 0} (f : ℕ → A) (d : A) where
  -- f i, .., n of them
  abbrev pub computed : ℕ → ℕ → List A
  computed zero i = []
  computed (suc n) i = f i ∷ computed n (suc i)

  from : (n i k : ℕ) → k < n → get_or (computed n i) k d ≡ f (i + k)
  from zero i k h = absurd (not-suc-le-zero h)
  from (suc n) i zero h = ap f (sym (add-zero i))
  from (suc n) i (suc k) h = from n (suc i) k (le_of_suc-le-suc h) ∙ ap f (suc-add i k ∙ sym (add-suc i k))

  pub at : (n k : ℕ) → k < n → get_or (computed n 0) k d ≡ f k
  at n k h = from n 0 k h ∙ ap f (zero-add k)
