-- `numbers_behind` by one byte more, and at the end.
use Rattle.std.proofs.Common.{◌≡◌, refl, ap, ◌∙◌, Some, None, List, [], ◌∷◌, ℕ, ◌+◌, ◌*◌, ◌%◌, ◌^◌, ◌<◌, ◌≤◌, length, get_or, drop}
use Rattle.std.proofs.lemmas.List.{at_drop_more, drop_all}
use Rattle.test_support.specs.inner.Answers.{digit, by_digit, numbers_behind}

module _ (n : ℕ) (text : List ℕ) (k : ℕ) where
  one_more : k < length text
      → numbers_behind n (drop k text) ≡ by_digit (digit (get_or text k 0)) (λ d. numbers_behind (n % 2 ^ 60 * 16 + d) (drop (k + 1) text)) (n ∷ numbers_behind 0 (drop (k + 1) text))
  unfolding numbers_behind
  one_more l = at_drop_more (numbers_behind n) text k 0 l

  pub digit_more : (d : ℕ) → k < length text → digit (get_or text k 0) ≡ Some d
      → numbers_behind n (drop k text) ≡ numbers_behind (n % 2 ^ 60 * 16 + d) (drop (k + 1) text)
  digit_more d l e = one_more l ∙ ap (λ o. by_digit o (λ d. numbers_behind (n % 2 ^ 60 * 16 + d) (drop (k + 1) text)) (n ∷ numbers_behind 0 (drop (k + 1) text))) e

  pub number_more : k < length text → digit (get_or text k 0) ≡ None
      → numbers_behind n (drop k text) ≡ n ∷ numbers_behind 0 (drop (k + 1) text)
  number_more l e = one_more l ∙ ap (λ o. by_digit o (λ d. numbers_behind (n % 2 ^ 60 * 16 + d) (drop (k + 1) text)) (n ∷ numbers_behind 0 (drop (k + 1) text))) e

  pub none_left : length text ≤ k → numbers_behind n (drop k text) ≡ []
  unfolding numbers_behind
  none_left l = rw (drop_all k text l) refl
