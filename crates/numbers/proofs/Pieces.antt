-- A piece of a list written anew.
use Rattle.std.proofs.Common.{◌≡◌, ◌∙◌, List, ⊎_elim, ℕ, ◌+◌, ◌-◌, ◌≤◌, ◌<◌, arith, length, get_or, take, length-take-le, rules}
use borrow.Rule.Slice.PartMut.{put_mid}
use Rattle.std.proofs.lemmas.Slice.{overwrites}
use Rattle.std.proofs.lemmas.List.{places}
use Rattle.numbers.specs.inner.Lists.{Written}
use Rattle.numbers.proofs.Lists.{below_or}

-- k places from `at` on hold `part`
module _ {A : Type 0} (at k : ℕ) (old part : List A) (fits : at + k ≤ length old) (size : length part ≡ k) where
  front : length (take at old) ≡ at
  front = length-take-le at old (omega arith)

  pub long_mid : length (put_mid at k old part) ≡ length old
  long_mid = search (rules, overwrites, front, size)

  pub written_piece : (d : A) (f : ℕ → A) → ((i : ℕ) → i < k → get_or part i d ≡ f i) → Written d (λ i. at + i) f k old (put_mid at k old part)
  written_piece d f h =
      record {
        same = long_mid;
        done = λ i l. search (rules, places, front, size) ∙ h i l;
        kept = λ j away. ⊎_elim (λ b. search (rules, places, front))
            (λ b. ⊎_elim (λ l. absurd (away (j - at) (omega arith) (omega arith))) (λ l. search (rules, places, front, size)) (below_or j (at + k)))
            (below_or j at);
      }
