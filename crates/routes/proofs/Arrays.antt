-- Parts of arrays: filled, and moved to the front.
use Rattle.std.proofs.Common.{◌≡◌, sym, ◌∙◌, ap, ⊎_elim, List, ◌++◌, ℕ, ◌+◌, ◌-◌, ◌≤◌, ◌<◌, arith, ℤ, pos, length, get_or, take, drop, length-drop}
use Rattle.std.proofs.Common.{length-take-le, get_or-take, get_or-append-add}
use lib.ListN.{get_or-append}
use Rattle.numbers.specs.inner.Lists.{Held}
use Rattle.numbers.proofs.Lists.{below_or}

pub part_length : {A : Type 0} (a e : ℕ) (l : List A) → e ≤ length l → length (take (e - a) (drop a l)) ≡ e - a
part_length a e l h = length-take-le (e - a) (drop a l) (omega (arith, length-drop a l))

module _ {S : ℕ → ℤ} {a : ℕ} where
  -- k places from place m on are filled
  pub put_held : {n i : ℕ} (m k : ℕ) (s new post : List ℤ) → m ≤ length s → Held (pos 0) S a m s → Held (pos 0) S i n new → i ≡ a + m → k ≤ n → k ≤ length new
      → Held (pos 0) S a (m + k) (take m s ++ (new ++ post))
  put_held m k s new post room old more e l long = record { is = λ j q. ⊎_elim (λ b. first j b) (λ b. second j q b) (below_or j m) }
    where
      front : length (take m s) ≡ m
      front = length-take-le m s room

      first : (j : ℕ) → j < m → get_or (take m s ++ (new ++ post)) j (pos 0) ≡ S (a + j)
      first j b = get_or-append (take m s) (new ++ post) (pos 0) j (omega (arith, front)) ∙ get_or-take m s j (pos 0) b ∙ old.is j b

      second : (j : ℕ) → j < m + k → m ≤ j → get_or (take m s ++ (new ++ post)) j (pos 0) ≡ S (a + j)
      second j q b =
          let i : j ≡ length (take m s) + (j - m) = omega (arith, front) in
          ap (λ z. get_or (take m s ++ (new ++ post)) z (pos 0)) i
          ∙ get_or-append-add (take m s) (new ++ post) (j - m) (pos 0)
          ∙ get_or-append new post (pos 0) (j - m) (omega arith)
          ∙ more.is (j - m) (omega arith)
          ∙ ap S (omega arith)

  -- a part of what is held
  pub part_held : {n : ℕ} {s : List ℤ} (p e : ℕ) → p ≤ e → e ≤ n → Held (pos 0) S a n s → Held (pos 0) S (a + p) (e - p) (take (e - p) (drop p s))
  part_held {n} {s} p e l h held =
      record { is = λ j q. get_or-take (e - p) (drop p s) j (pos 0) q ∙ lib.Seq.get_or-drop p s j (pos 0) ∙ held.is (p + j) (omega arith) ∙ ap S (omega arith) }

  -- the values from place `by` on, moved to the front
  pub shifted : {n : ℕ} {s s' : List ℤ} (by m : ℕ) → by + m ≤ n → ((k : ℕ) → k < m → get_or s' k (pos 0) ≡ get_or s (k + by) (pos 0))
      → Held (pos 0) S a n s → Held (pos 0) S (a + by) m s'
  shifted by m l moved held = record { is = λ k q. moved k q ∙ held.is (k + by) (omega arith) ∙ ap S (omega arith) }

-- the same place by another name
pub held_at : {A : Type 0} {d : A} {f : ℕ → A} {a n : ℕ} {l : List A} (b : ℕ) → a ≡ b → Held d f a n l → Held d f b n l
held_at b e held = rw (sym e) held
