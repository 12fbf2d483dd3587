-- A list is cut at the first of a byte in one way.
use Rattle.std.proofs.Common.{◌≡◌, refl, sym, ap, ◌∙◌, Bool, true, false, cond, true≢false, ◌≢◌, ⊎_elim, List, [], ◌∷◌, ◌++◌, ℕ, suc, ◌+◌, ◌-◌, ◌≤◌, ◌<◌}
use Rattle.std.proofs.Common.{add-one, arith, eq-eqb, ltb-false, eqb, ltb, length, get_or, take, drop, length-drop, take-append-drop, take_all, length-take-le}
use Rattle.std.proofs.Common.{get_or-take, drop-cons, Some, None, position}
use Rattle.numbers.proofs.Lists.{below_or}
use Rattle.std.specs.List.{position_or_len}
use Rattle.std.proofs.lemmas.List.Sums.{fails_before_first}
use Rattle.std.proofs.lemmas.Option.{none-some}
use Rattle.text.specs.inner.Lists.{Without}

is_false : {X : Type 0} (b : Bool) (x : X) → cond b (Some x) None ≡ None → b ≡ false
is_false true x e = absurd (none-some x (sym e))
is_false false x e = refl

module _ (byte : ℕ) where
  pub without : (t : List ℕ) → None ≡ position (λ b. eqb b byte) t → Without byte t
  without t e =
      let n = position_or_len (λ b. eqb b byte) t in
      let past : length t ≤ n = ltb-false n (length t) (is_false (ltb n (length t)) n (sym e)) in
      record { none = λ k h q. true≢false (sym (eq-eqb (get_or t k 0) byte q) ∙ fails_before_first (λ b. eqb b byte) t k 0 (omega arith)) }

  -- none of the first n is
  pub record Past (t : List ℕ) (n : ℕ) : Type 0 where
    pub none : (k : ℕ) → k < n → get_or t k 0 ≡ byte → ⊥

  pub past_none : (t : List ℕ) → Past t 0
  past_none t = record { none = λ k h q. omega arith }

  pub past_more : {t : List ℕ} {n : ℕ} → Past t n → get_or t n 0 ≢ byte → Past t (n + 1)
  past_more {t} {n} p e = record { none = λ k h q. ⊎_elim (λ l. p.none k l q) (λ l. let i : k ≡ n = omega arith in e (rw i at q)) (below_or k n) }

  pub past_all : {t : List ℕ} {n : ℕ} → Past t n → length t ≤ n → Without byte t
  past_all p h = record { none = λ k l q. p.none k (omega arith) q }

  -- what is in front of the first one, and after it
  pub cut_at : {t : List ℕ} {n : ℕ} → Past t n → n < length t → get_or t n 0 ≡ byte
      → Without byte (take n t) × (t ≡ take n t ++ (byte ∷ take (length t - (n + 1)) (drop (n + 1) t)))
  cut_at {t} {n} p h e =
      let front : length (take n t) ≡ n = length-take-le n t (omega arith) in
      let all : take (length t - (n + 1)) (drop (n + 1) t) ≡ drop (n + 1) t = take_all (length t - (n + 1)) (drop (n + 1) t) (omega (arith, length-drop (n + 1) t)) in (
        record { none = λ k l q. p.none k (omega arith) (sym (get_or-take n t k 0 (omega arith)) ∙ q) },
        sym (take-append-drop n t) ∙ rw (all, add-one, drop-cons t n 0 h, e) refl,
      )

  pub rest_without : (x : ℕ) (xs : List ℕ) → Without byte (x ∷ xs) → Without byte xs
  rest_without x xs p = record { none = λ k h q. p.none (suc k) (omega arith) q }

  pub uncut : (t v s : List ℕ) → Without byte t → t ≡ v ++ (byte ∷ s) → ⊥
  uncut [] [] s p e = omega (arith, ap length e)
  uncut [] (y ∷ v) s p e = omega (arith, ap length e)
  uncut (x ∷ t) [] s p e = p.none 0 (omega arith) (ap (λ (l : List ℕ). get_or l 0 0) e)
  uncut (x ∷ t) (y ∷ v) s p e = uncut t v s (rest_without x t p) (cc)

  pub cut : (w v r s : List ℕ) → Without byte w → Without byte v → w ++ (byte ∷ r) ≡ v ++ (byte ∷ s) → (w ≡ v) × (r ≡ s)
  cut [] [] r s p q e = (refl, cc)
  cut [] (y ∷ v) r s p q e = absurd (q.none 0 (omega arith) (sym (ap (λ (l : List ℕ). get_or l 0 0) e)))
  cut (x ∷ w) [] r s p q e = absurd (p.none 0 (omega arith) (ap (λ (l : List ℕ). get_or l 0 0) e))
  cut (x ∷ w) (y ∷ v) r s p q e = let c = cut w v r s (rest_without x w p) (rest_without y v q) (cc) in (cc, c.1)
