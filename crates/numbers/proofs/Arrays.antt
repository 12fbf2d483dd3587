-- What an array made by a function of the place holds.
use Rattle.std.proofs.Common.{ap, ◌≡◌, sym, subst, ◌∙◌, List, ℕ, zero, suc, ◌+◌, ◌≤◌, ◌<◌, zero-add, arith, get_or}
use denote.Param.Members.{Mut, Called}
use Rattle.std.specs.Array.{IsFromFnResultFrom, IsFromFnResult}
use Rattle.numbers.specs.Lists.{tabulate}
use Rattle.numbers.proofs.Lists.{is_tabulate}

module _ {F A : Type 0} (g : Mut F (ℕ × Unit {0}) A) (f : F) (made : List A) (h : ℕ → A) where
  -- each call leaves the closure as it was, and gives what h gives
  abbrev Gives : ℕ → ℕ → Type 0
  Gives i n = (k : ℕ) (y : A) (q : F) → i ≤ k → k < i + n → Called g f (k, tt) y q → (q ≡ f) × (y ≡ h k)

  from_place : (i n : ℕ) → IsFromFnResultFrom g f made i n → Gives i n → (k : ℕ) (d : A) → k < n → get_or made (i + k) d ≡ h (i + k)
  from_place i zero r gives k d l = absurd (omega arith)
  from_place i (suc n) r gives zero d l =
      let e : i + 0 ≡ i = omega arith in
      rw e (r.2.1 d ∙ (gives i r.1 r.0 (omega arith) (omega arith) r.3).1)
  from_place i (suc n) r gives (suc k) d l =
      let e : i + suc k ≡ i + 1 + k = omega arith in
      let same = (gives i r.1 r.0 (omega arith) (omega arith) r.3).0 in
      rw e (from_place (i + 1) n (subst (λ p. IsFromFnResultFrom g p made (i + 1) n) same r.4) (λ j y q a b c. gives j y q (omega arith) (omega arith) c) k d (omega arith))

  pub made_array : (n : ℕ) (d : A) → IsFromFnResult g f made n → ((k : ℕ) (y : A) (q : F) → k < n → Called g f (k, tt) y q → (q ≡ f) × (y ≡ h k)) → made ≡ tabulate h 0 n
  made_array n d r gives =
      is_tabulate h 0 n d made r.long
      (λ k l. ap (λ j. get_or made j d) (sym (zero-add k)) ∙ from_place 0 n r.each (λ j y q a b c. gives j y q (omega arith) c) k d l)
