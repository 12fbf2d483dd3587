-- What the lanes hold, step by step.
use Rattle.std.proofs.Common.{◌≡◌, refl, sym, ◌∙◌, ap, List, ℕ, ◌+◌, ◌≤◌, arith, ℤ, pos, nat_abs, ◌+ℤ◌}
use lib.IntN.{+ℤ_assoc, +ℤ_idr}
use Rattle.numbers.specs.Sums.{at0}
use Rattle.numbers.proofs.Integers.{abs_add}
use Rattle.numbers.specs.inner.Lists.{Written}
use Rattle.numbers.proofs.Lists.{written_then}
use Rattle.lanes.specs.inner.Lanes.{Added, Lanes}

-- what each place gains is added to what it held
pub gained_then : (g : ℕ → ℤ) {i k L : ℕ} {old mid new : List ℤ} → Written (pos 0) (λ n. n) (λ n. at0 old n +ℤ g n) i old mid
    → Written (pos 0) (λ l. i + l) (λ l. at0 mid (i + l) +ℤ g (i + l)) L mid new → i + L ≡ k → Written (pos 0) (λ n. n) (λ n. at0 old n +ℤ g n) k old new
gained_then g {i} u w e =
    rw e at (written_then u w (λ l m. refl) (λ j l m n. omega arith) (λ l m. ap (λ (z : ℤ). z +ℤ g (i + l)) (u.kept (i + l) (λ j n. omega arith))))

pub added_none : {L : ℕ} {g : ℕ → ℤ} (a : List ℤ) → ((l : ℕ) → g l ≡ pos 0) → Added L g a a
added_none {g = g} a e = record { is = λ l n. sym (ap (λ (z : ℤ). at0 a l +ℤ z) (e l) ∙ +ℤ_idr (at0 a l)) }

pub added_then : {L : ℕ} {g k m : ℕ → ℤ} {a b c : List ℤ} → Added L g a b → Added L k b c → ((l : ℕ) → g l +ℤ k l ≡ m l) → Added L m a c
added_then {g = g} {k = k} {m = m} {a = a} p q e =
    record { is = λ l n. q.is l n ∙ ap (λ (z : ℤ). z +ℤ k l) (p.is l n) ∙ +ℤ_assoc (at0 a l) (g l) (k l) ∙ ap (λ (z : ℤ). at0 a l +ℤ z) (e l) }

pub lanes_then : {L : ℕ} {g : ℕ → ℤ} {a b : List ℤ} {A : ℕ} (G B : ℕ) → Added L g a b → Lanes L A a → ((l : ℕ) → nat_abs (g l) ≤ G) → A + G ≤ B → Lanes L B b
lanes_then {g = g} {a = a} G B p s e m = record { size = λ l n. rw (p.is l n) (omega (arith, abs_add (at0 a l) (g l), s.size l n, e l)) }
