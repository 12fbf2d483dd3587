-- A call that is understood, and one that is not.
use Rattle.std.proofs.Common.{◌≡◌, refl, sym, ◌∙◌, Bool, true, false, true≢false, ◌&&◌, ℕ}
use Rattle.codes.specs.Calls.{CCall}

pub done_so : {b : Bool} {answer : ℕ} {Kept Done : Type 0} → b ≡ true → Done → CCall b answer Kept Done
done_so e d = record { unclear = λ f. absurd (true≢false (sym e ∙ f)); done = λ f. d }

pub turned_away : {b : Bool} {Kept Done : Type 0} → b ≡ false → Kept → CCall b 255 Kept Done
turned_away e k = record { unclear = λ f. (refl, k); done = λ f. absurd (true≢false (sym f ∙ e)) }

-- one of two is unknown
pub not_left : (a b : Bool) → a ≡ false → (a && b) ≡ false
not_left a b h = rw h refl

pub not_right : (a b : Bool) → b ≡ false → (a && b) ≡ false
not_right true b h = h
not_right false b h = refl

pub both_hold : (a b : Bool) → a ≡ true → b ≡ true → (a && b) ≡ true
both_hold a b h k = rw (h, k) refl
