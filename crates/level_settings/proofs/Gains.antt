-- Laws of `DecibelsRead`: after a minus sign, and without one.
use Rattle.std.proofs.Common.{◌≡◌, refl, sym, ap, ◌∙◌, List, ◌∷◌, ℕ, zero, suc, ◌<◌, ◌≤◌, arith, leb→le, le→leb, ℤ, pos, negsuc, neg_ℤ, get_or, ◌≤ℤ◌, Option}
use Rattle.std.proofs.Common.{Some, None}
use Rattle.text.specs.Text.{decimal, signed_decimal}
use Rattle.text.specs.inner.Reading.{NumberRead}
use Rattle.level_settings.specs.inner.Reading.{DecibelsRead}
use Rattle.text.proofs.Numerals.{first_digit}
use Rattle.text.proofs.Options.{no_some, some_is}

module _ {t : List ℕ} where
  none : ((z : ℤ) → negsuc 119 ≤ℤ z → z ≤ℤ pos 24 → t ≡ signed_decimal z → ⊥) → DecibelsRead t None
  none never = record { takes = λ z l h e. absurd (never z l h e); takes_only = λ z e. no_some e }

  some : (z : ℤ) → negsuc 119 ≤ℤ z → z ≤ℤ pos 24 → t ≡ signed_decimal z → ((y : ℤ) → negsuc 119 ≤ℤ y → y ≤ℤ pos 24 → t ≡ signed_decimal y → y ≡ z) → DecibelsRead t (Some z)
  some z low high is alone =
      record {
        takes = λ y l h e. ap Some (sym (alone y l h e));
        takes_only = λ y e. let s : z ≡ y = some_is e in rw (← s) (low, high, is);
      }

-- the size that a text with a minus sign has
minus_is : {rest : List ℕ} {r : Option ℕ} → NumberRead rest r → (y : ℤ) → negsuc 119 ≤ℤ y → 45 ∷ rest ≡ signed_decimal y
    → (m : ℕ) × (r ≡ Some m) × (0 < m) × (m ≤ 120) × (y ≡ neg_ℤ (pos m))
unfolding signed_decimal
minus_is r (pos n) l e = absurd (omega (arith, first_digit n, ap (λ (t : List ℕ). get_or t 0 0) e))
minus_is r (negsuc n) l e =
    let h : n ≤ 119 = leb→le n 119 l.le in
    (suc n, r.takes (suc n) (omega arith) (cc), omega arith, omega arith, refl)

pub no_minus : {rest : List ℕ} {r : Option ℕ} → NumberRead rest r → ((m : ℕ) → r ≡ Some m → 0 < m → m ≤ 120 → ⊥) → DecibelsRead (45 ∷ rest) None
no_minus r never = none (λ z l h q. let p = minus_is r z l q in never p.0 p.1 p.2 p.3)

pub minus : {rest : List ℕ} (m : ℕ) → NumberRead rest (Some m) → 0 < m → m ≤ 120 → DecibelsRead (45 ∷ rest) (Some (neg_ℤ (pos m)))
unfolding signed_decimal
minus zero r p q = absurd (omega arith)
minus (suc n) r p q =
    some (negsuc n) (record { le = le→leb n 119 (omega arith) }) (record { le = tt }) (ap (λ (t : List ℕ). 45 ∷ t) (r.takes_only (suc n) refl).1)
    (λ y l h w. let p = minus_is r y l w in let s : suc n ≡ p.0 = some_is p.1 in p.4 ∙ rw (← s) refl)

plus_is : {line : List ℕ} {r : Option ℕ} → NumberRead line r → ((rest : List ℕ) → line ≡ 45 ∷ rest → ⊥) → (y : ℤ) → y ≤ℤ pos 24 → line ≡ signed_decimal y
    → (m : ℕ) × (r ≡ Some m) × (m ≤ 24) × (y ≡ pos m)
unfolding signed_decimal
plus_is r never (pos n) l e =
    let h : n ≤ 24 = leb→le n 24 l.le in
    (n, r.takes n (omega arith) e, h, refl)
plus_is r never (negsuc n) l e = absurd (never (decimal (suc n)) e)

pub no_plus : {t : List ℕ} {r : Option ℕ} → ((rest : List ℕ) → t ≡ 45 ∷ rest → ⊥) → NumberRead t r → ((m : ℕ) → r ≡ Some m → m ≤ 24 → ⊥) → DecibelsRead t None
no_plus sign r never = none (λ z l b q. let p = plus_is r sign z b q in never p.0 p.1 p.2)

pub plus : {t : List ℕ} (m : ℕ) → ((rest : List ℕ) → t ≡ 45 ∷ rest → ⊥) → NumberRead t (Some m) → m ≤ 24 → DecibelsRead t (Some (pos m))
unfolding signed_decimal
plus m sign r h =
    some (pos m) (record { le = tt }) (record { le = le→leb m 24 h }) (r.takes_only m refl).1
    (λ y l b q. let p = plus_is r sign y b q in let s : m ≡ p.0 = some_is p.1 in p.3 ∙ rw (← s) refl)
