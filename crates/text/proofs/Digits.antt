-- Laws of `NumberRead`: a number digit by digit.
use Rattle.std.proofs.Common.{◌≡◌, refl, sym, ap, ◌∙◌, List, [], ◌∷◌, ◌++◌, append_assoc, append-nil, ℕ, ◌+◌, ◌*◌, ◌/◌, ◌%◌, ◌≤◌, ◌<◌, arith, add-one, length}
use Rattle.std.proofs.Common.{take, drop, get_or, length-append, take-append-drop, take-suc, Option, Some, None}
use Rattle.text.specs.Text.{decimal}
use Rattle.text.specs.inner.Reading.{NumberRead}
use Rattle.text.proofs.Numerals.{one_digit, last_digit, some_digit, single, split}
use Rattle.text.proofs.Options.{no_some, some_is}

no_number : {t : List ℕ} → ((n : ℕ) → n < 1000 → t ≡ decimal n → ⊥) → NumberRead t None
no_number never = record { takes = λ n h e. absurd (never n h e); takes_only = λ n e. no_some e }

a_number : {t : List ℕ} (m : ℕ) → m < 1000 → t ≡ decimal m → ((n : ℕ) → n < 1000 → t ≡ decimal n → m ≡ n) → NumberRead t (Some m)
a_number m h e alone =
    record {
      takes = λ n l q. ap Some (alone n l q);
      takes_only = λ n q. let s : m ≡ n = some_is q in (omega arith, e ∙ ap decimal s);
    }

pub empty : (t : List ℕ) → length t ≡ 0 → NumberRead t None
empty t z = no_number (λ n h e. omega (arith, some_digit n, ap length e))

-- a digit, and any other byte
pub digit : (b d : ℕ) → b ≡ 48 + d → d < 10 → NumberRead (b ∷ []) (Some d)
digit b d e h = a_number d (omega arith) (rw e (sym (one_digit d h))) (λ n l q. omega (arith, single b n q))

pub no_digit : (b : ℕ) → ((d : ℕ) → d < 10 → b ≡ 48 + d → ⊥) → NumberRead (b ∷ []) None
no_digit b never = no_number (λ n l q. never n (single b n q).0 (single b n q).1)

pub digit_is : {b d : ℕ} → NumberRead (b ∷ []) (Some d) → (d < 10) × (b ≡ 48 + d)
digit_is {b} {d} f = single b d (f.takes_only d refl).1

-- a number read from one more byte, after the one read before it
module _ {t : List ℕ} {b : ℕ} (h : 0 < length t) {r f : Option ℕ} (front : NumberRead t r) (byte : NumberRead (b ∷ []) f) where
  parts : (n : ℕ) → n < 1000 → t ++ (b ∷ []) ≡ decimal n → (10 ≤ n) × (r ≡ Some (n / 10)) × (f ≡ Some (n % 10))
  parts n l e =
      let s = split t b n h e in
      let last : n % 10 < 10 = omega arith in
      (s.0, front.takes (n / 10) (omega arith) s.1, byte.takes (n % 10) (omega arith) (rw s.2 (sym (one_digit (n % 10) last))))

  pub more : (m d : ℕ) → r ≡ Some m → f ≡ Some d → 0 < m → m < 100 → NumberRead (t ++ (b ∷ [])) (Some (m * 10 + d))
  more m d p q low high =
      let l : (d < 10) × (b ≡ 48 + d) = single b d (byte.takes_only d q).1 in
      let tens : (m * 10 + d) / 10 ≡ m = omega arith in
      let ones : (m * 10 + d) % 10 ≡ d = omega arith in
      let is : t ++ (b ∷ []) ≡ decimal (m * 10 + d) = rw (last_digit (m * 10 + d) (omega arith), tens, ones, ← (front.takes_only m p).1, ← l.1) refl in
      a_number (m * 10 + d) (omega arith) is
      (λ n k e.
      let s = parts n k e in
      let u : m ≡ n / 10 = some_is (sym p ∙ s.1) in
      let v : d ≡ n % 10 = some_is (sym q ∙ s.2) in
      omega arith)

  pub no_more : ((m d : ℕ) → r ≡ Some m → f ≡ Some d → 0 < m → m < 100 → ⊥) → NumberRead (t ++ (b ∷ [])) None
  no_more never = no_number (λ n k e. let s = parts n k e in never (n / 10) (n % 10) s.1 s.2 (omega arith) (omega arith))

-- bytes after what is no number
pub longer : {t : List ℕ} → 0 < length t → NumberRead t None → (us : List ℕ) → NumberRead (t ++ us) None
longer {t} h r [] = rw append-nil r
longer {t} h r (u ∷ us) =
    let n : 0 < length (t ++ (u ∷ [])) = omega (arith, length-append t (u ∷ [])) in
    let one : NumberRead (t ++ (u ∷ [])) None = no_number (λ n l e. let s = split t u n h e in no_some (r.takes (n / 10) (omega arith) s.1)) in
    rw append_assoc at (longer n one us)

-- a text by its first byte and the rest, read on by one byte
module _ {text rest : List ℕ} {first : ℕ} (is : text ≡ first ∷ rest) (i : ℕ) (h : i < length rest) where
  on : take (i + 1 + 1) text ≡ take (i + 1) text ++ (get_or rest i 0 ∷ [])
  on = rw (is, add-one, add-one) (ap (λ (l : List ℕ). first ∷ l) (take-suc rest i 0 h))

  some : 0 < length (take (i + 1) text)
  some = rw (is, add-one) (omega arith)

  pub next : {r r' : Option ℕ} → NumberRead (take (i + 1) text) r → ((t : List ℕ) → 0 < length t → NumberRead t r → NumberRead (t ++ (get_or rest i 0 ∷ [])) r')
      → NumberRead (take (i + 1 + 1) text) r'
  next r more = rw on (more (take (i + 1) text) some r)

  pub ends : NumberRead (take (i + 1 + 1) text) None → NumberRead text None
  ends r =
      let all : take (i + 1 + 1) text ++ drop (i + 1 + 1) text ≡ text = take-append-drop (i + 1 + 1) text in
      let one : 0 < length (take (i + 1 + 1) text) = rw (is, add-one, add-one) (omega arith) in
      rw all at (longer one r (drop (i + 1 + 1) text))
