-- Laws of `decimal`: its digits one by one, how many there are, the first and the last, and that there are digits only.
use Rattle.std.proofs.Common.{◌≡◌, refl, sym, ap, ◌∙◌, Bool, true, false, cond, List, [], ◌∷◌, ◌++◌, ⊎_elim, ℕ, zero, suc, ◌+◌, ◌/◌, ◌%◌, ◌^◌, ◌≤◌, ◌<◌, arith}
use Rattle.std.proofs.Common.{ltb, length, take, get_or, length-append, take_at, lt-ltb, le-ltb}
use native.Mathlib.Nat.{pow-succ'}
use lib.ListN.{get_or-append}
use lib.Seq.{get_or_at}
use Rattle.numbers.proofs.Lists.{below_or}
use Rattle.text.specs.Text.{numeral, decimal}

-- a number below 10 ^ k has at most k digits: to allow more changes nothing
enough : (j k n : ℕ) → n < 10 ^ suc j → n < 10 ^ suc k → numeral (suc j) n ≡ numeral (suc k) n
unfolding numeral
enough zero k n p q = rw (lt-ltb n 10 p)
enough (suc j) zero n p q = rw (lt-ltb n 10 q)
enough (suc j) (suc k) n p q =
    ap (λ (l : List ℕ). cond (ltb n 10) ((48 + n) ∷ []) (l ++ ((48 + n % 10) ∷ [])))
    (enough j k (n / 10) (omega (arith, pow-succ' 10 (suc j))) (omega (arith, pow-succ' 10 (suc k))))

self : (n : ℕ) → n < 10 ^ suc n
self zero = omega arith
self (suc n) = omega (arith, self n, pow-succ' 10 (suc n))

at_most : (k n : ℕ) → length (numeral k n) ≤ k
unfolding numeral
at_most zero n = omega arith
at_most (suc k) n = go (ltb n 10) (at_most k (n / 10))
  where
    go : (b : Bool) → length (numeral k (n / 10)) ≤ k → length (cond b ((48 + n) ∷ []) (numeral k (n / 10) ++ ((48 + n % 10) ∷ []))) ≤ suc k
    go true h = omega arith
    go false h = omega (arith, length-append (numeral k (n / 10)) ((48 + n % 10) ∷ []))

pub places : (k n : ℕ) → n < 10 ^ suc k → length (decimal n) ≤ suc k
unfolding decimal
places k n h = rw (enough n k n (self n) h) (at_most (suc k) n)

pub one_digit : (n : ℕ) → n < 10 → decimal n ≡ (48 + n) ∷ []
unfolding decimal numeral
one_digit n h = rw (lt-ltb n 10 h)

pub last_digit : (n : ℕ) → 10 ≤ n → decimal n ≡ decimal (n / 10) ++ ((48 + n % 10) ∷ [])
unfolding decimal numeral
last_digit zero h = absurd (omega arith)
last_digit (suc m) h =
    rw (le-ltb (suc m) 10 h)
    (ap (λ (l : List ℕ). l ++ ((48 + suc m % 10) ∷ [])) (enough m (suc m / 10) (suc m / 10) (omega (arith, self m)) (self (suc m / 10))))

-- it begins with a digit
either : (b : Bool) (n : ℕ) (l : List ℕ) → 48 ≤ get_or l 0 0 → 48 ≤ get_or (cond b ((48 + n) ∷ []) l) 0 0
either true n l h = omega arith
either false n l h = h

longer : (l m : List ℕ) → 48 ≤ get_or l 0 0 → 48 ≤ get_or (l ++ m) 0 0
longer [] m h = absurd (omega arith)
longer (x ∷ l) m h = h

begins : (k n : ℕ) → 48 ≤ get_or (numeral (suc k) n) 0 0
unfolding numeral
begins zero n = either (ltb n 10) n ((48 + n % 10) ∷ []) (omega arith)
begins (suc k) n = either (ltb n 10) n (numeral (suc k) (n / 10) ++ ((48 + n % 10) ∷ [])) (longer (numeral (suc k) (n / 10)) ((48 + n % 10) ∷ []) (begins k (n / 10)))

pub first_digit : (n : ℕ) → 48 ≤ get_or (decimal n) 0 0
unfolding decimal
first_digit n = begins n n

pub some_digit : (n : ℕ) → 0 < length (decimal n)
some_digit n = go (decimal n) (first_digit n)
  where
    go : (l : List ℕ) → 48 ≤ get_or l 0 0 → 0 < length l
    go [] h = omega arith
    go (x ∷ l) h = omega arith

-- what has at most k digits is below 10 ^ k
pub bounded : (k n : ℕ) → length (decimal n) ≤ k → n < 10 ^ k
bounded zero n h = absurd (omega (arith, some_digit n))
bounded (suc k) n h =
    ⊎_elim (λ l. omega (arith, pow-succ' 10 k, some_power k))
    (λ l. omega (arith, pow-succ' 10 k, bounded k (n / 10) (omega (arith, simp length-append at (ap length (last_digit n l))))))
    (below_or n 10)
  where
    some_power : (k : ℕ) → 0 < 10 ^ k
    some_power zero = omega arith
    some_power (suc k) = omega (arith, pow-succ' 10 k, some_power k)

-- the same last element, and the same before it
unsnoc : (s t : List ℕ) (a b : ℕ) → s ++ (a ∷ []) ≡ t ++ (b ∷ []) → (s ≡ t) × (a ≡ b)
unsnoc s t a b e =
    let n : length s ≡ length t = omega (arith, simp length-append at (ap length e)) in (
      sym (take_at s (a ∷ []) (length t) n) ∙ ap (take (length t)) e ∙ take_at t (b ∷ []) (length t) refl,
      sym (get_or_at s a [] 0 (length t) n) ∙ ap (λ (l : List ℕ). get_or l (length t) 0) e ∙ get_or_at t b [] 0 (length t) refl,
    )

-- a number whose text is one digit, or a text and a digit after it
pub single : (b n : ℕ) → b ∷ [] ≡ decimal n → (n < 10) × (b ≡ 48 + n)
single b n e =
    ⊎_elim (λ l. (l, cc (one_digit n l)))
    (λ l. absurd (omega (arith, some_digit (n / 10), simp length-append at (ap length (e ∙ last_digit n l)))))
    (below_or n 10)

pub split : (t : List ℕ) (b n : ℕ) → 0 < length t → t ++ (b ∷ []) ≡ decimal n → (10 ≤ n) × (t ≡ decimal (n / 10)) × (b ≡ 48 + n % 10)
split t b n h e =
    ⊎_elim (λ l. absurd (omega (arith, simp length-append at (ap length (e ∙ one_digit n l)))))
    (λ l. let u = unsnoc t (decimal (n / 10)) b (48 + n % 10) (e ∙ last_digit n l) in (l, u.0, u.1))
    (below_or n 10)

-- nothing but digits
only : (t : List ℕ) (b k : ℕ) → ((i : ℕ) → i < length t → 48 ≤ get_or t i 0) → 48 ≤ b → k < length (t ++ (b ∷ [])) → 48 ≤ get_or (t ++ (b ∷ [])) k 0
only t b k h l m =
    ⊎_elim (λ p. rw (get_or-append t (b ∷ []) 0 k p) (h k p))
    (λ p. let e : length t ≡ k = omega (arith, simp length-append at m) in rw (get_or_at t b [] 0 k e) l)
    (below_or k (length t))

digits : (j n k : ℕ) → k < length (numeral j n) → 48 ≤ get_or (numeral j n) k 0
unfolding numeral
digits zero n k l = absurd (omega arith)
digits (suc j) n k l = go (ltb n 10) (digits j (n / 10)) l
  where
    go : (b : Bool) → ((i : ℕ) → i < length (numeral j (n / 10)) → 48 ≤ get_or (numeral j (n / 10)) i 0) → k < length (cond b ((48 + n) ∷ []) (numeral j (n / 10) ++ ((48 + n % 10) ∷ [])))
        → 48 ≤ get_or (cond b ((48 + n) ∷ []) (numeral j (n / 10) ++ ((48 + n % 10) ∷ []))) k 0
    go true h m = only [] (48 + n) k (λ i m. absurd (omega arith)) (omega arith) m
    go false h m = only (numeral j (n / 10)) (48 + n % 10) k h (omega arith) m

pub all_digits : (n k : ℕ) → k < length (decimal n) → 48 ≤ get_or (decimal n) k 0
unfolding decimal
all_digits n k l = digits (suc n) n k l
