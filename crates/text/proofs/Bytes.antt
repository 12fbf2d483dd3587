-- Laws of bytes, and of numbers as bytes.
use Rattle.std.proofs.Common.{◌≡◌, refl, ap, List, [], ◌∷◌, ◌++◌, ℕ, zero, suc, ◌+◌, ◌*◌, ◌/◌, ◌%◌, ◌^◌, ◌≤◌, ◌<◌, pow-suc, mod-lt, arith, length, get_or, take}
use Rattle.std.proofs.Common.{drop, replicate, length-drop, get_or-drop}
use lib.Seq.{drop-append-le, take-append-le}
use Rattle.std.specs.Int.{w16, w32, w64, from_le_bytes, to_le_bytes}
use Rattle.text.specs.Bytes.{Bytes, number_of, number_at, bytes}

-- so many bytes of a list, with 0 past its end
unfoldable pub padded : ℕ → List ℕ → List ℕ
padded zero l = []
padded (suc n) l = get_or l 0 0 ∷ padded n (drop 1 l)

pub number_padded : (n : ℕ) (l : List ℕ) → number_of (padded n l) ≡ number_of (take n l)
unfolding padded number_of
number_padded zero l = refl
number_padded (suc n) [] = omega (arith, number_padded n [], none n)
  where
    none : (n : ℕ) → number_of (take n []) ≡ 0
    none zero = refl
    none (suc n) = refl
number_padded (suc n) (x ∷ l) = ap (λ (k : ℕ). x + 256 * k) (number_padded n l)

-- ---- bytes
pub none : Bytes []
none = record { each = λ i. omega arith }

pub cons : {x : ℕ} {l : List ℕ} → x < 256 → Bytes l → Bytes (x ∷ l)
cons {x} {l} h b = record { each = go }
  where
    go : (i : ℕ) → get_or (x ∷ l) i 0 < 256
    go zero = h
    go (suc i) = b.each i

pub tail : {x : ℕ} {l : List ℕ} → Bytes (x ∷ l) → Bytes l
tail b = record { each = λ i. b.each (suc i) }

-- ---- a number of bytes
pub number_bytes : (s n : ℕ) → n < 256 ^ s → number_of (bytes s n) ≡ n
unfolding bytes number_of
number_bytes zero n h = omega arith
number_bytes (suc s) n h = omega (arith, number_bytes s (n / 256) (omega (arith, pow-suc 256 s)))

pub bytes_number : (l : List ℕ) → Bytes l → bytes (length l) (number_of l) ≡ l
unfolding bytes number_of
bytes_number [] b = refl
bytes_number (x ∷ l) b =
    let s : x < 256 = b.each 0 in
    let low : (x + 256 * number_of l) % 256 ≡ x = omega arith in
    let high : (x + 256 * number_of l) / 256 ≡ number_of l = omega arith in
    rw (low, high, bytes_number l (tail b))

pub number_small : (l : List ℕ) → Bytes l → number_of l < 256 ^ length l
unfolding number_of
number_small [] b = omega arith
number_small (x ∷ l) b = let s : x < 256 = b.each 0 in omega (arith, number_small l (tail b), pow-suc 256 (length l))

-- ---- a beginning's number
pub number_begin : (s : ℕ) (p q : List ℕ) → number_of (take s p) ≤ number_of (take s (p ++ q))
unfolding number_of
number_begin zero p q = omega arith
number_begin (suc s) [] q = omega arith
number_begin (suc s) (x ∷ p) q = omega (arith, number_begin s p q)

pub number_at_begin : (at s : ℕ) (p q : List ℕ) → number_at p at s ≤ number_at (p ++ q) at s
unfolding number_at number_of
number_at_begin zero s p q = number_begin s p q
number_at_begin (suc at) zero [] q = omega arith
number_at_begin (suc at) (suc s) [] q = omega arith
number_at_begin (suc at) s (x ∷ p) q = number_at_begin at s p q

-- ---- bytes of parts
pub each_append : {l m : List ℕ} → Bytes l → Bytes m → Bytes (l ++ m)
each_append {l = []} a b = b
each_append {l = x ∷ l} a b = cons (a.each 0) (each_append (tail a) b)

pub each_drop : (n : ℕ) {l : List ℕ} → Bytes l → Bytes (drop n l)
each_drop n {l} b = record { each = λ i. rw (get_or-drop n l i 0) (b.each (n + i)) }

pub each_take : (n : ℕ) (l : List ℕ) → Bytes l → Bytes (take n l)
each_take zero l b = none
each_take (suc n) [] b = none
each_take (suc n) (x ∷ l) b = cons (b.each 0) (each_take n l (tail b))

pub each_bytes : (s n : ℕ) → Bytes (bytes s n)
unfolding bytes
each_bytes zero n = none
each_bytes (suc s) n = cons (mod-lt n (omega arith)) (each_bytes s (n / 256))

pub each_padded : (s : ℕ) (l : List ℕ) → Bytes l → Bytes (padded s l)
unfolding padded
each_padded zero l b = none
each_padded (suc s) l b = cons (b.each 0) (each_padded s (drop 1 l) (each_drop 1 b))

pub each_zeros : (n : ℕ) → Bytes (replicate n 0)
each_zeros zero = none
each_zeros (suc n) = cons (omega arith) (each_zeros n)

-- ---- bytes behind a number
pub number_same : (at s : ℕ) (p q : List ℕ) → at + s ≤ length p → number_at (p ++ q) at s ≡ number_at p at s
unfolding number_at
number_same at s p q h = rw (drop-append-le at p q (omega arith), take-append-le s (drop at p) q (omega (arith, length-drop at p)))

-- ---- as the code reads and writes it

-- eight bytes that begin with these, and are 0 after them
pub number_eight : (l : List ℕ) → length l ≤ 8 → from_le_bytes w64 (l ++ drop (length l) (replicate 8 0)) ≡ number_of l
unfolding number_of
number_eight [] h = refl
number_eight (a ∷ []) h = omega arith
number_eight (a ∷ b ∷ []) h = omega arith
number_eight (a ∷ b ∷ c ∷ []) h = omega arith
number_eight (a ∷ b ∷ c ∷ d ∷ []) h = omega arith
number_eight (a ∷ b ∷ c ∷ d ∷ e ∷ []) h = omega arith
number_eight (a ∷ b ∷ c ∷ d ∷ e ∷ f ∷ []) h = omega arith
number_eight (a ∷ b ∷ c ∷ d ∷ e ∷ f ∷ g ∷ []) h = omega arith
number_eight (a ∷ b ∷ c ∷ d ∷ e ∷ f ∷ g ∷ i ∷ []) h = omega arith
number_eight (a ∷ b ∷ c ∷ d ∷ e ∷ f ∷ g ∷ i ∷ j ∷ l) h = absurd (omega arith)

pub number_filled : (l p : List ℕ) → l ≡ p → length p ≤ 8 → from_le_bytes w64 (l ++ drop (length p) (replicate 8 0)) ≡ number_of p
number_filled l p e h = rw e (number_eight p h)

pub eight_bytes : (n : ℕ) → to_le_bytes w64 n ≡ bytes 8 n
unfolding bytes
eight_bytes n =
    let b : n / 256 / 256 ≡ n / 256 ^ 2 = omega arith in
    let c : n / 256 ^ 2 / 256 ≡ n / 256 ^ 3 = omega arith in
    let d : n / 256 ^ 3 / 256 ≡ n / 256 ^ 4 = omega arith in
    let e : n / 256 ^ 4 / 256 ≡ n / 256 ^ 5 = omega arith in
    let f : n / 256 ^ 5 / 256 ≡ n / 256 ^ 6 = omega arith in
    let g : n / 256 ^ 6 / 256 ≡ n / 256 ^ 7 = omega arith in
    rw (b, c, d, e, f, g)

pub four_bytes : (n : ℕ) → to_le_bytes w32 n ≡ bytes 4 n
unfolding bytes
four_bytes n =
    let b : n / 256 / 256 ≡ n / 256 ^ 2 = omega arith in
    let c : n / 256 ^ 2 / 256 ≡ n / 256 ^ 3 = omega arith in
    rw (b, c)

-- the low four of eight
pub low_bytes : (n : ℕ) → take 4 (to_le_bytes w64 n) ≡ bytes 4 n
unfolding bytes
low_bytes n =
    let b : n / 256 / 256 ≡ n / 256 ^ 2 = omega arith in
    let c : n / 256 ^ 2 / 256 ≡ n / 256 ^ 3 = omega arith in
    rw (b, c)

pub two_bytes : (n : ℕ) → to_le_bytes w16 n ≡ bytes 2 n
unfolding bytes
two_bytes n = refl
