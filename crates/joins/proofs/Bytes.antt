-- Three bytes a number hold it: read back, the samples' bytes are the samples.
use Rattle.std.proofs.Common.{◌≡◌, refl, sym, ap₂, ◌∙◌, Bool, true, false, cond, List, [], ◌++◌, ℕ, ◌+◌, ◌-◌, ◌*◌, ◌/◌, ◌%◌, ◌^◌, ◌<◌, arith, ltb-false, lt-ltb}
use Rattle.std.proofs.Common.{le-ltb, lit<, ℤ, pos, negsuc, length, get_or, length-append, get_or-append-add}
use lib.ListN.{get_or-append}
use lib.Signed.{mag, lt_z}
use Rattle.numbers.specs.Lists.{tabulate}
use Rattle.numbers.proofs.Lists.{length_tabulate, get_d_tabulate, is_tabulate, tabulate_same, tabulate_join}
use Rattle.reference.specs.Scaling.{clamp}
use Rattle.reference.specs.Frames.{Run}
use Rattle.reference.specs.Output.{sample, item, samples, low24, s24le}
use Rattle.reference.specs.declared.Converter.{Converter}
use Rattle.joins.specs.Joins.{signed24, read_s24le}

-- ---- one number

low24_small : (z : ℤ) → low24 z < 2 ^ 24
unfolding low24
low24_small (pos n) = omega arith
low24_small (negsuc n) = omega arith

-- `mag` is n both for n and for -(n + 1)
signed_low : (z : ℤ) → mag z < 2 ^ 23 → signed24 (low24 z) ≡ z
unfolding signed24 low24
signed_low (pos n) h =
    let e : n % 2 ^ 24 ≡ n = omega arith in
    rw (e, lt-ltb n (2 ^ 23) h)
signed_low (negsuc n) h =
    let e : n % 2 ^ 24 ≡ n = omega arith in
    let f : 2 ^ 24 - 1 - (2 ^ 24 - 1 - n) ≡ n = omega arith in
    rw (e, le-ltb (2 ^ 24 - 1 - n) (2 ^ 23) (omega arith), f)

three_bytes : (n : ℕ) → n < 2 ^ 24 → n / 256 ^ 0 % 256 + 256 * (n / 256 ^ 1 % 256) + 65536 * (n / 256 ^ 2 % 256) ≡ n
three_bytes n h = omega arith

-- ---- a list of numbers

module _ (zs : List ℤ) where
  bytes_length : length (s24le zs) ≡ 3 * length zs
  unfolding s24le
  bytes_length = length_tabulate _ 0 _

  byte_at : (i j : ℕ) → i < length zs → j < 3 → get_or (s24le zs) (3 * i + j) 0 ≡ low24 (get_or zs i (pos 0)) / 256 ^ j % 256
  unfolding s24le
  byte_at i j l h =
      let d : (0 + (3 * i + j)) / 3 ≡ i = omega arith in
      let m : (0 + (3 * i + j)) % 3 ≡ j = omega arith in
      get_d_tabulate _ 0 (3 * length zs) (3 * i + j) 0 (omega arith) ∙ rw (d, m)

  number_at : ℕ → ℤ
  number_at i = signed24 (get_or (s24le zs) (3 * i) 0 + 256 * get_or (s24le zs) (3 * i + 1) 0 + 65536 * get_or (s24le zs) (3 * i + 2) 0)

  read_back : ((i : ℕ) → i < length zs → mag (get_or zs i (pos 0)) < 2 ^ 23) → read_s24le (s24le zs) ≡ zs
  unfolding read_s24le number_at
  read_back small =
      let n : length (s24le zs) / 3 ≡ length zs = omega (arith, bytes_length) in
      rw n (sym (is_tabulate number_at 0 (length zs) (pos 0) zs refl (λ i l.
      let z : 3 * (0 + i) ≡ 3 * i + 0 = omega arith in
      let s : 3 * i + 0 + 1 ≡ 3 * i + 1 = omega arith in
      let t : 3 * i + 0 + 2 ≡ 3 * i + 2 = omega arith in
      sym (rw (z, s, t, byte_at i 0 l (lit< tt), byte_at i 1 l (lit< tt), byte_at i 2 l (lit< tt), three_bytes (low24 (get_or zs i (pos 0))) (low24_small _))
      (signed_low (get_or zs i (pos 0)) (small i l))))))

-- ---- the samples of a run

clamp_small : (z : ℤ) → mag (clamp z) < 2 ^ 23
unfolding clamp
clamp_small z = go z (lt_z (pos 8388607) z) refl (lt_z z (negsuc 8388607)) refl
  where
    go : (z : ℤ) (b : Bool) → lt_z (pos 8388607) z ≡ b → (d : Bool) → lt_z z (negsuc 8388607) ≡ d → mag (cond b (pos 8388607) (cond d (negsuc 8388607) z)) < 2 ^ 23
    go z true e d f = lit< tt
    go z false e true f = lit< tt
    go (pos n) false e false f = omega (arith, ltb-false 8388607 n e)
    go (negsuc n) false e false f = omega (arith, ltb-false 8388607 n f)

pub samples_back : (conv : Converter) (r : Run) → read_s24le (s24le (samples conv r)) ≡ samples conv r
unfolding samples item sample
samples_back conv r = read_back (samples conv r) (λ i l. rw (get_d_tabulate (item conv r) 0 _ i (pos 0) (rw (length_tabulate (item conv r) 0 _) at l)) (clamp_small _))

-- ---- bytes of numbers end to end

byte_of : List ℤ → ℕ → ℕ
byte_of zs i = low24 (get_or zs (i / 3) (pos 0)) / 256 ^ (i % 3) % 256

first : (xs ys : List ℤ) (i : ℕ) → i / 3 < length xs → byte_of (xs ++ ys) i ≡ byte_of xs i
unfolding byte_of
first xs ys i h = rw (get_or-append xs ys (pos 0) (i / 3) h) refl

second : (xs ys : List ℤ) (i k : ℕ) → i ≡ 3 * length xs + k → byte_of (xs ++ ys) i ≡ byte_of ys k
unfolding byte_of
second xs ys i k e =
    let d : i / 3 ≡ length xs + k / 3 = omega arith in
    let m : i % 3 ≡ k % 3 = omega arith in
    rw (d, m, get_or-append-add xs ys (k / 3) (pos 0)) refl

pub bytes_join : (xs ys : List ℤ) → s24le (xs ++ ys) ≡ s24le xs ++ s24le ys
unfolding s24le byte_of
bytes_join xs ys =
    let n : 3 * length (xs ++ ys) ≡ 3 * length xs + 3 * length ys = omega (arith, length-append xs ys) in
    rw n (tabulate_join (byte_of (xs ++ ys)) 0 (3 * length xs) (3 * length ys)
    ∙ ap₂ (λ (u v : List ℕ). u ++ v)
    (tabulate_same (byte_of (xs ++ ys)) (byte_of xs) 0 0 (3 * length xs) (λ k h. first xs ys (0 + k) (omega arith)))
    (tabulate_same (byte_of (xs ++ ys)) (byte_of ys) (0 + 3 * length xs) 0 (3 * length ys) (λ k h. second xs ys (0 + 3 * length xs + k) (0 + k) (omega arith))))

pub no_bytes : s24le [] ≡ []
unfolding s24le tabulate
no_bytes = refl
