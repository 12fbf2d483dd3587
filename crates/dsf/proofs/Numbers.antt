-- Laws of a file's fields as numbers.
use Rattle.std.proofs.Common.{◌≡◌, refl, List, [], ◌∷◌, ◌++◌, ℕ, zero, suc, ◌+◌, ◌%◌, ◌≤◌, arith, T, eqb, ltb, ltb→lt, length, take, drop, length-drop}
use Rattle.std.proofs.Common.{take-append-drop, length-take-le}
use lib.Dec.{eqb_refl}
use Rattle.text.specs.Bytes.{Bytes, number_of, number_at, bytes}
use Rattle.text.proofs.Bytes.{padded, none, cons, bytes_number, each_take, each_drop}
use Rattle.dsf.specs.Dsf.{alike, all}
use Rattle.dsf.proofs.Alike.{both, left, right, alike_self}

pub alike_padded : (n : ℕ) (l : List ℕ) → T (alike l (padded n l))
unfolding padded alike
alike_padded zero [] = tt
alike_padded zero (x ∷ l) = tt
alike_padded (suc n) [] = tt
alike_padded (suc n) (x ∷ l) = both (eqb x x) (alike l (padded n l)) (eqb_refl x) (alike_padded n l)

-- a multiple of 8 by its first byte
eighths : (s : ℕ) (p q : List ℕ) → number_of (take s (p ++ q)) % 8 ≡ 0 → number_of (take s p) % 8 ≡ 0
unfolding number_of
eighths zero p q h = refl
eighths (suc s) [] q h = refl
eighths (suc s) (x ∷ p) q h = omega arith

pub eighths_at : (at s : ℕ) (p q : List ℕ) → number_at (p ++ q) at s % 8 ≡ 0 → number_at p at s % 8 ≡ 0
unfolding number_at number_of
eighths_at zero s p q h = eighths s p q h
eighths_at (suc at) zero [] q h = refl
eighths_at (suc at) (suc s) [] q h = refl
eighths_at (suc at) s (x ∷ p) q h = eighths_at at s p q h

-- by a computed test
pub each_all : (l : List ℕ) → T (all (λ x. ltb x 256) l) → Bytes l
unfolding all
each_all [] h = none
each_all (x ∷ l) h = cons (ltb→lt x 256 (left (ltb x 256) (all (λ x. ltb x 256) l) h)) (each_all l (right (ltb x 256) (all (λ x. ltb x 256) l) h))

-- it is its number's bytes
pub field_alike : (file : List ℕ) (at s : ℕ) → Bytes file → at + s ≤ length file → T (alike (drop at file) (bytes s (number_at file at s)))
unfolding number_at
field_alike file at s b h =
    let part = take s (drop at file) in
    let size : length part ≡ s = length-take-le s (drop at file) (omega (arith, length-drop at file)) in
    let e : bytes s (number_of part) ≡ part = rw size at (bytes_number part (each_take s (drop at file) (each_drop at b))) in
    let w : part ++ drop s (drop at file) ≡ drop at file = take-append-drop s (drop at file) in
    rw e (rw w at (alike_self part (drop s (drop at file))))
