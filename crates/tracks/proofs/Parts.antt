-- Parts of a list.
use Rattle.std.proofs.Common.{◌≡◌, refl, sym, ap, ap₂, ◌∙◌, ⊎_elim, List, [], ◌∷◌, ◌++◌, ℕ, zero, suc, ◌+◌, ◌-◌, ◌≤◌, ◌<◌, min, zero-add, add-one, arith}
use Rattle.std.proofs.Common.{length, take, drop, length-take, length-drop, drop_of_length-le, take-append-drop, take-add, drop-drop, take-take, take_all}
use native.Mathlib.Nat.{sub-zero, zero-sub}
use lib.Seq.{take-nil, drop-nil}
use Rattle.numbers.specs.Lists.{tabulate}
use Rattle.numbers.proofs.Lists.{below_or}
use Rattle.text.specs.Text.{joined}
use Rattle.text.proofs.Printing.{joined_last}
use Rattle.text.specs.Lists.{part}
use Rattle.tracks.specs.TracksToFiles.{HoldsAt, clip}

-- parts of which each begins where the one before it ends
pub parts_join : (m : ℕ → ℕ) (l : List ℕ) → m 0 ≡ 0 → ((k : ℕ) → m k ≤ m (k + 1)) → (n : ℕ) → joined (tabulate (λ k. part (m k) (m (k + 1)) l) 0 n) ≡ take (m n) l
unfolding tabulate joined
parts_join m l z up zero = rw z refl
parts_join m l z up (suc n) =
    let here : m n + (m (n + 1) - m n) ≡ m (n + 1) = omega (arith, up n) in
    sym (joined_last (tabulate (λ k. part (m k) (m (k + 1)) l) 0 n) (part (m (0 + n)) (m (0 + n + 1)) l))
    ∙ rw (parts_join m l z up n, zero-add n) (sym (take-add (m n) (m (n + 1) - m n) l) ∙ rw (here, add-one n) refl)

-- ---- clipped lists

pub clip_none : (low high a : ℕ) → clip low high a [] ≡ []
unfolding clip
clip_none low high a = rw (take-nil (high - a), drop-nil (low - a)) refl

take_append : (n : ℕ) (x y : List ℕ) → take n (x ++ y) ≡ take n x ++ take (n - length x) y
take_append n [] y = rw (take-nil n, sub-zero n) refl
take_append zero (b ∷ x) y = rw (zero-sub (suc (length x))) refl
take_append (suc n) (b ∷ x) y =
    let e : suc n - suc (length x) ≡ n - length x = omega arith in
    rw e (ap (λ (l : List ℕ). b ∷ l) (take_append n x y))

drop_append : (n : ℕ) (x y : List ℕ) → drop n (x ++ y) ≡ drop n x ++ drop (n - length x) y
drop_append n [] y = rw (drop-nil n, sub-zero n) refl
drop_append zero (b ∷ x) y = rw (zero-sub (suc (length x))) refl
drop_append (suc n) (b ∷ x) y =
    let e : suc n - suc (length x) ≡ n - length x = omega arith in
    rw e (drop_append n x y)

pub drop_take : (i j : ℕ) (l : List ℕ) → drop i (take j l) ≡ take (j - i) (drop i l)
drop_take zero j l = rw (sub-zero j) refl
drop_take (suc i) j [] = rw (take-nil j, drop-nil (suc i), take-nil (j - suc i)) refl
drop_take (suc i) zero (x ∷ l) = rw (zero-sub (suc i)) refl
drop_take (suc i) (suc j) (x ∷ l) =
    let e : suc j - suc i ≡ j - i = omega arith in
    rw e (drop_take i j l)

pub clip_all : (low high : ℕ) (l : List ℕ) → clip low high 0 l ≡ part low high l
unfolding clip
clip_all low high l = rw (sub-zero low, sub-zero high) (drop_take low high l)

pub length_clip : (low high a : ℕ) (l : List ℕ) → length (clip low high a l) ≡ min (high - a) (length l) - (low - a)
unfolding clip
length_clip low high a l = length-drop (low - a) (take (high - a) l) ∙ rw (length-take (high - a) l) refl

pub length_part : (low high : ℕ) (l : List ℕ) → high ≤ length l → length (part low high l) ≡ high - low
length_part low high l h = length-take (high - low) (drop low l) ∙ rw (length-drop low l) (omega arith)

least_second : (m n : ℕ) → n ≤ m → min m n ≡ n
least_second m n h = omega arith

least_first : (m n : ℕ) → m < n → min m n ≡ m
least_first m n h = omega arith

sub_sub : (l a k : ℕ) → l - a - k ≡ l - (a + k)
sub_sub l a k = omega arith

pub clip_join : (low high a : ℕ) (x y : List ℕ) → clip low high a (x ++ y) ≡ clip low high a x ++ clip low high (a + length x) y
unfolding clip
clip_join low high a x y =
    rw (take_append (high - a) x y, drop_append (low - a) (take (high - a) x) (take (high - a - length x) y), length-take (high - a) x)
    (ap (λ (l : List ℕ). drop (low - a) (take (high - a) x) ++ l) (⊎_elim beyond inside (below_or (high - a) (length x))))
  where
    inside : length x ≤ high - a → drop (low - a - min (high - a) (length x)) (take (high - a - length x) y) ≡ drop (low - (a + length x)) (take (high - (a + length x)) y)
    inside h =
        let m : min (high - a) (length x) ≡ length x = least_second (high - a) (length x) h in
        let e : low - a - min (high - a) (length x) ≡ low - (a + length x) = rw m (sub_sub low a (length x)) in
        let g : high - a - length x ≡ high - (a + length x) = sub_sub high a (length x) in
        rw (e, g) refl

    beyond : high - a < length x → drop (low - a - min (high - a) (length x)) (take (high - a - length x) y) ≡ drop (low - (a + length x)) (take (high - (a + length x)) y)
    beyond h =
        let e : high - a - length x ≡ 0 = omega arith in
        let g : high - (a + length x) ≡ 0 = omega arith in
        rw (e, g, drop-nil (low - a - min (high - a) (length x)), drop-nil (low - (a + length x))) refl

-- ---- a list that holds a clipped list at its place

-- the place behind a list that ends before `high`
place_inside : (low a k : ℕ) → a - low + (k - (low - a)) ≡ a + k - low
place_inside low a k = omega arith

-- and that of one that does not is at the end or behind it
place_beyond : (low high a : ℕ) → low ≤ high → high - low ≤ a - low + (high - a - (low - a))
place_beyond low high a h = omega arith

place_later : (low high b : ℕ) → high < b → high - low ≤ b - low
place_later low high b h = omega arith

-- what follows it
pub next_place : (out : List ℕ) (low high a : ℕ) (x : List ℕ) → low ≤ high → length out ≡ high - low
    → drop (a - low + length (clip low high a x)) out ≡ drop (a + length x - low) out
next_place out low high a x order long = ⊎_elim beyond inside (below_or high (a + length x))
  where
    inside : a + length x ≤ high → drop (a - low + length (clip low high a x)) out ≡ drop (a + length x - low) out
    inside h =
        let m : min (high - a) (length x) ≡ length x = least_second (high - a) (length x) (omega arith) in
        rw (length_clip low high a x, m, place_inside low a (length x)) refl

    beyond : high < a + length x → drop (a - low + length (clip low high a x)) out ≡ drop (a + length x - low) out
    beyond h = ⊎_elim short full (below_or (high - a) (length x))
      where
        later : drop (a + length x - low) out ≡ []
        later = drop_of_length-le out {i = a + length x - low} (rw long (place_later low high (a + length x) h))

        short : high - a < length x → drop (a - low + length (clip low high a x)) out ≡ drop (a + length x - low) out
        short l =
            drop_of_length-le out {i = a - low + length (clip low high a x)}
            (rw (long, length_clip low high a x, least_first (high - a) (length x) l) (place_beyond low high a order)) ∙ sym later

        full : length x ≤ high - a → drop (a - low + length (clip low high a x)) out ≡ drop (a + length x - low) out
        full l =
            let m : min (high - a) (length x) ≡ length x = least_second (high - a) (length x) l in
            rw (length_clip low high a x, m, place_inside low a (length x)) refl

-- ---- a list between two others

fits_between : (low high a k : ℕ) → min (high - a) k - (low - a) ≤ high - low - (a - low)
fits_between low high a k = omega arith

-- a clipped list that a file holds at its place is at that place of the part that it belongs to
pub held_between : (out : List ℕ) (front low high a : ℕ) (x : List ℕ) → HoldsAt out (front + (a - low)) (clip low high a x)
    → HoldsAt (take (high - low) (drop front out)) (a - low) (clip low high a x)
held_between out front low high a x h =
    let y = clip low high a x in
    let short : length y ≤ high - low - (a - low) = rw (length_clip low high a x) (fits_between low high a (length x)) in
    record {
      is =
          ap (take (length y)) (drop_take (a - low) (high - low) (drop front out) ∙ ap (take (high - low - (a - low))) (drop-drop (a - low) front out))
          ∙ take-take (length y) (high - low - (a - low)) (drop (front + (a - low)) out) short ∙ h.is;
    }

-- a file in three parts
pub three_parts : (out front middle behind : List ℕ) → length out ≡ length front + length middle + length behind → HoldsAt out 0 front
    → take (length middle) (drop (length front) out) ≡ middle → HoldsAt out (length front + length middle) behind → out ≡ front ++ (middle ++ behind)
three_parts out front middle behind long begins between ends =
    let last : drop (length front + length middle) out ≡ behind =
    sym (take_all (length behind) (drop (length front + length middle) out) (omega (arith, length-drop (length front + length middle) out, long))) ∙ ends.is in
    sym (take-append-drop (length front) out)
    ∙ ap₂ (λ (x y : List ℕ). x ++ y) begins.is
    (sym (take-append-drop (length middle) (drop (length front) out)) ∙ ap₂ (λ (x y : List ℕ). x ++ y) between (drop-drop (length middle) (length front) out ∙ last))
