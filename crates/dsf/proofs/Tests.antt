-- The tests of the header, as the code puts them together.
use Rattle.std.proofs.Common.{◌≡◌, sym, ap, ◌∙◌, List, [], ◌∷◌, Bool, true, false, not, ◌&&◌, ⊎_elim, ℕ, ◌≤◌, ◌<◌, arith, T, eqb, leb, eqb→eq, lit≤, length}
use Rattle.std.proofs.Common.{take, drop, length-drop, drop-drop, le-leb, lt-ltb, le-ltb}
use mathlib.Core.Bool.{or-false, and-false}
use borrow.Author.Tests.{lt-leb}
use Rattle.numbers.proofs.Lists.{below_or}
use Rattle.reference.specs.Refusals.{Decision, accepted, refused, place, decide}
use Rattle.reference.proofs.Refusals.{at_first, at_next}
use Rattle.text.specs.Bytes.{number_of, number_at, bytes}
use Rattle.dsf.specs.Dsf.{pair, fixed, pairs, layout, alike, any, all, fits, channels, right_format, right_sizes, places_at}
use Rattle.dsf.specs.Reading.{header_places}
use Rattle.dsf.proofs.Alike.{T_of, left, right, alike_after, alike_take, any_elim, all_each}
use Rattle.text.proofs.Bytes.{number_bytes}

pub fits_fixed : (file : List ℕ) (start : ℕ) (v : List ℕ) → alike (drop start file) v ≡ fits file (fixed start v)
unfolding fits any
fits_fixed file start v = sym (or-false (alike (drop start file) v))

-- ---- what the places decide
module _ (x y z : Bool) where
  abbrev tried : Decision
  tried = decide (place (not x) 9 [] ∷ place (not y) 10 [] ∷ place (not z) 11 [] ∷ [])

  nine : x ≡ false → tried ≡ refused 9 []
  unfolding decide
  nine e = rw e

  ten : x ≡ true → y ≡ false → tried ≡ refused 10 []
  unfolding decide
  ten e f = rw (e, f)

  eleven : x ≡ true → y ≡ true → z ≡ false → tried ≡ refused 11 []
  unfolding decide
  eleven e f g = rw (e, f, g)

  none : x ≡ true → y ≡ true → z ≡ true → tried ≡ accepted
  unfolding decide
  none e f g = rw (e, f, g)

-- of a file, or of its first bytes, and of n bytes in all
module _ (file : List ℕ) (n : ℕ) where
  abbrev x : Bool
  x = leb 92 n && all (fits file) layout

  pub too_short : n < 92 → decide (places_at file n) ≡ refused 9 []
  unfolding places_at
  too_short l = nine x (right_format file) (right_sizes file n) (rw (lt-leb 92 n l))

  pub short_head : length file < 92 → decide (header_places file n) ≡ refused 9 []
  unfolding header_places
  short_head l = at_first _ _ (lt-ltb _ _ l)

  long_head : 92 ≤ length file → decide (header_places file n) ≡ decide (places_at file n)
  unfolding header_places
  long_head l = at_next _ _ (le-ltb _ _ l)

  -- whatever the head's length
  either_head : decide (places_at file n) ≡ refused 9 [] → decide (header_places file n) ≡ refused 9 []
  either_head e = ⊎_elim (λ l. short_head l) (λ l. long_head l ∙ e) (below_or (length file) 92)

  pub short_file : n < 92 → decide (header_places file n) ≡ refused 9 []
  short_file l = either_head (too_short l)

  pub wrong_layout : all (fits file) layout ≡ false → decide (header_places file n) ≡ refused 9 []
  unfolding places_at
  wrong_layout e = either_head (nine x (right_format file) (right_sizes file n) (rw e (and-false (leb 92 n))))

  module _ (h : 92 ≤ length file) (l : 92 ≤ n) (laid : all (fits file) layout ≡ true) where
    right_layout : x ≡ true
    right_layout = rw (le-leb 92 n l, laid)

    pub wrong_format : right_format file ≡ false → decide (header_places file n) ≡ refused 10 []
    unfolding places_at
    wrong_format e = long_head h ∙ ten x (right_format file) (right_sizes file n) right_layout e

    pub wrong_lengths : right_format file ≡ true → right_sizes file n ≡ false → decide (header_places file n) ≡ refused 11 []
    unfolding places_at
    wrong_lengths e f = long_head h ∙ eleven x (right_format file) (right_sizes file n) right_layout e f

    pub all_right : right_format file ≡ true → right_sizes file n ≡ true → decide (header_places file n) ≡ accepted
    unfolding places_at
    all_right e f = long_head h ∙ none x (right_format file) (right_sizes file n) right_layout e f

-- ---- the channels of a beginning that is laid out
number_alike : (l v : List ℕ) → T (alike l v) → number_of (take (length v) l) ≤ number_of v
unfolding alike number_of
number_alike l [] h = omega arith
number_alike [] (y ∷ v) h = omega arith
number_alike (x ∷ l) (y ∷ v) h = omega (arith, eqb→eq x y (left (eqb x y) (alike l v) h), number_alike l v (right (eqb x y) (alike l v) h))

-- a claim of each pair's channels
module _ (p : List ℕ) {X : Type 0} (k : (t c : ℕ) → (1 ≤ c) × (c ≤ 6) → T (alike (drop 52 p) (bytes 4 c)) → X) where
  by_pair : (t c : ℕ) → (1 ≤ c) × (c ≤ 6) → T (alike (drop 48 p) (pair t c)) → X
  unfolding bytes
  by_pair t c r a = k t c r (rw (drop-drop 4 48 p) at (alike_after (drop 48 p) (bytes 4 t) (bytes 4 c) a))

  pub with_channels : all (fits p) layout ≡ true → X
  unfolding layout pairs fits
  with_channels h =
      any_elim (alike (drop 48 p)) (pair 1 1 ∷ pair 2 2 ∷ pair 3 3 ∷ pair 4 4 ∷ pair 5 4 ∷ pair 6 5 ∷ pair 7 6 ∷ []) (all_each (fits p) layout (T_of h)).1.1.1.1.1.1.0 (
        by_pair 1 1 (lit≤ tt, lit≤ tt),
        (
          by_pair 2 2 (lit≤ tt, lit≤ tt),
          (by_pair 3 3 (lit≤ tt, lit≤ tt), (by_pair 4 4 (lit≤ tt, lit≤ tt), (by_pair 5 4 (lit≤ tt, lit≤ tt), (by_pair 6 5 (lit≤ tt, lit≤ tt), (by_pair 7 6 (lit≤ tt, lit≤ tt), tt))))),
        ),
      )

pub channels_few : (p : List ℕ) → all (fits p) layout ≡ true → channels p ≤ 6
unfolding channels number_at bytes
channels_few p = with_channels p (λ t c r w. omega (arith, number_alike (drop 52 p) (bytes 4 c) w, number_bytes 4 c (omega arith)))

-- where the count is there
pub channels_range : (p : List ℕ) → all (fits p) layout ≡ true → 56 ≤ length p → (1 ≤ channels p) × (channels p ≤ 6)
unfolding channels number_at bytes
channels_range p h l =
    with_channels p
    (λ t c r w.
    let e : number_of (take 4 (drop 52 p)) ≡ c = ap number_of (alike_take (drop 52 p) (bytes 4 c) (omega (arith, length-drop 52 p)) w) ∙ number_bytes 4 c (omega arith) in
    (omega arith, omega arith)) h
