use Rattle.std.proofs.Common.{min, ◌≡◌, refl, sym, ap, subst, ◌∙◌, ⊎_elim, List, [], ◌∷◌, ◌++◌, append-nil, append_assoc, ℕ, zero, suc, ◌+◌, ◌-◌, ◌*◌, ◌≤◌, ◌<◌}
use Rattle.std.proofs.Common.{zero-add, zero-mul, add-mul, mul_assoc, mul_comm, mul-le-mul_right, add-one, arith, length, get_or, take, drop, replicate}
use Rattle.std.proofs.Common.{length-append, length-drop, drop_of_length-le, get_or-take, get_or-drop, get_or-append-add, take_at, drop_at, take_all}
-- Frames gathered from tracks.
use mathlib.Core.List.{flat_map}
use native.Mathlib.Nat.{mul-sub, sub-zero, min-eq_right}
use lib.ListN.{length-replicate, get_or-replicate, get_or-append, get_or-eq_default}
use lib.Seq.{drop-nil}
use Rattle.numbers.specs.Lists.{tabulate}
use Rattle.numbers.proofs.Lists.{tabulate_join, length_tabulate, is_tabulate, get_d_any, below_or}
use Rattle.text.specs.Text.{with_text, Printed}
use Rattle.text.proofs.Printing.{then, filled}
use Rattle.reference.specs.Frames.{frame_length, idle}
use Rattle.dsf.specs.Dsf.{channels, bits_per_sample, sample_count, turn_byte}
use Rattle.tracks.specs.Runs.{frames_from}
use Rattle.tracks.specs.Tracks.{Track, heads, head_length, all_length, track_bytes, tracks_bytes, tracks_frame}
use Rattle.tracks.specs.TracksToFiles.{clip}
use Rattle.tracks.proofs.Bytes.{Alike, length_track, length_tracks}
use Rattle.tracks.proofs.Parts.{clip_none, clip_join, length_clip}
use Rattle.tracks.proofs.Sequences.{none_from, from_one, from_join}
use Rattle.tracks_put.specs.inner.Putting.{stretch}
use Rattle.tracks_put.specs.inner.Placing.{with_track, with_fill}
use Rattle.tracks_put.proofs.Pieces.{with_none}
use Rattle.tracks_gather.specs.inner.Gathering.{with_tracks, fill_at}

-- the first of a tabulated list, and those behind a place
take_tabulate : (f : ℕ → ℕ) (m n : ℕ) → take m (tabulate f 0 n) ≡ tabulate f 0 (min n m)
take_tabulate f m n = ⊎_elim less more (below_or m n)
  where
    less : m < n → take m (tabulate f 0 n) ≡ tabulate f 0 (min n m)
    less h =
        let e : m + (n - m) ≡ n = omega arith in
        let g : min n m ≡ m = omega arith in
        rw (g, ← e, tabulate_join f 0 m (n - m)) (take_at (tabulate f 0 m) (tabulate f (0 + m) (n - m)) m (length_tabulate f 0 m))

    more : n ≤ m → take m (tabulate f 0 n) ≡ tabulate f 0 (min n m)
    more h =
        let g : min n m ≡ n = omega arith in
        rw g (take_all m (tabulate f 0 n) (omega (arith, length_tabulate f 0 n)))

drop_tabulate : (f : ℕ → ℕ) (m n : ℕ) → drop m (tabulate f 0 n) ≡ tabulate f m (n - m)
unfolding tabulate
drop_tabulate f m n = ⊎_elim less more (below_or n m)
  where
    less : n < m → drop m (tabulate f 0 n) ≡ tabulate f m (n - m)
    less h =
        let e : n - m ≡ 0 = omega arith in
        rw e (drop_of_length-le (tabulate f 0 n) {i = m} (omega (arith, length_tabulate f 0 n)))

    more : m ≤ n → drop m (tabulate f 0 n) ≡ tabulate f m (n - m)
    more h =
        let e : m + (n - m) ≡ n = omega arith in
        ap (λ (x : ℕ). drop m (tabulate f 0 x)) (sym e) ∙ rw (tabulate_join f 0 m (n - m), zero-add m) (drop_at (tabulate f 0 m) (tabulate f m (n - m)) m (length_tabulate f 0 m))

-- ---- a track's bytes that lie there
sub_times : (a o n : ℕ) → a * n - o * n ≡ (a - o) * n
sub_times a o n = rw (mul_comm a n, mul_comm o n, mul_comm (a - o) n) (sym (mul-sub n a o))

min_times : (l k n : ℕ) → min (l * n) (k * n) ≡ min l k * n
min_times l k n = ⊎_elim less more (below_or l k)
  where
    less : l < k → min (l * n) (k * n) ≡ min l k * n
    less h =
        let e : l ≤ k = omega arith in
        let g : min l k ≡ l = omega arith in
        rw g (omega (arith, mul-le-mul_right n e))

    more : k ≤ l → min (l * n) (k * n) ≡ min l k * n
    more h =
        let g : min l k ≡ k = omega arith in
        rw g (omega (arith, mul-le-mul_right n h))

lesser_times : (l k m n : ℕ) → min (l * n) (k * n) - m * n ≡ (min l k - m) * n
lesser_times l k m n = rw (min_times l k n) (sub_times (min l k) m n)

own_clip : (t : Track) (o a b : ℕ)
    → let n = channels t.head.bytes in
    stretch t.read n (bits_per_sample t.head.bytes) (sample_count t.head.bytes) (a - o) (min (head_length t.head) (b - o)) ≡ clip (a * n) (b * n) (o * n) (track_bytes t)
unfolding stretch clip track_bytes
own_clip t o a b =
    let n = channels t.head.bytes in
    let byte = turn_byte t.read n (bits_per_sample t.head.bytes) (sample_count t.head.bytes) in
    sym
    (rw (
      sub_times a o n,
      sub_times b o n,
      take_tabulate byte ((b - o) * n) (head_length t.head * n),
      drop_tabulate byte ((a - o) * n) (min (head_length t.head * n) ((b - o) * n)),
      lesser_times (head_length t.head) (b - o) (a - o) n,
    ) refl)

stretch_clip : (t : Track) (n o a b : ℕ) → channels t.head.bytes ≡ n
    → stretch t.read n (bits_per_sample t.head.bytes) (sample_count t.head.bytes) (a - o) (min (head_length t.head) (b - o)) ≡ clip (a * n) (b * n) (o * n) (track_bytes t)
stretch_clip t n o a b e =
    subst (λ (n : ℕ). stretch t.read n (bits_per_sample t.head.bytes) (sample_count t.head.bytes) (a - o) (min (head_length t.head) (b - o))
    ≡ clip (a * n) (b * n) (o * n) (track_bytes t)) e (own_clip t o a b)

-- ---- texts one after the other
two_texts : (old s t : List ℕ) (at : ℕ) → at ≡ length s → with_text (with_text old 0 s) at t ≡ with_text old 0 (s ++ t)
two_texts old s t at e =
    let p : Printed s old 0 (with_text old 0 s) at = record { written = refl; after = e ∙ sym (zero-add (length s)) } in
    let q : Printed t (with_text old 0 s) at (with_text (with_text old 0 s) at t) (at + length t) = record { written = refl; after = refl } in
    (then p q).written

module _ (n a b : ℕ) (old : List ℕ) where
  abbrev A : ℕ
  A = a * n

  abbrev B : ℕ
  B = b * n

  no_clip : (o : ℕ) (l : List ℕ) → b ≤ o → clip A B (o * n) l ≡ []
  unfolding clip
  no_clip o l h =
      let z : b * n - o * n ≡ 0 = omega (arith, mul-le-mul_right n h) in
      rw (z, drop-nil (a * n - o * n)) refl

  clip_long : (o : ℕ) (x : List ℕ) → length x ≡ o * n → o ≤ b → (o - a) * n ≡ length (clip A B 0 x)
  clip_long o x e h =
      let m : min (b * n) (o * n) ≡ o * n = min-eq_right (mul-le-mul_right n h) in
      sym (length_clip A B 0 x ∙ rw (sub-zero (b * n), sub-zero (a * n), e, m) (sub_times o a n))

  next : (o : ℕ) (x y : List ℕ) → length x ≡ o * n → with_text (with_text old 0 (clip A B 0 x)) ((o - a) * n) (clip A B (o * n) y) ≡ with_text old 0 (clip A B 0 (x ++ y))
  next o x y e =
      let both : clip A B 0 (x ++ y) ≡ clip A B 0 x ++ clip A B (o * n) y = clip_join A B 0 x y ∙ rw (zero-add (length x), e) refl in
      rw both (⊎_elim late early (below_or b o))
    where
      early : o ≤ b → with_text (with_text old 0 (clip A B 0 x)) ((o - a) * n) (clip A B (o * n) y) ≡ with_text old 0 (clip A B 0 x ++ clip A B (o * n) y)
      early h = two_texts old (clip A B 0 x) (clip A B (o * n) y) ((o - a) * n) (clip_long o x e h)

      late : b < o → with_text (with_text old 0 (clip A B 0 x)) ((o - a) * n) (clip A B (o * n) y) ≡ with_text old 0 (clip A B 0 x ++ clip A B (o * n) y)
      late h = rw (no_clip o y (omega arith), with_none (with_text old 0 (clip A B 0 x)) ((o - a) * n), append-nil) refl

  -- after the tracks whose bytes are x, the others
  others : (ts : List Track) → Alike n ts → (o : ℕ) (x : List ℕ) → length x ≡ o * n
      → with_tracks n a b o ts (with_text old 0 (clip A B 0 x)) ≡ with_text old 0 (clip A B 0 (x ++ tracks_bytes ts))
  unfolding with_tracks with_track tracks_bytes flat_map head_length
  others [] e o x l = rw (append-nil x) refl
  others (t ∷ ts) e o x l =
      let long : length (x ++ track_bytes t) ≡ (o + head_length t.head) * n = length-append x (track_bytes t) ∙ rw (l, length_track t, e.0) (sym (add-mul o (head_length t.head) n)) in
      rw (stretch_clip t n o a b e.0, next o x (track_bytes t) l) (others ts e.1 (o + head_length t.head) (x ++ track_bytes t) long ∙ rw (append_assoc x (track_bytes t) (tracks_bytes ts)) refl)

  all_tracks : (ts : List Track) → Alike n ts → with_tracks n a b 0 ts old ≡ with_text old 0 (clip A B 0 (tracks_bytes ts))
  all_tracks ts e =
      ap (with_tracks n a b 0 ts) (sym (rw (clip_none A B 0) (with_none old 0))) ∙ others ts e 0 [] (sym (zero-mul n))

  -- ---- and idle bytes behind them
  module _ (l : List ℕ) (total : ℕ) (long : length l ≡ total * n) (order : a ≤ b) (lent : length old ≡ (b - a) * n) where
    abbrev s : List ℕ
    s = clip A B 0 l

    s_long : fill_at n total a b ≡ length s
    s_long =
        sym (length_clip A B 0 l ∙ rw (sub-zero (b * n), sub-zero (a * n), long) (ap (λ (x : ℕ). x - a * n) least ∙ lesser_times total b a n))
      where
        least : min (b * n) (total * n) ≡ min (total * n) (b * n)
        least = omega arith

    s_fits : length s ≤ length old
    s_fits =
        let m : min total b - a ≤ b - a = omega arith in
        omega (arith, s_long, lent, mul-le-mul_right n m)

    same_length : length (with_text old 0 s) ≡ length old
    unfolding with_text
    same_length = length-append s (drop (0 + length s) old) ∙ omega (arith, length-drop (0 + length s) old, s_fits)

    rest : List ℕ
    rest = replicate (length old - length s) idle

    filled_up : with_fill (fill_at n total a b) (with_text old 0 s) ≡ s ++ rest
    unfolding with_fill rest
    filled_up =
        rw (same_length, s_long)
        (two_texts old s rest (length s) refl
        ∙ filled (record { written = refl; after = refl }) (sym (length-append s rest ∙ omega (arith, s_fits, length-replicate (length old - length s) idle))))

    byte_there : (i : ℕ) → i < (b - a) * n → get_or (s ++ rest) i 0 ≡ get_or l (a * n + i) idle
    unfolding rest clip
    byte_there i h = ⊎_elim inside behind (below_or i (length s))
      where
        inside : i < length s → get_or (s ++ rest) i 0 ≡ get_or l (a * n + i) idle
        inside g =
            let e : a * n + i < length l = omega (arith, length_clip A B 0 l, sub-zero (a * n), sub-zero (b * n)) in
            let k : a * n + i < b * n = omega (arith, length_clip A B 0 l, sub-zero (a * n), sub-zero (b * n)) in
            get_or-append s rest 0 i g
            ∙ rw (sub-zero (a * n), sub-zero (b * n), get_or-drop (a * n) (take (b * n) l) i 0, get_or-take (b * n) l (a * n + i) 0 k) (get_d_any l (a * n + i) 0 idle e)

        past : (i : ℕ) → i < (b - a) * n → length s ≤ i → length l ≤ a * n + i
        past i h g = omega (arith, length_clip A B 0 l, sub-zero (a * n), sub-zero (b * n), sub_times b a n)

        behind : length s ≤ i → get_or (s ++ rest) i 0 ≡ get_or l (a * n + i) idle
        behind g =
            let k : length s + (i - length s) ≡ i = omega arith in
            ap (λ (x : ℕ). get_or (s ++ rest) x 0) (sym k) ∙ get_or-append-add s rest (i - length s) 0
            ∙ get_or-replicate (length old - length s) (i - length s) idle 0 (omega (arith, lent))
            ∙ sym (get_or-eq_default l idle {n = a * n + i} (past i h g))

    stretch_of : with_fill (fill_at n total a b) (with_text old 0 s) ≡ tabulate (λ j. get_or l j idle) (a * n) ((b - a) * n)
    unfolding rest
    stretch_of =
        filled_up
        ∙ is_tabulate (λ j. get_or l j idle) (a * n) ((b - a) * n) 0 (s ++ rest) (length-append s rest ∙ rest_long) byte_there
      where
        rest_long : length s + length rest ≡ (b - a) * n
        rest_long = omega (arith, s_fits, lent, length-replicate (length old - length s) idle)

-- ---- frames
frames_tabulate : (G : ℕ → ℕ) (size first count : ℕ) → frames_from (λ k. tabulate G (k * size) size) first count ≡ tabulate G (first * size) (count * size)
unfolding tabulate
frames_tabulate G size first zero = none_from (λ k. tabulate G (k * size) size) first ∙ rw (zero-mul size) refl
frames_tabulate G size first (suc count) =
    let e : suc count * size ≡ count * size + size = omega arith in
    let g : first * size + count * size ≡ (first + count) * size = sym (add-mul first count size) in
    let F : ℕ → List ℕ = λ k. tabulate G (k * size) size in
    ap (frames_from F first) (sym (add-one count)) ∙ from_join F first count 1
    ∙ rw (from_one F (first + count), frames_tabulate G size first count, e, tabulate_join G (first * size) (count * size) size, g) refl

-- frames `low` to `high`, whatever the buffer held
pub gathered_frames : (n : ℕ) (ts : List Track) → Alike n ts → (low high : ℕ) (old : List ℕ) → low ≤ high → length old ≡ (high - low) * frame_length n
    → with_fill (fill_at n (all_length (heads ts)) (low * 4704) (high * 4704)) (with_tracks n (low * 4704) (high * 4704) 0 ts old) ≡ frames_from (tracks_frame n ts) low (high - low)
unfolding tracks_frame
gathered_frames n ts e low high old order lent =
    let a = low * 4704 in
    let b = high * 4704 in
    let G : ℕ → ℕ = λ j. get_or (tracks_bytes ts) j idle in
    let parts : b - a ≡ (high - low) * 4704 = omega arith in
    let size : (b - a) * n ≡ (high - low) * (4704 * n) = rw parts (mul_assoc (high - low) 4704 n) in
    rw (all_tracks n a b old ts e)
    (stretch_of n a b old (tracks_bytes ts) (all_length (heads ts)) (length_tracks n ts e) (omega arith) (lent ∙ sym size)
    ∙ rw (size, mul_assoc low 4704 n) (sym (frames_tabulate G (4704 * n) low (high - low))))
