-- A hopeful beginning has an accepted continuation: its header completed, then zero bytes.
use Rattle.std.proofs.Common.{◌≡◌, sym, ap, ap₂, ◌∙◌, List, [], ◌∷◌, ◌++◌, append_assoc, ⊎_elim, ℕ, ◌+◌, ◌-◌, ◌^◌, ◌≤◌, ◌<◌, arith, T, lit≤, drop-drop, length}
use Rattle.std.proofs.Common.{drop, replicate, length-append, length-drop, drop_of_length-le}
use lib.ListN.{length-replicate}
use Rattle.numbers.proofs.Lists.{below_or}
use Rattle.text.specs.Text.{text}
use Rattle.text.specs.Bytes.{Bytes, number_of, number_at, bytes}
use Rattle.dsf.specs.Dsf.{pair, alike, any, all, fits, layout, pairs, orders, data_bytes, stated_length, channels, sample_count, data_size, needed}
use Rattle.dsf.specs.Headers.{header_with}
use Rattle.dsf_upload.specs.Uploads.{Continued}
use Rattle.dsf_upload.specs.Deciding.{hopeful}
use Rattle.dsf.proofs.Alike.{Alike, fixed_alike, all_each, any_elim, join, alike_append, alike_after, alike_take}
use Rattle.text.proofs.Bytes.{padded, number_padded, number_bytes, number_small, each_append, each_drop, each_bytes, each_padded, each_zeros, cons, none}
use Rattle.dsf.proofs.Numbers.{alike_padded, each_all}
use Rattle.dsf.proofs.Accepted.{is_sound}
use Rattle.dsf.proofs.Headers.{Laid, head, alike_head}
use Rattle.dsf_upload.proofs.Open.{Open, opens}
use Rattle.dsf.proofs.Headers as H
use Rattle.dsf_upload.proofs.Hopeful.{no_data, past}

-- ---- the bytes of a header, each as far as the beginning goes
module _ (p : List ℕ) (o : Open p) (xs : List ℕ) (t c b z : ℕ) where
  abbrev header_of : List ℕ
  header_of = head p o.as_laid_out o.at_frequency xs t c b z

  bytes_head : Bytes p → Bytes xs → Bytes header_of
  unfolding header_with text all
  bytes_head bp bx =
      each_append (each_all (text "DSD ") tt)
      (each_append (each_bytes 8 28)
      (each_append (each_padded 8 xs bx)
      (each_append (each_padded 8 (drop 20 p) (each_drop 20 bp))
      (each_append (each_all (text "fmt ") tt)
      (each_append (each_bytes 8 52)
      (each_append (each_bytes 4 1)
      (each_append (each_bytes 4 0)
      (each_append (each_append (each_bytes 4 t) (each_bytes 4 c))
      (each_append (each_bytes 4 2822400)
      (each_append (each_bytes 4 b)
      (each_append (each_padded 8 (drop 64 p) (each_drop 64 bp))
      (each_append (each_bytes 4 4096)
      (each_append (each_bytes 4 0)
      (each_append (each_all (text "data") tt) (each_bytes 8 z)))))))))))))))

-- ---- the sample count and the channels of a beginning
samples_padded : (p : List ℕ) → number_of (padded 8 (drop 64 p)) ≡ sample_count p
unfolding sample_count number_at
samples_padded p = number_padded 8 (drop 64 p)

no_samples : (p : List ℕ) → length p ≤ 64 → sample_count p ≡ 0
unfolding sample_count number_at number_of
no_samples p h = rw (drop_of_length-le p h)

nothing_needed : (p : List ℕ) → length p ≤ 64 → needed p ≡ 0
unfolding needed
nothing_needed p h = rw (no_samples p h) (no_data (channels p))

pub channels_is : (p : List ℕ) (t c : ℕ) → c < 256 ^ 4 → 56 ≤ length p → Alike (drop 48 p) (pair t c) → channels p ≡ c
unfolding channels number_at bytes
channels_is p t c s h a =
    let w : T (alike (drop 52 p) (bytes 4 c)) = rw (drop-drop 4 48 p) at (alike_after (drop 48 p) (bytes 4 t) (bytes 4 c) a.is) in
    ap number_of (alike_take (drop 52 p) (bytes 4 c) (omega (arith, length-drop 52 p)) w) ∙ number_bytes 4 c s

needed_is : (p : List ℕ) (t c : ℕ) → c < 256 ^ 4 → Alike (drop 48 p) (pair t c) → data_bytes (sample_count p) c ≡ needed p
unfolding needed
needed_is p t c s a =
    ⊎_elim (λ l. rw (no_samples p (omega arith)) (no_data c ∙ sym (no_data (channels p)))) (λ l. ap (data_bytes (sample_count p)) (sym (channels_is p t c s l a)))
    (below_or (length p) 56)

small_padded : (xs : List ℕ) → Bytes xs → number_of (padded 8 xs) < 256 ^ 8
unfolding padded
small_padded xs b = number_small (padded 8 xs) (each_padded 8 xs b)

-- ---- the continuation

module _ (p : List ℕ) (bp : Bytes p) (o : Open p) (xs : List ℕ) (bx : Bytes xs) (ax : Alike (drop 12 p) (padded 8 xs))
    (room : 92 + needed p ≤ number_of (padded 8 xs)) (within : length p ≤ number_of (padded 8 xs)) where
  module _ (t c b : ℕ) (few : (1 ≤ c) × (c ≤ 6))
      (laid : Laid t c b)
      (apair : Alike (drop 48 p) (pair t c)) (abits : Alike (drop 60 p) (bytes 4 b)) where
    small : c < 256 ^ 4
    small = omega arith

    abbrev size : ℕ
    size = 12 + needed p

    abbrev h : List ℕ
    h = header_of p o xs t c b size

    abbrev stated : ℕ
    stated = number_of (padded 8 xs)

    abbrev zeros : List ℕ
    zeros = replicate (stated - (92 + (length p - 92))) 0

    abbrev r : List ℕ
    r = drop 92 p ++ zeros

    ninety_two : length h ≡ 92
    ninety_two = H.length_header xs (drop 20 p) t c b (drop 64 p) size []

    long : length (h ++ r) ≡ stated
    long =
        omega (arith, length-append h r, ninety_two, length-append (drop 92 p) zeros, length-drop 92 p, length-replicate {A = ℕ} (stated - (92 + (length p - 92))) 0)

    joined : p ++ (drop (length p) h ++ zeros) ≡ h ++ r
    joined =
        let a = alike_head p o.as_laid_out o.at_frequency xs t c b size ax apair abits (fixed_alike p 84 (bytes 8 size) o.sized) in
        let e : p ++ drop (length p) h ≡ h ++ drop 92 p = rw ninety_two at (join p h a) in
        sym (append_assoc p (drop (length p) h) zeros) ∙ ap (λ (l : List ℕ). l ++ zeros) e ∙ append_assoc h (drop 92 p) zeros

    below : stated < 256 ^ 8
    below = small_padded xs bx

    same_samples : sample_count (h ++ r) ≡ sample_count p
    same_samples = H.read_samples xs (drop 20 p) t c b (drop 64 p) size r ∙ samples_padded p

    same_needed : needed (h ++ r) ≡ needed p
    unfolding needed
    same_needed = ap₂ data_bytes same_samples (H.read_channels xs (drop 20 p) t c b (drop 64 p) size r ∙ number_bytes 4 c small) ∙ needed_is p t c small apair

    same_size : data_size (h ++ r) ≡ 12 + needed p
    same_size = H.read_size xs (drop 20 p) t c b (drop 64 p) size r ∙ number_bytes 8 size (omega (arith, below))

    pub completed : Continued p
    completed =
        record {
          rest = drop (length p) h ++ zeros;
          are_bytes = each_append (each_drop (length p) (bytes_head p o xs t c b size bp bx)) (each_zeros (stated - (92 + (length p - 92))));
          accepted =
              rw joined
              (is_sound (h ++ r)
              (record {
                long = omega (arith, long);
                as_laid_out = laid xs (drop 20 p) (drop 64 p) size r;
                at_frequency = H.read_frequency xs (drop 20 p) t c b (drop 64 p) size r;
                whole = rw same_samples o.whole;
                stated = H.read_stated xs (drop 20 p) t c b (drop 64 p) size r ∙ sym long;
                sized = same_size ∙ ap (λ (n : ℕ). 12 + n) (sym same_needed);
                ends = omega (arith, long, same_size);
              }));
        }

-- ---- which pair of type and channels, which bit order, and a stated length that is there or can be made large
module _ (p : List ℕ) (laid_out : T (all (fits p) layout)) {X : Type 0}
    (k : (t c b : ℕ) → (1 ≤ c) × (c ≤ 6) → Laid t c b → Alike (drop 48 p) (pair t c) → Alike (drop 60 p) (bytes 4 b) → X) where
  with_bits : (t c : ℕ) → (1 ≤ c) × (c ≤ 6) → Laid t c 1 → Laid t c 8 → T (alike (drop 48 p) (pair t c)) → X
  unfolding layout pairs orders fits
  with_bits t c small one eight a =
      any_elim (alike (drop 60 p)) (bytes 4 1 ∷ bytes 4 8 ∷ []) (all_each (fits p) layout laid_out).1.1.1.1.1.1.1.0
      (λ e. k t c 1 small one (record { is = a }) (record { is = e }), (λ e. k t c 8 small eight (record { is = a }) (record { is = e }), tt))

  pub with_pair : X
  unfolding layout pairs orders fits any all alike header_with text bytes padded
  with_pair =
      any_elim (alike (drop 48 p)) (pair 1 1 ∷ pair 2 2 ∷ pair 3 3 ∷ pair 4 4 ∷ pair 5 4 ∷ pair 6 5 ∷ pair 7 6 ∷ []) (all_each (fits p) layout laid_out).1.1.1.1.1.1.0 (
        with_bits 1 1 (lit≤ tt, lit≤ tt) (λ xs ys ns z r. tt) (λ xs ys ns z r. tt),
        (
          with_bits 2 2 (lit≤ tt, lit≤ tt) (λ xs ys ns z r. tt) (λ xs ys ns z r. tt),
          (
            with_bits 3 3 (lit≤ tt, lit≤ tt) (λ xs ys ns z r. tt) (λ xs ys ns z r. tt),
            (
              with_bits 4 4 (lit≤ tt, lit≤ tt) (λ xs ys ns z r. tt) (λ xs ys ns z r. tt),
              (
                with_bits 5 4 (lit≤ tt, lit≤ tt) (λ xs ys ns z r. tt) (λ xs ys ns z r. tt),
                (
                  with_bits 6 5 (lit≤ tt, lit≤ tt) (λ xs ys ns z r. tt) (λ xs ys ns z r. tt),
                  (
                    with_bits 7 6 (lit≤ tt, lit≤ tt) (λ xs ys ns z r. tt) (λ xs ys ns z r. tt),
                    tt,
                  ),
                ),
              ),
            ),
          ),
        ),
      )

-- the stated length with 1 as its last byte
large : (l : List ℕ) → 256 ^ 7 ≤ number_of (padded 8 (padded 7 l ++ (1 ∷ [])))
unfolding padded number_of
large l = omega arith

cut : (l : List ℕ) → length l ≤ 7 → T (alike l (padded 8 (padded 7 l ++ (1 ∷ []))))
unfolding padded
cut l h = alike_append l (padded 7 l) (1 ∷ []) (alike_padded 7 l) (past l 7 (1 ∷ []) h)

pub continues : (p : List ℕ) → Bytes p → T (hopeful p) → Continued p
unfolding stated_length number_at
continues p bp hp = ⊎_elim early late (below_or (length p) 20)
  where
    o : Open p
    o = opens p hp

    early : length p < 20 → Continued p
    early l =
        let xs = padded 7 (drop 12 p) ++ (1 ∷ []) in
        let bx = each_append (each_padded 7 (drop 12 p) (each_drop 12 bp)) (cons {x = 1} (omega arith) none) in
        let n = nothing_needed p (omega arith) in
        let ax : Alike (drop 12 p) (padded 8 xs) = record { is = cut (drop 12 p) (omega (arith, length-drop 12 p)) } in
        with_pair p o.as_laid_out (completed p bp o xs bx ax (omega (arith, large (drop 12 p))) (omega (arith, large (drop 12 p))))

    late : 20 ≤ length p → Continued p
    late l =
        let e = number_padded 8 (drop 12 p) in
        with_pair p o.as_laid_out (completed p bp o (drop 12 p) (each_drop 12 bp) (record { is = alike_padded 8 (drop 12 p) }) (rw e (o.room l)) (rw e (o.within l)))
