-- The byte at a position is the byte of the frame that holds it, or idle where none does.
use Rattle.std.proofs.Common.{◌≡◌, refl, sym, ap, ◌∙◌, ⊎_elim, Bool, true, false, cond, List, [], ◌∷◌, ◌++◌, ℕ, zero, suc, ◌+◌, ◌-◌, ◌*◌, ◌/◌, ◌%◌, ◌≤◌, ◌<◌}
use Rattle.std.proofs.Common.{mul-le-mul_right, arith, eq-eqb, ne_eqb, le-leb, lt-ltb, leb-true, ltb, leb, eqb, length, get_or, take, drop, length-append}
use Rattle.std.proofs.Common.{length-drop, get_or-append-add, get_or-take, get_or-drop, length-take-le}
use borrow.Author.Tests.{lt-leb, eqb-false}
use lib.Arith.{digits_lt}
use lib.ListN.{length-replicate, get_or-replicate, get_or-append, get_or-eq_default}
use borrow.Rule.Slice.PartMut.{put_mid}
use Rattle.numbers.specs.inner.Lists.{Held}
use Rattle.numbers.proofs.Lists.{below_or, part_end}
use Rattle.reference.specs.Frames.{frame_length, frame, neighbour, sequence, channel_byte}
use Rattle.channel_bytes.specs.inner.Lent.{lent_run, Lent, frame_part, byte_at}

-- a neighbour's frame and the slice that is lent for it
module _ (ch : ℕ) (bytes : List ℕ) (one : 0 < length bytes → length bytes ≡ frame_length ch) where
  near_length : length (neighbour ch (ltb 0 (length bytes)) bytes) ≡ frame_length ch
  unfolding neighbour
  near_length = go bytes one
    where
      go : (l : List ℕ) → (0 < length l → length l ≡ frame_length ch) → length (neighbour ch (ltb 0 (length l)) l) ≡ frame_length ch
      go [] h = length-replicate (frame_length ch) 0x69
      go (b ∷ l) h = rw (lt-ltb 0 (length (b ∷ l)) (omega arith)) (h (omega arith))

  near_at : (j : ℕ) → j < frame_length ch → get_or (neighbour ch (ltb 0 (length bytes)) bytes) j 0x69 ≡ get_or bytes j 0x69
  unfolding neighbour
  near_at = go bytes
    where
      go : (l : List ℕ) (j : ℕ) → j < frame_length ch → get_or (neighbour ch (ltb 0 (length l)) l) j 0x69 ≡ get_or l j 0x69
      go [] j l = get_or-replicate (frame_length ch) j 0x69 0x69 l
      go (b ∷ l) j m = rw (lt-ltb 0 (length (b ∷ l)) (omega arith))

module _ {ch count : ℕ} {b f a : List ℕ} (lent : Lent ch count b f a) where
  abbrev size : ℕ
  size = frame_length ch

  abbrev first : List ℕ
  first = neighbour ch (ltb 0 (length b)) b

  abbrev last : List ℕ
  last = neighbour ch (ltb 0 (length a)) a

  -- byte j of frame q
  in_frame : (q j : ℕ) → j < size → get_or (sequence ch (lent_run b f a)) (q * size + j) 0x69 ≡ get_or (frame_part ch count b f a q) j 0x69
  unfolding sequence lent_run frame_part frame
  in_frame zero j l =
      let e : 0 * size + j ≡ j = omega arith in
      rw e (get_or-append first (f ++ last) 0x69 j (omega (arith, near_length ch b lent.first)) ∙ near_at ch b lent.first j l)
  in_frame (suc q) j l =
      let e : suc q * size + j ≡ length first + (q * size + j) = omega (arith, near_length ch b lent.first) in
      let p : suc q - 1 ≡ q = omega arith in
      rw (e, ne_eqb (suc q) 0 (λ z. omega arith), p)
      (get_or-append-add first (f ++ last) (q * size + j) 0x69 ∙ ⊎_elim inner (λ m. ⊎_elim (outside m) (after m) (below_or count q)) (below_or q count))
    where
      Here : Type 0
      Here = get_or (f ++ last) (q * size + j) 0x69
          ≡ get_or (cond (leb (suc q) count) (take size (drop (q * size) f)) (cond (eqb (suc q) (count + 1)) a [])) j 0x69

      inner : q < count → Here
      inner m =
          rw (le-leb (suc q) count m)
          (get_or-append f last 0x69 (q * size + j) (omega (arith, lent.whole, digits_lt m l))
          ∙ sym (get_or-take size (drop (q * size) f) j 0x69 l ∙ get_or-drop (q * size) f j 0x69))

      after : count ≤ q → q ≤ count → Here
      after n m =
          let e : q * size + j ≡ length f + j = omega (arith, lent.whole, ap (λ k. k * size) same) in
          rw (lt-leb (suc q) count (omega arith), eq-eqb (suc q) (count + 1) (omega arith), e)
          (get_or-append-add f last j 0x69 ∙ near_at ch a lent.last j l)
        where
          same : q ≡ count
          same = omega arith

      outside : count ≤ q → count < q → Here
      outside n m =
          rw (lt-leb (suc q) count (omega arith), ne_eqb (suc q) (count + 1) (λ e. omega arith))
          (get_or-eq_default (f ++ last) 0x69 (omega (arith, length-append f last, near_length ch a lent.last, lent.whole, mul-le-mul_right size m)))

  -- byte off of frame q, of channel c
  held : (c q off : ℕ) → c < ch → off < 4704 → byte_at ch b f a c (q * 4704 + off) ≡ get_or (frame_part ch count b f a q) (off * ch + c) 0x69
  unfolding byte_at channel_byte
  held c q off m l =
      let e : (q * 4704 + off) * ch + c ≡ q * size + (off * ch + c) = omega arith in
      ap (λ (i : ℕ). get_or (sequence ch (lent_run b f a)) i 0x69) e ∙ in_frame q (off * ch + c) (digits_lt l m)

  -- a part that is handed back is nothing or one frame
  pub part_length : (q : ℕ) {part : List ℕ} → part ≡ frame_part ch count b f a q → 0 < length part → length part ≡ frame_length ch
  unfolding frame_part frame
  part_length q e = rw e (go (eqb q 0) refl (leb q count) refl (eqb q (count + 1)))
    where
      One : List ℕ → Type 0
      One l = 0 < length l → length l ≡ frame_length ch

      go : (t : Bool) → eqb q 0 ≡ t → (u : Bool) → leb q count ≡ u → (w : Bool) → One (cond t b (cond u (take size (drop ((q - 1) * size) f)) (cond w a [])))
      go true d u g w = lent.first
      go false d true g w =
          λ some. length-take-le size (drop ((q - 1) * size) f)
          (omega (arith, length-drop ((q - 1) * size) f, lent.whole, part_end (q - 1) count size (omega (arith, leb-true q count g, eqb-false q 0 d))))
      go false d false g true = lent.last
      go false d false g false = λ some. absurd (omega arith)

  -- m bytes more, of the frame that holds position p + k, to the places from k on
  pub gathered : (c p k m : ℕ) {part x y : List ℕ} → c < ch → (p + k) % 4704 + m ≤ 4704 → k + m ≤ length x → length y ≡ m → part ≡ frame_part ch count b f a ((p + k) / 4704)
      → Held 0 (byte_at ch b f a c) p k x → Held 0 (λ j. get_or part (j * ch + c) 0x69) ((p + k) % 4704) m y → Held 0 (byte_at ch b f a c) p (k + m) (put_mid k m x y)
  gathered c p k m {part} {x} {y} l room within long e old new = record { is = λ j s. ⊎_elim (before j) (more j s) (below_or j k) }
    where
      front : length (take k x) ≡ k
      front = length-take-le k x (omega arith)

      before : (j : ℕ) → j < k → get_or (put_mid k m x y) j 0 ≡ byte_at ch b f a c (p + j)
      before j t = get_or-append (take k x) _ 0 j (omega (arith, front)) ∙ get_or-take k x j 0 t ∙ old.is j t

      more : (j : ℕ) → j < k + m → k ≤ j → get_or (put_mid k m x y) j 0 ≡ byte_at ch b f a c (p + j)
      more j s t =
          let i : length (take k x) + (j - k) ≡ j = omega (arith, front) in
          let n : p + j ≡ (p + k) / 4704 * 4704 + ((p + k) % 4704 + (j - k)) = omega arith in
          ap (λ z. get_or (put_mid k m x y) z 0) (sym i)
          ∙ get_or-append-add (take k x) _ (j - k) 0
          ∙ get_or-append y _ 0 (j - k) (omega arith)
          ∙ new.is (j - k) (omega arith)
          ∙ ap (λ (z : List ℕ). get_or z (((p + k) % 4704 + (j - k)) * ch + c) 0x69) e
          ∙ sym (ap (byte_at ch b f a c) n ∙ held c ((p + k) / 4704) ((p + k) % 4704 + (j - k)) l (omega arith))
