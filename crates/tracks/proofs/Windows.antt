-- A piece out of windows of files is the piece out of the files.
use Rattle.std.proofs.Common.{◌≡◌, refl, sym, ap, subst, ◌∙◌, cond, ⊎_elim, List, [], ◌∷◌, map, ℕ, ◌+◌, ◌-◌, ◌*◌, ◌/◌, ◌%◌, ◌≤◌, ◌<◌, mul_assoc}
use Rattle.std.proofs.Common.{mul-le-mul_right, mod-lt, le-div_iff_mul-le, div-lt_iff_lt-mul, div-add-mod', arith, ltb, get_or, lt-ltb, le-ltb}
use Rattle.numbers.specs.Lists.{Each}
use Rattle.numbers.proofs.Lists.{tabulate_same, below_or}
use Rattle.reference.specs.Frames.{frame_length, idle}
use Rattle.dsf.specs.Dsf.{blocks, data_place, channels, bits_per_sample, sample_count, sample_byte, file_data}
use Rattle.dsf.specs.Reading.{HeadOf, file_header}
use Rattle.dsf.specs.declared.DsfHeader.{DsfHeader}
use Rattle.dsf.proofs.Head.{header_right}
use Rattle.dsf_columns.proofs.Blocks.{group, place_below}
use Rattle.tracks.specs.Tracks.{Head, Track, head_of, track_of, heads, head_length, all_length, tracks_frames, tracks_bytes, tracks_frame}
use Rattle.tracks.specs.inner.Tracks.{track_byte, tracks_byte}
use Rattle.tracks.specs.Windows.{low, high, own_from, own_to, read_start, read_end, read_bytes, windowed_data, windowed, HeadsOf, WindowAt, WindowsFrom, WindowedPiece}
use Rattle.tracks.proofs.Bytes.{Alike, bytes_by_position}
use Rattle.tracks.proofs.Sequences.{run_same}

-- ---- heads tell their files' numbers
module _ (f : List ℕ) (h : Head) (g : HeadOf f h.bytes h.long) where
  pub same_header : file_header h.bytes ≡ file_header f
  same_header = (header_right f h.bytes h.long g).1

  pub same_channels : channels h.bytes ≡ channels f
  unfolding file_header
  same_channels = ap (λ (d : DsfHeader). d.channels) same_header

  pub same_bits : bits_per_sample h.bytes ≡ bits_per_sample f
  unfolding file_header
  same_bits = ap (λ (d : DsfHeader). d.bits_per_sample) same_header

  pub same_samples : sample_count h.bytes ≡ sample_count f
  unfolding file_header
  same_samples = ap (λ (d : DsfHeader). d.samples) same_header

  pub same_length : head_length h ≡ head_length (head_of f)
  unfolding head_length
  same_length = ap (λ (k : ℕ). k / 8) same_samples

pub heads_windowed : (n a b o p : ℕ) (w : List ℕ) (hs : List Head) → heads (windowed n a b o p w hs) ≡ hs
unfolding windowed
heads_windowed n a b o p w [] = refl
heads_windowed n a b o p w (h ∷ hs) = ap (λ (l : List Head). h ∷ l) (heads_windowed n a b (o + head_length h) (p + read_bytes n h o a b) w hs)

pub same_all_length : (fs : List (List ℕ)) (hs : List Head) → HeadsOf fs hs → all_length hs ≡ all_length (heads (map track_of fs))
unfolding all_length
same_all_length [] [] g = refl
same_all_length [] (h ∷ hs) g = absurd g
same_all_length (f ∷ fs) [] g = absurd g
same_all_length (f ∷ fs) (h ∷ hs) g = rw (same_length f h g.0, same_all_length fs hs g.1) refl

alike_windowed : (n a b o p : ℕ) (w : List ℕ) (hs : List Head) → Each (λ h. channels h.bytes ≡ n) hs → Alike n (windowed n a b o p w hs)
unfolding windowed
alike_windowed n a b o p w [] e = tt
alike_windowed n a b o p w (h ∷ hs) e = (e.0, alike_windowed n a b (o + head_length h) (p + read_bytes n h o a b) w hs e.1)

pub alike_files : (n : ℕ) (fs : List (List ℕ)) (hs : List Head) → HeadsOf fs hs → Each (λ h. channels h.bytes ≡ n) hs → Alike n (map track_of fs)
alike_files n [] [] g e = tt
alike_files n [] (h ∷ hs) g e = absurd g
alike_files n (f ∷ fs) [] g e = absurd g
alike_files n (f ∷ fs) (h ∷ hs) g e = (sym (same_channels f h g.0) ∙ e.0, alike_files n fs hs g.1 e.1)

-- ---- a byte
module _ (n a b c : ℕ) (w : List ℕ) (l : c < n) where
  -- what is read of a track has the blocks of its bytes that lie there
  module _ (f : List ℕ) (h : Head) (g : HeadOf f h.bytes h.long) (e : channels h.bytes ≡ n) (o p : ℕ) (d : WindowAt n f h o a b p w) (q : ℕ) (from : a ≤ o + q) (to : o + q < b)
      (own : q < head_length h) where
    after : own_from o a ≤ q
    after = omega arith

    before : q < own_to h o b
    before = omega arith

    begins : read_start n h o a b ≤ data_place n c q
    unfolding read_start data_place
    begins =
        let lower : own_from o a / 4096 * 4096 ≤ q / 4096 * 4096 = omega (arith, after) in
        rw (lt-ltb (own_from o a) (own_to h o b) (omega (arith, after, before))) (omega (arith, mul-le-mul_right n lower, group (q / 4096) n))

    ends : data_place n c q < read_end n h o a b
    unfolding read_end blocks
    ends =
        rw (lt-ltb (own_from o a) (own_to h o b) (omega (arith, after, before)))
        (place_below n c q l ((own_to h o b + 4095) / 4096) (omega (arith, before)))

    data_same : windowed_data (read_start n h o a b) p w (data_place n c q) ≡ file_data f (data_place n c q)
    data_same =
        let j = data_place n c q - read_start n h o a b in
        let whole : read_start n h o a b + j ≡ data_place n c q = omega (arith, begins) in
        d.holds j (omega (arith, begins, ends)) ∙ ap (file_data f) whole

    byte_same : sample_byte (windowed_data (read_start n h o a b) p w) (channels h.bytes) (bits_per_sample h.bytes) (sample_count h.bytes) c q ≡ track_byte (track_of f) c q
    unfolding sample_byte
    byte_same = rw (← same_channels f h g, ← same_bits f h g, ← same_samples f h g, e, data_same) refl

  bytes_same : (o p : ℕ) (fs : List (List ℕ)) (hs : List Head) → HeadsOf fs hs → Each (λ h. channels h.bytes ≡ n) hs → WindowsFrom n a b o p w fs hs
      → (q : ℕ) → a ≤ o + q → o + q < b → tracks_byte (windowed n a b o p w hs) c q ≡ tracks_byte (map track_of fs) c q
  unfolding windowed tracks_byte
  bytes_same o p [] [] g e d q from to = refl
  bytes_same o p [] (h ∷ hs) g e d q from to = absurd g
  bytes_same o p (f ∷ fs) [] g e d q from to = absurd g
  bytes_same o p (f ∷ fs) (h ∷ hs) g e d q from to =
      ⊎_elim inside (λ m. behind m (bytes_same (o + head_length h) (p + read_bytes n h o a b) fs hs g.1 e.1 d.1 (q - head_length h) (omega arith) (omega arith))) (below_or q (head_length h))
    where
      tail : List Track
      tail = windowed n a b (o + head_length h) (p + read_bytes n h o a b) w hs

      mine : ℕ
      mine = sample_byte (windowed_data (read_start n h o a b) p w) (channels h.bytes) (bits_per_sample h.bytes) (sample_count h.bytes) c q

      inside : q < head_length h
          → cond (ltb q (head_length h)) mine (tracks_byte tail c (q - head_length h))
          ≡ cond (ltb q (head_length (head_of f))) (track_byte (track_of f) c q) (tracks_byte (map track_of fs) c (q - head_length (head_of f)))
      inside m = rw (← same_length f h g.0, lt-ltb q (head_length h) m) (byte_same f h g.0 e.0 o p d.0 q from to m)

      behind : head_length h ≤ q → tracks_byte tail c (q - head_length h) ≡ tracks_byte (map track_of fs) c (q - head_length h)
          → cond (ltb q (head_length h)) mine (tracks_byte tail c (q - head_length h))
          ≡ cond (ltb q (head_length (head_of f))) (track_byte (track_of f) c q) (tracks_byte (map track_of fs) c (q - head_length (head_of f)))
      behind m later = rw (← same_length f h g.0, le-ltb q (head_length h) m) later

-- ---- a frame
module _ (n a b : ℕ) (w : List ℕ) (fs : List (List ℕ)) (hs : List Head) (g : HeadsOf fs hs) (e : Each (λ h. channels h.bytes ≡ n) hs) (d : WindowsFrom n a b 0 0 w fs hs) where
  turn_same : (j : ℕ) → a * n ≤ j → j < b * n → get_or (tracks_bytes (windowed n a b 0 0 w hs)) j idle ≡ get_or (tracks_bytes (map track_of fs)) j idle
  turn_same j from to = ⊎_elim none some (below_or 0 n)
    where
      none : 0 < n → get_or (tracks_bytes (windowed n a b 0 0 w hs)) j idle ≡ get_or (tracks_bytes (map track_of fs)) j idle
      none h =
          let c = j % n in
          let p = j / n in
          let l : c < n = mod-lt j h in
          let whole : p * n + c ≡ j = div-add-mod' j n in
          let lower : a ≤ p = (le-div_iff_mul-le {k = n} {x = a} {y = j} h).1 from in
          let upper : p < b = (div-lt_iff_lt-mul {k = n} {x = j} {y = b} h).1 to in
          subst (λ (i : ℕ). get_or (tracks_bytes (windowed n a b 0 0 w hs)) i idle ≡ get_or (tracks_bytes (map track_of fs)) i idle) whole
          (bytes_by_position n (windowed n a b 0 0 w hs) (alike_windowed n a b 0 0 w hs e) c p l
          ∙ bytes_same n a b c w l 0 0 fs hs g e d p (omega (arith, lower)) (omega (arith, upper))
          ∙ sym (bytes_by_position n (map track_of fs) (alike_files n fs hs g e) c p l))

      some : n ≤ 0 → get_or (tracks_bytes (windowed n a b 0 0 w hs)) j idle ≡ get_or (tracks_bytes (map track_of fs)) j idle
      some h = let z : n ≡ 0 = omega arith in absurd (omega (arith, rw z at to))

  frame_same : (k : ℕ) → a ≤ k * 4704 → k * 4704 + 4704 ≤ b → tracks_frame n (windowed n a b 0 0 w hs) k ≡ tracks_frame n (map track_of fs) k
  unfolding tracks_frame
  frame_same k from to =
      tabulate_same (λ j. get_or (tracks_bytes (windowed n a b 0 0 w hs)) j idle) (λ j. get_or (tracks_bytes (map track_of fs)) j idle) (k * frame_length n) (k * frame_length n) (frame_length n)
      (λ i h.
      let lower = mul-le-mul_right n from in
      let upper = mul-le-mul_right n to in
      let at : k * (4704 * n) ≡ k * 4704 * n = sym (mul_assoc k 4704 n) in
      turn_same (k * frame_length n + i) (omega (arith, lower, at)) (omega (arith, upper, at)))

pub windowed_piece : WindowedPiece
unfolding tracks_frames
windowed_piece n fs hs first count w g e within d =
    let a = low first * 4704 in
    let b = high hs first count * 4704 in
    let out : tracks_frames (heads (windowed n a b 0 0 w hs)) ≡ tracks_frames hs = ap tracks_frames (heads_windowed n a b 0 0 w hs) in
    let whole : tracks_frames (heads (map track_of fs)) ≡ tracks_frames hs = rw (same_all_length fs hs g) refl in
    rw (out, whole)
    (run_same (tracks_frame n (windowed n a b 0 0 w hs)) (tracks_frame n (map track_of fs)) (tracks_frames hs) first count
    (λ h. frame_same n a b w fs hs g e d (first - 1) (omega arith) (omega (arith, within)))
    (λ k h. frame_same n a b w fs hs g e d (first + k) (omega arith) (omega (arith, within)))
    (λ h. frame_same n a b w fs hs g e d (first + count) (omega arith) (omega (arith, within))))
