-- The first 92 bytes and the length decide whether a file is hopeful, and where it turns hopeless.
use Rattle.std.proofs.Common.{◌≡◌, refl, sym, ap, ◌∙◌, List, [], ◌∷◌, true, false, ◌&&◌, ◌||◌, ⊎_elim, ℕ, ◌+◌, ◌%◌, ◌≤◌, ◌<◌, arith, T, T_not, eqb, ltb, leb}
use Rattle.std.proofs.Common.{le→leb, ltb→lt, lt-ltb, length, take, take-take, take_all, length-take-le}
use Rattle.numbers.proofs.Lists.{below_or}
use Rattle.reference.specs.Refusals.{decide, is_accepted}
use Rattle.text.specs.Bytes.{bytes}
use Rattle.dsf.specs.Dsf.{fixed, layout, frequency, all, fits, stated_length, sample_count, needed, accepts}
use Rattle.dsf.specs.Reading.{HeadOf, header_places}
use Rattle.dsf.proofs.Alike.{T_of, F_of, left, right, both, or_elim, or_right, ends_by}
use Rattle.dsf.proofs.Head.{header_right, fits_same, layout_same, frequency_same, samples_same, needed_same, stated_same}
use Rattle.dsf_upload.specs.Theorems.{Seen}
use Rattle.dsf_upload.specs.Uploads.{OfEvery, known, known_length, HeadPromise}
use Rattle.dsf_upload.specs.declared.Upload.{Upload}
use Rattle.dsf_upload.specs.Deciding.{head_hopeful, hopeful}

module _ (l m : List ℕ) (e : take 92 l ≡ take 92 m) where
  size_same : (k : ℕ) → fits l (fixed 84 (bytes 8 k)) ≡ fits m (fixed 84 (bytes 8 k))
  unfolding ends_by all bytes
  size_same k = fits_same l m e (fixed 84 (bytes 8 k)) tt

  hopeful_same : (n : ℕ) → head_hopeful l n ≡ head_hopeful m n
  unfolding head_hopeful all
  hopeful_same n = rw (layout_same l m e, frequency_same l m e, needed_same l m e, size_same (12 + needed m), samples_same l m e, stated_same l m e)

own_hopeful : (p : List ℕ) → hopeful p ≡ head_hopeful p (length p)
unfolding hopeful
own_hopeful p = refl

pub prefix_hopeful : (l : List ℕ) (m : ℕ) → m ≤ length l → head_hopeful (take m l) m ≡ hopeful (take m l)
prefix_hopeful l m h = sym (own_hopeful (take m l) ∙ ap (head_hopeful (take m l)) (length-take-le m l h))

module _ {file head : List ℕ} {n : ℕ} (h : HeadOf file head n) where
  pub accepts_same : is_accepted (decide (header_places head n)) ≡ accepts file
  unfolding accepts
  accepts_same = ap is_accepted (header_right file head n h).0

  pub file_hopeful_same : head_hopeful head n ≡ hopeful file
  file_hopeful_same = sym (own_hopeful file ∙ ap (head_hopeful file) h.long ∙ hopeful_same file head h.begins n)

longer_head : (p : List ℕ) (n m : ℕ) → 20 ≤ m → n ≤ stated_length p → T (head_hopeful p m) → T (head_hopeful p n)
unfolding head_hopeful
longer_head p n m l h t =
    let a = all (fits p) layout in
    let b = all (fits p) (frequency ∷ fixed 84 (bytes 8 (12 + needed p)) ∷ []) in
    let c = eqb (sample_count p % 8) 0 in
    let d = leb (92 + needed p) (stated_length p) in
    let t1 = right a (b && (c && (ltb m 20 || d && leb m (stated_length p)))) t in
    let t2 = right b (c && (ltb m 20 || d && leb m (stated_length p))) t1 in
    let t3 = right c (ltb m 20 || d && leb m (stated_length p)) t2 in
    let t4 : T (d && leb m (stated_length p)) = or_elim (ltb m 20) (d && leb m (stated_length p)) t3 (λ q. absurd (omega (arith, ltb→lt m 20 q))) (λ q. q) in
    both a (b && (c && (ltb n 20 || d && leb n (stated_length p)))) (left a (b && (c && (ltb m 20 || d && leb m (stated_length p)))) t)
    (both b (c && (ltb n 20 || d && leb n (stated_length p))) (left b (c && (ltb m 20 || d && leb m (stated_length p))) t1)
    (both c (ltb n 20 || d && leb n (stated_length p)) (left c (ltb m 20 || d && leb m (stated_length p)) t2)
    (or_right (ltb n 20) (d && leb n (stated_length p)) (both d (leb n (stated_length p)) (left d (leb m (stated_length p)) t4) (le→leb n (stated_length p) h)))))

-- ---- giving up: the beginnings that are looked at lie within the head, and past the header the stated length counts
module _ (head : List ℕ) (n : ℕ) (short : length head < 92 → n ≡ length head) (k : head_hopeful head n ≡ false) where
  not_whole : (m : ℕ) → length head ≤ m → length head < 92 → hopeful (take m head) ≡ true → ⊥
  not_whole m b l h =
      let w : head_hopeful head n ≡ true = rw (short l) (sym (own_hopeful head) ∙ (rw (take_all m head b) at h)) in
      T_not (head_hopeful head n) (F_of k) (T_of w)

  pub inside_head : (m : ℕ) → m < 92 → hopeful (take m head) ≡ true → m < length head
  inside_head m l h = ⊎_elim (λ b. b) (λ b. absurd (not_whole m b (omega arith) h)) (below_or m (length head))

  pub stated_past : hopeful (take 92 head) ≡ true → stated_length head < n
  stated_past h =
      let l : 92 ≤ length head = ⊎_elim (λ b. absurd (not_whole 92 (omega arith) b h)) (λ b. b) (below_or (length head) 92) in
      let t = hopeful_same head (take 92 head) (sym (take-take 92 92 head (omega arith))) 92 ∙ prefix_hopeful head 92 l ∙ h in
      ⊎_elim (λ b. b) (λ b. absurd (T_not (head_hopeful head n) (F_of k) (longer_head head n 92 (omega arith) b (T_of t)))) (below_or (stated_length head) n)

-- ---- the bytes that count
module _ {file head : List ℕ} {n : ℕ} (h : HeadOf file head n) where
  short : n < 92 → length head ≡ n
  short l =
      let e : take 92 file ≡ file = take_all 92 file (omega (arith, h.long)) in
      let s : length (take 92 head) ≡ n = ap length (sym h.begins ∙ e) ∙ h.long in
      ⊎_elim (λ k. let t : length (take 92 head) ≡ length head = ap length (take_all 92 head (omega arith)) in
      omega arith) (λ k. absurd (omega (arith, length-take-le 92 head k))) (below_or (length head) 92)

  long_head : 92 ≤ n → 92 ≤ length head
  long_head l =
      let s : length (take 92 head) ≡ 92 = ap length (sym h.begins) ∙ length-take-le 92 file (omega (arith, h.long)) in
      ⊎_elim (λ k. let t : length (take 92 head) ≡ length head = ap length (take_all 92 head (omega arith)) in absurd (omega arith)) (λ k. k) (below_or (length head) 92)

  seen_of : HeadOf file (take (known head n) head) (known_length head n)
  seen_of =
      ⊎_elim
      (λ l.
      let k : known head n ≡ n = omega (arith, short l) in
      let within : length head ≤ n = omega (arith, short l) in
      rw (k, lt-ltb n 92 l) (record { begins = h.begins ∙ ap (take 92) (sym (take_all n head within)); long = h.long }))
      (λ l.
      let k : known head n ≡ 92 = omega (arith, long_head l) in
      rw k (record { begins = h.begins ∙ sym (take-take 92 92 head (omega arith)); long = h.long }))
      (below_or n 92)

pub seen : Seen
seen file head n h = seen_of h

-- the answer for the bytes that count
module _ (head : List ℕ) (n k : ℕ) (e : k ≡ known head n) (answer : Upload) where
  pub short_known : k < 92 → OfEvery (take k head) k answer → HeadPromise head n answer
  short_known l p = rw (← e, lt-ltb k 92 l) p

  pub long_known : 92 ≤ k → OfEvery (take 92 head) n answer → HeadPromise head n answer
  long_known l p = let z : known head n ≡ 92 = omega arith in rw z p
