-- The first 92 bytes and the length decide: the tests on them are the file's.
use Rattle.std.proofs.Common.{◌≡◌, refl, sym, ap, ap₂, ◌∙◌, List, [], ◌∷◌, Bool, ◌&&◌, ◌||◌, ⊎_elim, ℕ, zero, suc, ◌+◌, ◌≤◌, ◌<◌, arith, T, eqb, leb, leb→le}
use Rattle.std.proofs.Common.{lt-ltb, le-ltb, length, take, drop, take-take, take_all, length-take-le}
use Rattle.numbers.proofs.Lists.{below_or}
use Rattle.reference.specs.Refusals.{decide}
use Rattle.reference.proofs.Refusals.{at_first, at_next}
use Rattle.text.specs.Bytes.{number_of, number_at, bytes}
use Rattle.dsf.specs.Dsf.{Field, pairs, orders, layout, frequency, alike, any, all, fits, stated_length, channel_type}
use Rattle.dsf.specs.Dsf.{channels, bits_per_sample, sample_count, data_size, data_bytes, needed, frames, places_at, file_places}
use Rattle.text.specs.Text.{text}
use Rattle.dsf.specs.Theorems.{HeaderRight}
use Rattle.dsf.specs.Reading.{file_header, header_places}
use Rattle.dsf.proofs.Alike.{left, right, alike_nil, ends_by}
use Rattle.dsf.proofs.Tests.{too_short}

-- ---- a part within the first n
part : (a s n : ℕ) (l : List ℕ) → a + s ≤ n → take s (drop a (take n l)) ≡ take s (drop a l)
part zero s n l h = take-take s n l (omega arith)
part (suc a) s zero l h = absurd (omega arith)
part (suc a) s (suc n) [] h = refl
part (suc a) s (suc n) (x ∷ l) h = part a s n l (omega arith)

alike_front : (l v : List ℕ) → alike (take (length v) l) v ≡ alike l v
unfolding alike
alike_front l [] = sym (alike_nil l)
alike_front [] (y ∷ v) = refl
alike_front (x ∷ l) (y ∷ v) = ap (λ (b : Bool). eqb x y && b) (alike_front l v)

any_same : {A : Type 0} (f g h : A → Bool) (l : List A) → ((x : A) → T (h x) → f x ≡ g x) → T (all h l) → any f l ≡ any g l
unfolding any all
any_same f g h [] k a = refl
any_same f g h (x ∷ l) k a = ap₂ (λ (u v : Bool). u || v) (k x (left (h x) (all h l) a)) (any_same f g h l k (right (h x) (all h l) a))

all_same : {A : Type 0} (f g h : A → Bool) (l : List A) → ((x : A) → T (h x) → f x ≡ g x) → T (all h l) → all f l ≡ all g l
unfolding all
all_same f g h [] k a = refl
all_same f g h (x ∷ l) k a = ap₂ (λ (u v : Bool). u && v) (k x (left (h x) (all h l) a)) (all_same f g h l k (right (h x) (all h l) a))

-- ---- two lists that begin alike
module _ (l m : List ℕ) (e : take 92 l ≡ take 92 m) where
  pub take_same : (k : ℕ) → k ≤ 92 → take k l ≡ take k m
  take_same k h = sym (take-take k 92 l h) ∙ ap (take k) e ∙ take-take k 92 m h

  part_same : (a s : ℕ) → a + s ≤ 92 → take s (drop a l) ≡ take s (drop a m)
  part_same a s h = sym (part a s 92 l h) ∙ ap (λ (x : List ℕ). take s (drop a x)) e ∙ part a s 92 m h

  pub number_same : (a s : ℕ) → a + s ≤ 92 → number_at l a s ≡ number_at m a s
  unfolding number_at
  number_same a s h = ap number_of (part_same a s h)

  pub fits_same : (f : Field) → T (ends_by 92 f) → fits l f ≡ fits m f
  unfolding fits ends_by
  fits_same f h =
      any_same (alike (drop f.start l)) (alike (drop f.start m)) (λ v. leb (f.start + length v) 92) f.values
      (λ v k. sym (alike_front (drop f.start l) v) ∙ ap (λ (x : List ℕ). alike x v) (part_same f.start (length v) (leb→le _ _ k)) ∙ alike_front (drop f.start m) v) h

  pub layout_same : all (fits l) layout ≡ all (fits m) layout
  unfolding ends_by all layout pairs orders bytes text
  layout_same = all_same (fits l) (fits m) (ends_by 92) layout fits_same tt

  pub frequency_same : fits l frequency ≡ fits m frequency
  unfolding ends_by all frequency bytes
  frequency_same = fits_same frequency tt

  pub samples_same : sample_count l ≡ sample_count m
  unfolding sample_count
  samples_same = number_same 64 8 (omega arith)

  pub needed_same : needed l ≡ needed m
  unfolding needed channels
  needed_same = ap₂ data_bytes samples_same (number_same 52 4 (omega arith))

  pub stated_same : stated_length l ≡ stated_length m
  unfolding stated_length
  stated_same = number_same 12 8 (omega arith)

  data_same : data_size l ≡ data_size m
  unfolding data_size
  data_same = number_same 84 8 (omega arith)

  pub places_same : (n : ℕ) → places_at l n ≡ places_at m n
  unfolding places_at
  places_same n = rw (layout_same, frequency_same, samples_same, stated_same, data_same, needed_same)

  pub header_same : file_header l ≡ file_header m
  unfolding file_header channel_type channels bits_per_sample frames
  header_same = rw (number_same 48 4 (omega arith), number_same 52 4 (omega arith), number_same 60 4 (omega arith), samples_same)

-- a whole file as its own head
pub whole_head : (file : List ℕ) → decide (header_places file (length file)) ≡ decide (file_places file)
unfolding header_places file_places
whole_head file = ⊎_elim (λ l. at_first _ _ (lt-ltb (length file) 92 l) ∙ sym (too_short file (length file) l)) (λ l. at_next _ _ (le-ltb (length file) 92 l)) (below_or (length file) 92)

pub header_right : HeaderRight
unfolding header_places file_places
header_right file head n h =
    let same = places_same head file (sym h.begins) in (
      ⊎_elim (λ l. at_first _ _ (lt-ltb (length head) 92 l) ∙ sym (too_short file (length file) (omega (arith, shorter l))))
          (λ l. at_next _ _ (le-ltb (length head) 92 l) ∙ ap decide (rw h.long (same n))) (below_or (length head) 92),
      header_same head file (sym h.begins),
    )
  where
    shorter : length head < 92 → length file < 92
    shorter l =
        ⊎_elim (λ k. k) (λ k. absurd (omega (arith, length-take-le 92 file k, ap length h.begins, ap length (take_all 92 head (omega arith))))) (below_or (length file) 92)
