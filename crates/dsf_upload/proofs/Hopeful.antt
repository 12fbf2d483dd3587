-- A beginning of an accepted file is hopeful.
use Rattle.std.proofs.Common.{◌≡◌, ap, ap₂, ◌∙◌, List, ◌++◌, ⊎_elim, ℕ, ◌+◌, ◌*◌, ◌/◌, ◌%◌, ◌≤◌, ◌<◌, mul-le-mul, zero-mul, arith, T, length, drop}
use Rattle.std.proofs.Common.{length-append, drop_of_length-le}
use Rattle.numbers.proofs.Lists.{below_or}
use Rattle.text.specs.Text.{text}
use Rattle.text.specs.Bytes.{Bytes, bytes}
use Rattle.dsf.specs.Dsf.{fixed, alike, all, fits, layout, pairs, orders, frequency, blocks, data_bytes, stated_length, channels, sample_count, data_size, needed, accepts}
use Rattle.dsf_upload.specs.Deciding.{hopeful}
use Rattle.dsf.proofs.Alike.{all_map, fits_begin, alike_fixed, alike_begin_at, ends_by, all_map_where, fits_longer}
use Rattle.text.proofs.Bytes.{number_at_begin, number_same}
use Rattle.dsf.proofs.Numbers.{eighths_at, field_alike}
use Rattle.dsf.proofs.Accepted.{Sound, sound}
use Rattle.dsf_upload.proofs.Open.{Open, is_open}

pub data_more : (m n c d : ℕ) → m ≤ n → c ≤ d → data_bytes m c ≤ data_bytes n d
unfolding data_bytes blocks
data_more m n c d h k =
    let b : (m / 8 + 4095) / 4096 * 4096 ≤ (n / 8 + 4095) / 4096 * 4096 = omega arith in
    mul-le-mul b k

pub no_data : (c : ℕ) → data_bytes 0 c ≡ 0
unfolding data_bytes blocks
no_data c = zero-mul c

pub past : (p : List ℕ) (at : ℕ) (v : List ℕ) → length p ≤ at → T (alike (drop at p) v)
unfolding alike
past p at v h = rw (drop_of_length-le p h) tt

pub size_alike : (file : List ℕ) → Bytes file → 92 ≤ length file → T (alike (drop 84 file) (bytes 8 (data_size file)))
unfolding data_size
size_alike file b h = field_alike file 84 8 b h

module _ (p q : List ℕ) where
  pub needed_begin : needed p ≤ needed (p ++ q)
  unfolding needed sample_count channels
  needed_begin = data_more _ _ _ _ (number_at_begin 64 8 p q) (number_at_begin 52 4 p q)

  pub needed_same : 72 ≤ length p → needed (p ++ q) ≡ needed p
  unfolding needed sample_count channels
  needed_same h = ap₂ data_bytes (number_same 64 8 p q h) (number_same 52 4 p q (omega arith))

  pub stated_same : 20 ≤ length p → stated_length (p ++ q) ≡ stated_length p
  unfolding stated_length
  stated_same h = number_same 12 8 p q h

  whole_begin : sample_count (p ++ q) % 8 ≡ 0 → sample_count p % 8 ≡ 0
  unfolding sample_count
  whole_begin h = eighths_at 64 8 p q h

  pub begins : Bytes (p ++ q) → T (accepts (p ++ q)) → T (hopeful p)
  begins b a =
      let s = sound (p ++ q) a in
      let l = length-append p q in
      is_open p
      (record {
        as_laid_out = all_map (fits (p ++ q)) (fits p) layout (fits_begin p q) s.as_laid_out;
        at_frequency = fits_begin p q frequency s.at_frequency;
        sized = alike_fixed p 84 (bytes 8 (12 + needed p)) (⊎_elim (λ k. last k s) (λ k. past p 84 (bytes 8 (12 + needed p)) k) (below_or 84 (length p)));
        whole = whole_begin s.whole;
        room = λ h. omega (arith, needed_begin, stated_same h, s.stated, s.sized, s.ends);
        within = λ h. omega (arith, stated_same h, s.stated);
      })
    where
      last : 84 < length p → Sound (p ++ q) (length (p ++ q)) → T (alike (drop 84 p) (bytes 8 (12 + needed p)))
      last k s =
          let e : data_size (p ++ q) ≡ 12 + needed p = s.sized ∙ ap (λ (n : ℕ). 12 + n) (needed_same (omega arith)) in
          alike_begin_at 84 p q (bytes 8 (12 + needed p)) (rw e at (size_alike (p ++ q) b s.long))

-- ---- past the header only the stated length counts
module _ (p q : List ℕ) (h : 92 ≤ length p) where
  whole_longer : sample_count p % 8 ≡ 0 → sample_count (p ++ q) % 8 ≡ 0
  unfolding sample_count
  whole_longer e = rw (number_same 64 8 p q (omega arith)) e

  size_ends : T (ends_by 92 (fixed 84 (bytes 8 (12 + needed p))))
  unfolding ends_by all bytes
  size_ends = tt

  pub layout_longer : T (all (fits p) layout) → T (all (fits (p ++ q)) layout)
  unfolding ends_by all layout pairs orders bytes text
  layout_longer t = all_map_where (fits p) (fits (p ++ q)) (ends_by 92) layout (fits_longer p q 92 h) tt t

  pub frequency_longer : T (fits p frequency) → T (fits (p ++ q) frequency)
  unfolding ends_by all frequency bytes
  frequency_longer t = fits_longer p q 92 h frequency tt t

  pub longer : Open p → length (p ++ q) ≤ stated_length p → Open (p ++ q)
  longer o l =
      let n = needed_same p q (omega arith) in
      let s = stated_same p q (omega arith) in
      record {
        as_laid_out = layout_longer o.as_laid_out;
        at_frequency = frequency_longer o.at_frequency;
        sized = rw n (fits_longer p q 92 h (fixed 84 (bytes 8 (12 + needed p))) size_ends o.sized);
        whole = whole_longer o.whole;
        room = λ m. omega (arith, n, s, o.room (omega arith));
        within = λ m. omega (arith, s);
      }
