-- Request 9: a written file is accepted, of the kind that is written, and read back as the frames.
use Rattle.std.proofs.Common.{◌≡◌, refl, sym, ap, ap₂, ◌∙◌, List, [], ◌++◌, Bool, true, false, cond, ℕ, zero, suc, ◌+◌, ◌*◌, ◌/◌, ◌%◌, ◌^◌, ◌≤◌, ◌<◌}
use Rattle.std.proofs.Common.{mul-le-mul, mul_assoc, div-add-mod', mod-lt, div-lt_iff_lt-mul, arith, T, leb, ltb, lt→ltb, ltb→lt, length, get_or, take, drop}
use Rattle.std.proofs.Common.{length-append, length-drop, get_or-append-add, get_or-take, get_or-drop, length-take-le}
use Rattle.numbers.specs.Lists.{tabulate}
use Rattle.numbers.proofs.Lists.{part_end, length_tabulate, get_d_tabulate, is_tabulate}
use Rattle.reference.specs.Frames.{frame, frame_count}
use Rattle.text.specs.Text.{text}
use Rattle.text.specs.Bytes.{Bytes, number_at, bytes}
use Rattle.dsf.specs.Dsf.{alike, any, all, fits, layout, pairs, orders, blocks, data_bytes, data_place, stated_length}
use Rattle.dsf.specs.Dsf.{channel_type, channels, bits_per_sample, sample_count, data_size, needed, accepts, frames, frames_in}
use Rattle.dsf.specs.Dsf.{turned, our_byte, sample_byte, turn_byte, data_frame, file_data, file_frame}
use Rattle.dsf.specs.inner.Dsf.{file_byte}
use Rattle.dsf.specs.Headers.{header_with}
use Rattle.dsf.proofs.Alike.{pick, skip}
use Rattle.text.proofs.Bytes.{padded, number_bytes}
use Rattle.dsf.proofs.Accepted.{is_sound}
use Rattle.dsf.proofs.Headers.{Laid}
use Rattle.dsf.proofs.Headers as H
use Rattle.dsf_columns.proofs.Blocks.{place_below}
use Rattle.dsf_columns.proofs.Turned.{turned_twice}
use Rattle.dsf_write.specs.Written.{type_of, written_channel, written_data, written_byte, written, Writable, Plain}
use Rattle.dsf_write.specs.Theorems.{DsfWrittenRead}
use Rattle.dsf_write.proofs.Places.{channel_is, byte_is}

-- ---- 1 to 6 channels
module _ (P : ℕ → Type 0) (p1 : P 1) (p2 : P 2) (p3 : P 3) (p4 : P 4) (p5 : P 5) (p6 : P 6) where
  pub by_channels : (n : ℕ) → 1 ≤ n → n ≤ 6 → P n
  by_channels zero a b = absurd (omega arith)
  by_channels (suc zero) a b = p1
  by_channels (suc (suc zero)) a b = p2
  by_channels (suc (suc (suc zero))) a b = p3
  by_channels (suc (suc (suc (suc zero)))) a b = p4
  by_channels (suc (suc (suc (suc (suc zero))))) a b = p5
  by_channels (suc (suc (suc (suc (suc (suc zero)))))) a b = p6
  by_channels (suc (suc (suc (suc (suc (suc (suc n))))))) a b = absurd (omega arith)

laid : (n : ℕ) → 1 ≤ n → n ≤ 6 → Laid (type_of n) n 1
unfolding type_of layout pairs orders fits any all alike header_with text bytes padded
laid =
    by_channels (λ n. Laid (type_of n) n 1) (λ xs ys ns z r. tt) (λ xs ys ns z r. tt) (λ xs ys ns z r. tt) (λ xs ys ns z r. tt) (λ xs ys ns z r. tt) (λ xs ys ns z r. tt)

type_small : (n : ℕ) → n ≤ 6 → type_of n < 256 ^ 4
unfolding type_of
type_small n h = go (leb n 4)
  where
    go : (b : Bool) → cond b n (n + 1) < 256 ^ 4
    go true = omega arith
    go false = omega arith

module _ (n : ℕ) (fr : List ℕ) (w : Writable n fr) where
  abbrev m : ℕ
  m = written_channel n fr

  abbrev d : ℕ
  d = written_data n fr

  abbrev F : List ℕ
  F = written n fr

  abbrev body : List ℕ
  body = tabulate (written_byte n fr) 0 d

  abbrev hd : List ℕ
  hd = H.h (bytes 8 (92 + d)) (bytes 8 0) (type_of n) n 1 (bytes 8 (8 * m)) (12 + d) []

  is_file : F ≡ hd ++ body
  unfolding written padded bytes
  is_file = refl

  m_small : m ≤ 540000 * 4704
  unfolding written_channel
  m_small = omega (arith, w.few)

  d_is : d ≡ blocks m * 4096 * n
  unfolding written_data data_bytes
  d_is = let e : 8 * m / 8 ≡ m = omega arith in rw e

  d_small : d ≤ (540000 * 4704 + 4095) * 6
  unfolding blocks
  d_small =
      let e : (m + 4095) / 4096 * 4096 ≤ 540000 * 4704 + 4095 = omega (arith, m_small) in
      rw d_is (mul-le-mul e w.six)

  -- what is read
  is_stated : stated_length F ≡ 92 + d
  unfolding padded bytes
  is_stated = ap stated_length is_file ∙ H.read_stated (bytes 8 (92 + d)) (bytes 8 0) (type_of n) n 1 (bytes 8 (8 * m)) (12 + d) body ∙ number_bytes 8 (92 + d) (omega (arith, d_small))

  is_pointer : number_at F 20 8 ≡ 0
  unfolding padded bytes
  is_pointer = rw is_file (H.read_pointer (bytes 8 (92 + d)) (bytes 8 0) (type_of n) n 1 (bytes 8 (8 * m)) (12 + d) body ∙ number_bytes 8 0 (omega arith))

  is_type : channel_type F ≡ type_of n
  is_type = ap channel_type is_file ∙ H.read_type (bytes 8 (92 + d)) (bytes 8 0) (type_of n) n 1 (bytes 8 (8 * m)) (12 + d) body ∙ number_bytes 4 (type_of n) (type_small n w.six)

  is_channels : channels F ≡ n
  is_channels = ap channels is_file ∙ H.read_channels (bytes 8 (92 + d)) (bytes 8 0) (type_of n) n 1 (bytes 8 (8 * m)) (12 + d) body ∙ number_bytes 4 n (omega (arith, w.six))

  is_bits : bits_per_sample F ≡ 1
  is_bits = ap bits_per_sample is_file ∙ H.read_bits (bytes 8 (92 + d)) (bytes 8 0) (type_of n) n 1 (bytes 8 (8 * m)) (12 + d) body ∙ number_bytes 4 1 (omega arith)

  is_samples : sample_count F ≡ 8 * m
  unfolding padded bytes
  is_samples = ap sample_count is_file ∙ H.read_samples (bytes 8 (92 + d)) (bytes 8 0) (type_of n) n 1 (bytes 8 (8 * m)) (12 + d) body ∙ number_bytes 8 (8 * m) (omega (arith, m_small))

  is_size : data_size F ≡ 12 + d
  is_size = ap data_size is_file ∙ H.read_size (bytes 8 (92 + d)) (bytes 8 0) (type_of n) n 1 (bytes 8 (8 * m)) (12 + d) body ∙ number_bytes 8 (12 + d) (omega (arith, d_small))

  is_length : length F ≡ 92 + d
  is_length = ap length is_file
      ∙ omega (arith, length-append hd body, H.length_header (bytes 8 (92 + d)) (bytes 8 0) (type_of n) n 1 (bytes 8 (8 * m)) (12 + d) [], length_tabulate (written_byte n fr) 0 d)

  is_needed : needed F ≡ d
  unfolding needed written_data
  is_needed = ap₂ data_bytes is_samples is_channels

  is_laid : T (all (fits F) layout)
  is_laid = rw is_file (unfold padded bytes in laid n w.one w.six (bytes 8 (92 + d)) (bytes 8 0) (bytes 8 (8 * m)) (12 + d) body)

  pub written_accepted : T (accepts F)
  written_accepted =
      is_sound F
      (record {
        long = omega (arith, is_length);
        as_laid_out = is_laid;
        at_frequency = rw is_file (H.read_frequency (bytes 8 (92 + d)) (bytes 8 0) (type_of n) n 1 (bytes 8 (8 * m)) (12 + d) body);
        whole = omega (arith, is_samples);
        stated = is_stated ∙ sym is_length;
        sized = omega (arith, is_size, is_needed);
        ends = omega (arith, is_size, is_length);
      })

  is_channel_length : sample_count F / 8 ≡ m
  is_channel_length = omega (arith, is_samples)

  pub written_frames : frames F ≡ frame_count n fr
  unfolding frames frames_in written_channel
  written_frames = omega (arith, is_channel_length)

  -- ---- bytes of the data
  body_at : (j : ℕ) → j < d → get_or F (92 + j) 0 ≡ written_byte n fr j
  body_at j l =
      let z : 0 + j ≡ j = omega arith in
      let e : get_or (hd ++ body) (92 + j) 0 ≡ get_or body j 0 = rw (H.length_header (bytes 8 (92 + d)) (bytes 8 0) (type_of n) n 1 (bytes 8 (8 * m)) (12 + d) []) at (get_or-append-add hd body j 0) in
      ap (λ (l : List ℕ). get_or l (92 + j) 0) is_file ∙ e ∙ get_d_tabulate (written_byte n fr) 0 d j 0 l ∙ ap (written_byte n fr) z

  module _ (c q : ℕ) (h : c < n) (l : q < blocks m * 4096) where
    in_data : data_place n c q < d
    in_data = rw d_is (place_below n c q h (blocks m) l)

    placed : get_or F (92 + data_place n c q) 0 ≡ cond (ltb q m) (turned (get_or fr (q * n + c) 0)) 0
    unfolding written_byte
    placed = body_at (data_place n c q) in_data ∙ rw (byte_is n c q h, channel_is n c q h)

  m_blocks : m ≤ blocks m * 4096
  unfolding blocks
  m_blocks = omega arith

  written_file_byte : Bytes fr → (c q : ℕ) → c < n → q < m → file_byte F c q ≡ get_or fr (q * n + c) 0
  unfolding sample_byte our_byte
  written_file_byte b c q h l =
      rw (is_channel_length, is_bits, is_channels)
      (pick (ltb q m) _ _ (lt→ltb q m l)
      ∙ ap turned (placed c q h (omega (arith, m_blocks)) ∙ pick (ltb q m) _ _ (lt→ltb q m l))
      ∙ turned_twice _ (b.each (q * n + c)))

  -- byte j of all channels in turn
  abbrev turn : ℕ → ℕ
  turn = turn_byte (file_data F) (channels F) (bits_per_sample F) (sample_count F)

  written_turn : Bytes fr → (j : ℕ) → j < m * n → turn j ≡ get_or fr j 0
  unfolding turn_byte
  written_turn b j l =
      ap (λ (k : ℕ). file_byte F (j % k) (j / k)) is_channels
      ∙ written_file_byte b (j % n) (j / n) (mod-lt j w.one) ((div-lt_iff_lt-mul w.one).1 l)
      ∙ ap (λ (k : ℕ). get_or fr k 0) (div-add-mod' j n)

  all_bytes : m * n ≡ frame_count n fr * (4704 * n)
  unfolding written_channel
  all_bytes = mul_assoc (frame_count n fr) 4704 n

  pub written_frame : Bytes fr → (f : ℕ) → f < frame_count n fr → file_frame F f ≡ frame n fr f
  unfolding data_frame frame
  written_frame b f l =
      let e = part_end f (frame_count n fr) (4704 * n) l in
      let part = drop (f * (4704 * n)) fr in
      ap (λ (k : ℕ). tabulate turn (f * (4704 * k)) (4704 * k)) is_channels
      ∙ sym
      (is_tabulate turn (f * (4704 * n)) (4704 * n) 0 (take (4704 * n) part)
      (length-take-le (4704 * n) part (omega (arith, w.whole, length-drop (f * (4704 * n)) fr)))
      (λ i k. get_or-take (4704 * n) part i 0 k ∙ get_or-drop (f * (4704 * n)) fr i 0 ∙ sym (written_turn b (f * (4704 * n) + i) (rw all_bytes (omega arith)))))

  pub written_plain : Plain F
  unfolding written_channel
  written_plain =
      record {
        accepted = written_accepted;
        lowest_first = is_bits;
        no_pointer = is_pointer;
        written_type = is_type ∙ ap type_of (sym is_channels);
        no_more = omega (arith, is_length, is_needed);
        whole_frames = omega (arith, is_channel_length, written_frames);
        few = omega (arith, written_frames, w.few);
        zero_padded = λ c q h k l.
            let h' : c < n = rw is_channels at h in
            let l' : q < blocks m * 4096 = rw is_channel_length at l in
            rw is_channels (placed c q h' l' ∙ skip (ltb q m) _ _ (λ t. omega (arith, is_channel_length, ltb→lt q m t)));
      }

pub written_reads : DsfWrittenRead
written_reads n fr w = record { accepted = written_accepted n fr w; frames = written_frames n fr w; frame = written_frame n fr w; plain = written_plain n fr w }
