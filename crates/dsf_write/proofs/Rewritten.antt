-- Request 9: what was read from a file of the kind that is written is written back as the file.
use Rattle.std.proofs.Common.{◌≡◌, refl, sym, ap, ap₂, ◌∙◌, List, [], ◌++◌, append-nil, ⊎_elim, ℕ, suc, ◌+◌, ◌*◌, ◌/◌, ◌≤◌, ◌<◌, mul-le-mul_right, mul_assoc}
use Rattle.std.proofs.Common.{mul-div_cancel, arith, T, ltb, lt→ltb, ltb→lt, length, get_or, take, drop, length-drop, drop_of_length-le, get_or-take}
use Rattle.std.proofs.Common.{get_or-drop, length-take-le}
use Rattle.numbers.specs.Lists.{tabulate}
use Rattle.numbers.proofs.Lists.{part_end, below_or, length_tabulate, get_d_tabulate, is_tabulate}
use Rattle.reference.specs.Frames.{frame, frame_count}
use Rattle.text.specs.Bytes.{Bytes, number_of, number_at, bytes}
use Rattle.dsf.specs.Dsf.{pair, alike, blocks, data_bytes, data_place, stated_length, channel_type, channels, bits_per_sample, sample_count}
use Rattle.dsf.specs.Dsf.{data_size, needed, frames, turned, our_byte, sample_byte, turn_byte, data_frame, file_data}
use Rattle.dsf.specs.inner.Dsf.{file_byte}
use Rattle.dsf.specs.Headers.{header_with}
use Rattle.dsf.proofs.Alike.{Alike, seg, join, pick, skip, T_is}
use Rattle.text.proofs.Bytes.{padded, number_padded, bytes_number, each_padded, each_drop}
use Rattle.dsf.proofs.Numbers.{alike_padded, field_alike}
use Rattle.dsf.proofs.Accepted.{Sound, sound}
use Rattle.dsf.proofs.Tests.{channels_range}
use Rattle.dsf.proofs.Headers.{head, alike_head}
use Rattle.dsf.proofs.Headers as H
use Rattle.dsf_columns.proofs.Blocks.{quotient, remainder}
use Rattle.dsf_columns.proofs.Turned.{turned_twice}
use Rattle.dsf_write.specs.Written.{type_of, data_channel, data_byte, written_channel, written_data, written_byte, written, all_frames, Plain, Writable}
use Rattle.dsf_write.specs.Theorems.{Rewritten, FrameOfAll}
use Rattle.dsf_write.proofs.Places.{place_is, channel_below, byte_below}

bytes_padded : (l : List ℕ) → Bytes l → bytes 8 (number_of (take 8 l)) ≡ padded 8 l
unfolding padded
bytes_padded l b = ap (bytes 8) (sym (number_padded 8 l)) ∙ bytes_number (padded 8 l) (each_padded 8 l b)

module _ (file : List ℕ) (b : Bytes file) (pl : Plain file) where
  s : Sound file (length file)
  s = sound file pl.accepted

  abbrev n : ℕ
  n = channels file

  abbrev fr : List ℕ
  fr = all_frames file

  few : (1 ≤ n) × (n ≤ 6)
  few = channels_range file (T_is s.as_laid_out) (omega (arith, s.long))

  one : 1 ≤ n
  one = few.0

  abbrev turn : ℕ → ℕ
  turn = turn_byte (file_data file) n (bits_per_sample file) (sample_count file)

  pub length_frames : length fr ≡ frames file * (4704 * n)
  unfolding all_frames
  length_frames = length_tabulate turn 0 (frames file * (4704 * n))

  pub count : frame_count n fr ≡ frames file
  unfolding frame_count
  count = rw length_frames (mul-div_cancel (frames file) (omega (arith, one)))

  is_channel : written_channel n fr ≡ sample_count file / 8
  unfolding written_channel
  is_channel = rw count (sym pl.whole_frames)

  is_samples : 8 * written_channel n fr ≡ sample_count file
  is_samples = omega (arith, is_channel, s.whole)

  is_data : written_data n fr ≡ needed file
  unfolding written_data needed
  is_data = ap (λ (k : ℕ). data_bytes k n) is_samples

  -- ---- the header
  abbrev hd : List ℕ
  hd = head file s.as_laid_out s.at_frequency (drop 12 file) (channel_type file) n 1 (12 + needed file)

  begins_so : T (alike file hd)
  unfolding channel_type channels bits_per_sample data_size bytes
  begins_so =
      let l = s.long in
      let t : Alike (drop 48 file) (bytes 4 (channel_type file)) = record { is = field_alike file 48 4 b (omega arith) } in
      let c : Alike (drop 52 file) (bytes 4 n) = record { is = field_alike file 52 4 b (omega arith) } in
      let e : Alike (drop 60 file) (bytes 4 (bits_per_sample file)) = record { is = field_alike file 60 4 b (omega arith) } in
      let z : Alike (drop 84 file) (bytes 8 (data_size file)) = record { is = field_alike file 84 8 b (omega arith) } in
      alike_head file s.as_laid_out s.at_frequency (drop 12 file) (channel_type file) n 1 (12 + needed file)
      (record { is = alike_padded 8 (drop 12 file) }) (seg file 48 4 refl t c) (rw pl.lowest_first at e) (rw s.sized at z)

  split : file ≡ hd ++ drop 92 file
  split =
      let h : length hd ≡ 92 = H.length_header (drop 12 file) (drop 20 file) (channel_type file) n 1 (drop 64 file) (12 + needed file) [] in
      let e : file ++ drop (length file) hd ≡ hd ++ drop 92 file = rw h at (join file hd begins_so) in
      let z : drop (length file) hd ≡ [] = drop_of_length-le hd {i = length file} (omega (arith, s.long)) in
      sym (append-nil file) ∙ sym (ap (λ (l : List ℕ). file ++ l) z) ∙ e

  same_header : header_with (bytes 8 (92 + written_data n fr)) (bytes 8 0) (pair (type_of n) n) 1 (bytes 8 (8 * written_channel n fr)) (bytes 8 (12 + written_data n fr)) ≡ hd
  unfolding stated_length sample_count number_at
  same_header =
      let st : 92 + written_data n fr ≡ number_of (take 8 (drop 12 file)) = omega (arith, is_data, pl.no_more, s.stated) in
      let po : bytes 8 0 ≡ padded 8 (drop 20 file) = ap (bytes 8) (sym pl.no_pointer) ∙ bytes_padded (drop 20 file) (each_drop 20 b) in
      rw (st, po, is_samples, is_data, ← pl.written_type, bytes_padded (drop 12 file) (each_drop 12 b), bytes_padded (drop 64 file) (each_drop 64 b))

  -- ---- the data
  below : needed file ≡ blocks (sample_count file / 8) * 4096 * n
  unfolding needed data_bytes
  below = refl

  turn_at : (c q : ℕ) → c < n → turn (q * n + c) ≡ file_byte file c q
  unfolding turn_byte
  turn_at c q h = rw (quotient q n c h, remainder q n c h)

  read_at : (c q : ℕ) → q < sample_count file / 8 → file_byte file c q ≡ turned (get_or file (92 + data_place n c q) 0)
  unfolding sample_byte our_byte
  read_at c q l = rw pl.lowest_first (pick (ltb q (sample_count file / 8)) _ _ (lt→ltb _ _ l))

  -- a byte of a frame that was read
  frame_byte : (c q : ℕ) → c < n → q < sample_count file / 8 → get_or fr (q * n + c) 0 ≡ turned (get_or file (92 + data_place n c q) 0)
  unfolding all_frames
  frame_byte c q h l =
      let z : 0 + (q * n + c) ≡ q * n + c = omega arith in
      let more : suc q ≤ frames file * 4704 = omega (arith, pl.whole_frames) in
      let within : q * n + c < frames file * (4704 * n) = omega (arith, mul-le-mul_right n more, mul_assoc (frames file) 4704 n) in
      get_d_tabulate turn 0 (frames file * (4704 * n)) (q * n + c) 0 within ∙ ap turn z ∙ turn_at c q h ∙ read_at c q l

  byte_at : (j : ℕ) → j < needed file → get_or file (92 + j) 0 ≡ written_byte n fr j
  unfolding written_byte
  byte_at j l =
      let c = data_channel n j in
      let q = data_byte n j in
      let p = place_is n j one in
      let h = channel_below n j one in
      let k = byte_below n j one (blocks (sample_count file / 8)) (rw below at l) in
      ⊎_elim (λ (i : q < sample_count file / 8).
      sym (rw is_channel (pick (ltb q (sample_count file / 8)) _ _ (lt→ltb _ _ i) ∙ ap turned (frame_byte c q h i)
      ∙ turned_twice _ (b.each (92 + data_place n c q)) ∙ ap (λ (x : ℕ). get_or file (92 + x) 0) p)))
      (λ (i : sample_count file / 8 ≤ q).
      ap (λ (x : ℕ). get_or file (92 + x) 0) (sym p) ∙ pl.zero_padded c q h i k
      ∙ sym (rw is_channel (skip (ltb q (sample_count file / 8)) _ _ (λ t. omega (arith, ltb→lt q (sample_count file / 8) t)))))
      (below_or q (sample_count file / 8))

  same_body : tabulate (written_byte n fr) 0 (written_data n fr) ≡ drop 92 file
  same_body =
      rw is_data
      (sym
      (is_tabulate (written_byte n fr) 0 (needed file) 0 (drop 92 file) (omega (arith, length-drop 92 file, pl.no_more))
      (λ i l. let z : 0 + i ≡ i = omega arith in rw z (get_or-drop 92 file i 0 ∙ byte_at i l))))

  pub written_back : written n fr ≡ file
  unfolding written
  written_back = ap₂ (λ (u v : List ℕ). u ++ v) same_header same_body ∙ sym split

  -- what was read can be written
  pub read_writable : Writable n fr
  read_writable =
      record {
        one = one;
        six = few.1;
        whole = length_frames ∙ ap (λ (k : ℕ). k * (4704 * n)) (sym count);
        few = rw count pl.few;
      }

pub rewritten : Rewritten
rewritten file b pl = (read_writable file b pl, written_back file b pl)

pub frame_of_all : FrameOfAll
unfolding frame all_frames data_frame
frame_of_all file f l =
    let size = 4704 * channels file in
    let turn = turn_byte (file_data file) (channels file) (bits_per_sample file) (sample_count file) in
    let whole = tabulate turn 0 (frames file * size) in
    let n : length whole ≡ frames file * size = length_tabulate turn 0 (frames file * size) in
    let e = part_end f (frames file) size l in
    is_tabulate turn (f * size) size 0 (take size (drop (f * size) whole))
    (length-take-le size (drop (f * size) whole) (omega (arith, length-drop (f * size) whole)))
    (λ i h.
    let z : 0 + (f * size + i) ≡ f * size + i = omega arith in
    get_or-take size (drop (f * size) whole) i 0 h ∙ get_or-drop (f * size) whole i 0 ∙ get_d_tabulate turn 0 (frames file * size) (f * size + i) 0 (omega arith) ∙ ap turn z)
