-- The frames are those that the file's samples say, for both bit orders.
use Rattle.std.proofs.Common.{◌≡◌, refl, ap, ◌∙◌, List, Bool, true, false, cond, ℕ, ◌+◌, ◌-◌, ◌*◌, ◌/◌, ◌%◌, ◌^◌, ◌<◌, mod-lt, mul_assoc, mul-le-mul_right}
use Rattle.std.proofs.Common.{add-mul, arith, T, eqb, ltb, eqb→eq, lt→ltb, ltb→lt, get_or}
use Rattle.numbers.specs.Lists.{total}
use Rattle.numbers.proofs.Lists.{get_d_tabulate}
use Rattle.text.specs.Bytes.{Bytes}
use Rattle.dsf.specs.Dsf.{data_place, channels, bits_per_sample, sample_count, frames, frames_in, turned, our_byte, sample_byte, turn_byte}
use Rattle.dsf.specs.Dsf.{data_frame, file_data, file_frame, sample_from_lowest, sample_from_highest, file_sample}
use Rattle.dsf.specs.inner.Dsf.{file_byte}
use Rattle.dsf.proofs.Alike.{pick, skip}
use Rattle.dsf.proofs.Accepted.{sound}
use Rattle.numbers.specs.Tests.{each_below}
use Rattle.numbers.proofs.Tests.{each_below_at}
use Rattle.dsf_frames.specs.Theorems.{SamplesRight, IdlePast}
use Rattle.dsf_columns.proofs.Blocks.{quotient, remainder}

test : ℕ → ℕ → Bool
test x i = eqb (turned x / 2 ^ (7 - i) % 2) (x / 2 ^ i % 2)

all_bits : T (each_below (λ x. each_below (test x) 8) 256)
unfolding each_below test turned total
all_bits = tt

bit_turned : (x i : ℕ) → x < 256 → i < 8 → turned x / 2 ^ (7 - i) % 2 ≡ x / 2 ^ i % 2
unfolding test
bit_turned x i h l = eqb→eq _ _ (each_below_at (test x) 8 i (each_below_at (λ x. each_below (test x) 8) 256 x all_bits h) l)

-- sample t of channel c, read off our byte highest bit first, is the file's
byte_right : (file : List ℕ) → Bytes file → (c t : ℕ) → t / 8 < sample_count file / 8 → sample_from_highest t (file_byte file c (t / 8)) ≡ file_sample file c t
unfolding sample_byte our_byte file_sample sample_from_highest sample_from_lowest
byte_right file b c t l =
    rw (pick (ltb (t / 8) (sample_count file / 8)) _ _ (lt→ltb _ _ l)) (go (eqb (bits_per_sample file) 1))
  where
    x : ℕ
    x = file_data file (data_place (channels file) c (t / 8))

    go : (o : Bool) → cond o (turned x) x / 2 ^ (7 - t % 8) % 2 ≡ cond o (x / 2 ^ (t % 8) % 2) (x / 2 ^ (7 - t % 8) % 2)
    go true = bit_turned x (t % 8) (b.each (92 + data_place (channels file) c (t / 8))) (mod-lt t (omega arith))
    go false = refl

-- byte p of channel c of a frame stands at p × channels + c, and is that channel's byte 4,704 f + p
pub layout_right : (file : List ℕ) (f c p : ℕ) → c < channels file → p < 4704 → get_or (file_frame file f) (p * channels file + c) 0 ≡ file_byte file c (f * 4704 + p)
unfolding data_frame turn_byte
layout_right file f c p h l =
    let n = channels file in
    let e : f * (4704 * n) + (p * n + c) ≡ (f * 4704 + p) * n + c = omega (arith, mul_assoc f 4704 n, add-mul (f * 4704) p n) in
    get_d_tabulate (turn_byte (file_data file) n (bits_per_sample file) (sample_count file)) (f * (4704 * n)) (4704 * n) (p * n + c) 0 (omega (arith, mul-le-mul_right n l))
    ∙ rw (e, quotient (f * 4704 + p) n c h, remainder (f * 4704 + p) n c h)

pub samples_right : SamplesRight
unfolding frames frames_in
samples_right file b a c t h l =
    let s = sound file a in
    let p = layout_right file (t / 8 / 4704) c (t / 8 % 4704) h (omega arith) in
    let q : t / 8 / 4704 * 4704 + t / 8 % 4704 ≡ t / 8 = omega arith in
    (omega (arith, s.whole), ap (sample_from_highest t) (p ∙ ap (file_byte file c) q) ∙ byte_right file b c t (omega (arith, s.whole)))

pub idle_past : IdlePast
unfolding sample_byte
idle_past file f c p h l m =
    layout_right file f c p h l ∙ skip (ltb (f * 4704 + p) (sample_count file / 8)) _ _ (λ t. omega (arith, ltb→lt (f * 4704 + p) (sample_count file / 8) t))
