-- The header, and how it is made of its three parts.
use Rattle.std.proofs.Common.{◌≡◌, refl, ap, ◌∙◌, List, ◌++◌, ℕ, ◌+◌, length, drop, drop-drop}
use borrow.Rule.Slice.PartMut.{put_mid}
use Rattle.text.specs.Text.{text, joined}
use Rattle.reference.specs.Codes.{hertz}
use Rattle.reference.specs.declared.PcmRate.{PcmRate}
use Rattle.text.specs.Bytes.{bytes}
use Rattle.wav_header.specs.Header.{fields, header}
use Rattle.wav_header.specs.inner.Parts.{riff, format_part, data_head}

pub length_header : (rate channels n : ℕ) → length (header rate channels n) ≡ 44
unfolding header fields joined text bytes
length_header rate channels n = refl

-- put one after the other into a list of 44 places or more
pub three_parts : (rate channels n : ℕ) (out : List ℕ)
    → put_mid 36 8 (put_mid 12 24 (put_mid 0 12 out (riff (36 + n))) (format_part rate channels)) (data_head n) ≡ header rate channels n ++ drop 44 out
unfolding header fields riff format_part data_head joined text bytes
three_parts rate channels n out = ap (λ (l : List ℕ). header rate channels n ++ l) (ap (drop 8) (drop-drop 24 12 out) ∙ drop-drop 8 36 out)

-- the parts as they were made, and what each copy left
pub three_put : (rate : PcmRate) (channels n : ℕ) (out : List ℕ) {a : List ℕ} {hz : ℕ} {b d x y z : List ℕ} → a ≡ riff (36 + n) → hz ≡ hertz rate → b ≡ format_part hz channels → d ≡ data_head n
    → x ≡ a → y ≡ b → z ≡ d → put_mid 36 8 (put_mid 12 24 (put_mid 0 12 out x) y) z ≡ header (hertz rate) channels n ++ drop 44 out
three_put rate channels n out ea eh eb ed ex ey ez = rw (ex, ey, ez, ea, eb, eh, ed) (three_parts (hertz rate) channels n out)
