-- How much a piece asks.
use Rattle.std.proofs.Common.{◌≡◌, Some, None, Bool, true, false, ℕ, ◌+◌, ◌-◌, ◌*◌, ◌/◌, ◌≤◌, ◌<◌, List, [], ◌∷◌, length, cond, ltb, arith, refl, min}
use Rattle.std.proofs.Common.{mul-le-mul_right, add-mul, ltb-true}
use Rattle.reference.specs.declared.PcmRate.{PcmRate}
use Rattle.dsf.specs.Dsf.{blocks}
use Rattle.tracks.specs.Tracks.{Head, head_length, tracks_channels, tracks_frames}
use Rattle.tracks.specs.Windows.{own_from, own_to, read_start, read_end, read_bytes, windows_length}
use Rattle.tracks_open.specs.Open.{piece_total, numbers, album_of}
use Rattle.tracks_plan.specs.Plan.{piece_count, piece_from, piece_at}
use Rattle.tracks_plan.specs.Theorems.{AsksAtMost, PiecesAskAtMost}
use Rattle.text.proofs.Options.{some_is, no_some}

-- ---- of each track

-- its own bytes
abbrev own : Head → ℕ → ℕ → ℕ → ℕ
own h o a b = own_to h o b - own_from o a

-- around them stand less than two blocks
around : (f t n : ℕ) → f < t → (t + 4095) / 4096 * 4096 * n - f / 4096 * 4096 * n ≤ (t - f + 8192) * n
around f t n h =
    let l : (t + 4095) / 4096 * 4096 ≤ t - f + 8192 + f / 4096 * 4096 = omega arith in
    omega (arith, mul-le-mul_right n l, add-mul (t - f + 8192) (f / 4096 * 4096) n)

one_read : (n : ℕ) (h : Head) (o a b : ℕ) → read_bytes n h o a b ≤ (own h o a b + 8192) * n
unfolding read_start read_end blocks
one_read n h o a b = go (ltb (own_from o a) (own_to h o b)) refl
  where
    go : (c : Bool) → ltb (own_from o a) (own_to h o b) ≡ c
        → cond c (blocks (own_to h o b) * 4096 * n) 0 - cond c (own_from o a / 4096 * 4096 * n) 0 ≤ (own h o a b + 8192) * n
    go true e = around (own_from o a) (own_to h o b) n (ltb-true _ _ e)
    go false e = omega arith

-- ---- of all

-- the tracks' own bytes of a to b, the first of which begins at byte o
unfoldable owned : ℕ → ℕ → ℕ → List Head → ℕ
owned a b o [] = 0
owned a b o (h ∷ hs) = own h o a b + owned a b (o + head_length h) hs

owned_few : (a b o : ℕ) (hs : List Head) → (owned a b o hs ≤ b - a) × (owned a b o hs ≤ b - o)
unfolding owned
owned_few a b o [] = (omega arith, omega arith)
owned_few a b o (h ∷ hs) =
    let more = owned_few a b (o + head_length h) hs in
    (two (head_length h) more.0 more.1, three (head_length h) more.1)
  where
    two : (n : ℕ) {m : ℕ} → m ≤ b - a → m ≤ b - (o + n) → min n (b - o) - (a - o) + m ≤ b - a
    two n p q = omega arith

    three : (n : ℕ) {m : ℕ} → m ≤ b - (o + n) → min n (b - o) - (a - o) + m ≤ b - o
    three n q = omega arith

all_reads : (n a b o : ℕ) (hs : List Head) → windows_length n a b o hs ≤ (owned a b o hs + 8192 * length hs) * n
unfolding owned windows_length
all_reads n a b o [] = omega arith
all_reads n a b o (h ∷ hs) =
    let rest = owned a b (o + head_length h) hs + 8192 * length hs in
    let both : (own h o a b + 8192 + rest) * n ≡ (own h o a b + 8192) * n + rest * n = add-mul (own h o a b + 8192) rest n in
    let size : own h o a b + owned a b (o + head_length h) hs + 8192 * length (h ∷ hs) ≡ own h o a b + 8192 + rest = omega arith in
    rw size (omega (arith, both, one_read n h o a b, all_reads n a b (o + head_length h) hs))

-- ---- of a piece

frames_held : (f first count : ℕ) → count ≤ 128 → min (first + count + 1) f - (first - 1) ≤ 130
frames_held f first count h = omega arith

frames_read : (f first count : ℕ) → count ≤ 128 → min (first + count + 1) f * 4704 - (first - 1) * 4704 ≤ 130 * 4704
frames_read f first count h = omega arith

module _ (rate : PcmRate) (hs : List Head) where
  at_most : (first : ℕ) → AsksAtMost rate hs (piece_from (album_of rate hs) first)
  unfolding piece_from piece_count album_of numbers tracks_frames
  at_most first =
      let n = tracks_channels hs in
      let f = tracks_frames hs in
      let count = min 128 (f - first) in
      let few : count ≤ 128 = omega arith in
      let a = (first - 1) * 4704 in
      let b = min (first + count + 1) f * 4704 in
      let own : owned a b 0 hs + 8192 * length hs ≤ 130 * 4704 + 8192 * length hs = omega (arith, (owned_few a b 0 hs).0, frames_read f first count few) in
      let held = mul-le-mul_right (4704 * n) (frames_held f first count few) in
      record {
        windows = omega (arith, all_reads n a b 0 hs, mul-le-mul_right n own);
        scratch = omega (arith, held);
        bytes = mul-le-mul_right _ few;
      }

pub asks_at_most : PiecesAskAtMost
unfolding piece_at
asks_at_most rate hs i p e = go (ltb i (piece_total (album_of rate hs).frames)) e
  where
    go : (c : Bool) → cond c (Some (piece_from (album_of rate hs) (i * 128))) None ≡ Some p → AsksAtMost rate hs p
    go true e = rw (← some_is e) (at_most rate hs (i * 128))
    go false e = no_some e
