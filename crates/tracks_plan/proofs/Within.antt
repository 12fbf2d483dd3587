-- What is read is in the files.
use Rattle.std.proofs.Common.{◌≡◌, Bool, true, false, ℕ, ◌+◌, ◌*◌, ◌/◌, ◌≤◌, List, [], ◌∷◌, cond, ltb, arith, mul-le-mul_right}
use Rattle.numbers.specs.Lists.{Each}
use Rattle.reference.specs.Refusals.{accepted, decide}
use Rattle.dsf.specs.Dsf.{blocks, channels, needed, data_bytes}
use Rattle.dsf.specs.Reading.{header_places}
use Rattle.dsf.proofs.Accepted.{head_sound}
use Rattle.tracks.specs.Tracks.{Head, head_length, tracks_channels}
use Rattle.tracks.specs.Windows.{own_from, own_to, read_end}
use Rattle.tracks.proofs.Opened.{is_opened}
use Rattle.tracks_plan.specs.Theorems.{ReadsWithin}

grow : (x y n : ℕ) → x ≤ y → blocks x * 4096 * n ≤ blocks y * 4096 * n
unfolding blocks
grow x y n h = let l : (x + 4095) / 4096 * 4096 ≤ (y + 4095) / 4096 * 4096 = omega arith in mul-le-mul_right n l

-- the stretch of a track ends within the data that its header tells
ends_within : (n : ℕ) (h : Head) (o a b : ℕ) → read_end n h o a b ≤ blocks (head_length h) * 4096 * n
unfolding read_end
ends_within n h o a b = go (ltb (own_from o a) (own_to h o b))
  where
    go : (c : Bool) → cond c (blocks (own_to h o b) * 4096 * n) 0 ≤ blocks (head_length h) * 4096 * n
    go true = grow (own_to h o b) (head_length h) n (omega arith)
    go false = omega arith

data_there : (n : ℕ) (h : Head) → decide (header_places h.bytes h.long) ≡ accepted → channels h.bytes ≡ n → 92 + blocks (head_length h) * 4096 * n ≤ h.long
unfolding needed data_bytes head_length
data_there n h e c =
    let s = head_sound h.bytes h.long e in
    rw (← c) (omega (arith, s.sized, s.ends))

one_within : (n : ℕ) (h : Head) → decide (header_places h.bytes h.long) ≡ accepted → channels h.bytes ≡ n → (o a b : ℕ) → 92 + read_end n h o a b ≤ h.long
one_within n h e c o a b = omega (arith, ends_within n h o a b, data_there n h e c)

each_within : (n : ℕ) (hs : List Head) → Each (λ h. decide (header_places h.bytes h.long) ≡ accepted) hs → Each (λ h. channels h.bytes ≡ n) hs
    → Each (λ h. (o a b : ℕ) → 92 + read_end n h o a b ≤ h.long) hs
each_within n [] e c = tt
each_within n (h ∷ hs) e c = (one_within n h e.0 c.0, each_within n hs e.1 c.1)

pub reads_within : ReadsWithin
reads_within hs s e = let o = is_opened hs s e in each_within (tracks_channels hs) hs o.taken o.alike
