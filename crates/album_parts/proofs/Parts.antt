-- Parts are all pieces in turn, and small enough to be worked out.
use Rattle.std.proofs.Common.{ℕ, ◌+◌, ◌*◌, ◌/◌, ◌≤◌, mul-div_cancel, mul-zero, mul-le-mul}
use native.Mathlib.Nat.{zero-div}
use Rattle.tracks_open.specs.Open.{piece_total}
use Rattle.album_parts.specs.Parts.{part_first, PartsCut}

pub small_share : (p j : ℕ) → p ≤ 4220 → j ≤ 64 → p * j ≤ 270080
small_share p j a b = mul-le-mul a b

pub parts_cut : (f : ℕ) → PartsCut f
unfolding piece_total part_first
parts_cut f = record {
  begin = λ jobs h. rw (mul-zero ((f + 127) / 128)) (zero-div jobs);
  end = λ jobs h. mul-div_cancel ((f + 127) / 128) h;
}
