-- Sizes of a piece.
use Rattle.tracks_open.specs.Open.{piece_total}
use Rattle.tracks_plan.specs.Plan.{last, piece_count, piece_from, piece_at}
use Rattle.tracks_plan.specs.Theorems.{PlanCuts}
use Rattle.std.proofs.Common.{ltb-true, ◌≡◌, Some, None, Bool, true, false, cond, ltb, refl, sym, ℕ, ◌+◌, ◌-◌, ◌*◌, ◌/◌, ◌≤◌, ◌<◌, mul-le-mul, arith}
use Rattle.text.proofs.Options.{some_is, no_some}
use Rattle.tracks_open.specs.declared.Album.{Album}
use Rattle.tracks_plan.specs.declared.cutting.Piece.{Piece}

pub place_bound : (f size : ℕ) → f ≤ 540000 → size ≤ 84672 → f * size ≤ 45722880000
place_bound f size a b = mul-le-mul a b

pub scratch_bound : (f n : ℕ) → f ≤ 540000 → n ≤ 6 → f * (4704 * n) ≤ 15240960000
scratch_bound f n a b = let t : 4704 * n ≤ 28224 = omega arith in mul-le-mul a t

pub begins_within : (i f : ℕ) → i < (f + 127) / 128 → i * 128 < f
begins_within i f h = omega arith

pub held_within : (f first count : ℕ) → first ≤ f → first - 1 ≤ last f first count
held_within f first count h = omega arith

pub held_few : (f first count : ℕ) → f ≤ 540000 → last f first count - (first - 1) ≤ 540000
held_few f first count h = omega arith

pub plan_cuts : (f : ℕ) → PlanCuts f
unfolding piece_total piece_count
plan_cuts f = record { follows = λ i h. omega arith; ends = λ i h. omega arith }

-- a piece's frames are the album's
pub piece_within : (a : Album) (i : ℕ) (p : Piece) → Some p ≡ piece_at a i → p.first + p.count ≤ a.frames
unfolding piece_at piece_from piece_count piece_total
piece_within a i p e = go (ltb i ((a.frames + 127) / 128)) refl e
  where
    go : (c : Bool) → ltb i ((a.frames + 127) / 128) ≡ c → Some p ≡ cond c (Some (piece_from a (i * 128))) None → p.first + p.count ≤ a.frames
    go true h e = rw (some_is e) (omega (arith, begins_within i a.frames (ltb-true i _ h)))
    go false h e = no_some (sym e)
