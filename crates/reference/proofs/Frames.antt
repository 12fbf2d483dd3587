-- The bytes of a channel in frames put end to end; and that no sample of a run reads before the frame before it.
use Rattle.std.proofs.Common.{◌≡◌, ◌∙◌, List, ◌++◌, ℕ, suc, ◌+◌, ◌-◌, ◌*◌, ◌<◌, ◌≤◌, mul-le-mul_left, arith, lit≤, lit<, ℤ, length, drop, get_or-take}
use Rattle.std.proofs.Common.{get_or-drop, get_or-append-add}
use lib.Arith.{digits_lt}
use lib.ListN.{get_or-append}
use Rattle.reference.specs.Frames.{frame_length, frame, channel_byte}
use Rattle.reference.specs.Stages.{M, y, reach}
use Rattle.reference.specs.Output.{samples_per_frame}
use Rattle.reference.specs.declared.PcmRate.{PcmRate}
use Rattle.reference.specs.declared.PcmRate.TheVariants.{Hz88200, Hz176400, Hz352800}
use Rattle.reference.specs.declared.Cutoff.{Cutoff}
use Rattle.reference.proofs.Locality.{y_same, reach_small}

-- m frames X in front of Y
module _ (ch c : ℕ) (X Y : List ℕ) (m : ℕ) (e : length X ≡ m * frame_length ch) where
  pub channel_left : (p : ℕ) → c < ch → p < 4704 * m → channel_byte ch (X ++ Y) c p ≡ channel_byte ch X c p
  unfolding channel_byte
  channel_left p l k = get_or-append X Y _ (p * ch + c) (omega (arith, digits_lt k l))

  pub channel_right : (p : ℕ) → channel_byte ch (X ++ Y) c (4704 * m + p) ≡ channel_byte ch Y c p
  unfolding channel_byte
  channel_right p =
      let i : (4704 * m + p) * ch + c ≡ length X + (p * ch + c) = omega arith in
      rw i (get_or-append-add X Y (p * ch + c) _)

pub channel_frame : (ch c : ℕ) (bytes : List ℕ) (k p : ℕ) → c < ch → p < 4704 → channel_byte ch (frame ch bytes k) c p ≡ channel_byte ch bytes c (4704 * k + p)
unfolding channel_byte frame
channel_frame ch c bytes k p l h =
    let i : (4704 * k + p) * ch + c ≡ k * frame_length ch + (p * ch + c) = omega arith in
    rw i (get_or-take (frame_length ch) (drop (k * frame_length ch) bytes) (p * ch + c) _ (digits_lt h l)
    ∙ get_or-drop (k * frame_length ch) bytes (p * ch + c) _)

pub some_samples : (rate : PcmRate) → 0 < samples_per_frame rate
unfolding samples_per_frame
some_samples Hz88200 = lit< tt
some_samples Hz176400 = lit< tt
some_samples Hz352800 = lit< tt

pub frame_samples : (rate : PcmRate) → samples_per_frame rate ≤ 4704
unfolding samples_per_frame
frame_samples Hz88200 = lit≤ tt
frame_samples Hz176400 = lit≤ tt
frame_samples Hz352800 = lit≤ tt

-- γ is β with a frame of any bytes put in front: the samples from the first frame on are the same
pub no_earlier_byte : (rate : PcmRate) (cutoff : Cutoff) (F : List ℤ) → M F ≤ 116 → (β γ : ℕ → ℕ) → ((p : ℕ) → γ (4704 + p) ≡ β p)
    → (k : ℕ) → y rate cutoff F γ (2 * samples_per_frame rate + k) ≡ y rate cutoff F β (1 * samples_per_frame rate + k)
no_earlier_byte rate cutoff F few β γ front k =
    y_same (suc k) γ 2 β 1 rate cutoff F
    (record {
      room = omega (arith, reach_small rate cutoff F few);
      room' = omega (arith, reach_small rate cutoff F few);
      same = λ p m.
          let i : 4704 * 2 - reach rate cutoff F + p ≡ 4704 + (4704 * 1 - reach rate cutoff F + p) = omega (arith, reach_small rate cutoff F few) in
          rw i (front (4704 * 1 - reach rate cutoff F + p));
    })
    k (omega (arith, mul-le-mul_left (suc k) (some_samples rate)))
