-- Sizes of an album.
use Rattle.std.proofs.Common.{ℕ, ◌*◌, ◌≤◌, mul-le-mul, arith}
use Rattle.reference.specs.Output.{samples_per_frame}
use Rattle.reference.specs.declared.PcmRate.{PcmRate}
use Rattle.reference.specs.declared.PcmRate.TheVariants.{Hz88200, Hz176400, Hz352800}
use Rattle.wav_format.specs.Wav.{frame_size}
use Rattle.tracks.specs.Tracks.{frames_of_bytes}

pub frame_bound : (per ch : ℕ) → per ≤ 4704 → ch ≤ 6 → 3 * per * ch ≤ 84672
frame_bound per ch a b = let t : 3 * per ≤ 3 * 4704 = omega arith in mul-le-mul t b

pub bytes_bound : (f size : ℕ) → f ≤ 540000 → size ≤ 84672 → f * size ≤ 45722880000
bytes_bound f size a b = mul-le-mul a b

-- the last frame is short or whole
pub frames_cover : (p : ℕ) → p ≤ frames_of_bytes p * 4704
unfolding frames_of_bytes
frames_cover p = omega arith

-- and there are few of them
pub frames_few : (p : ℕ) → p ≤ 2540160000 → frames_of_bytes p ≤ 540000
unfolding frames_of_bytes
frames_few p h = omega arith

pub spf_small : (rate : PcmRate) → samples_per_frame rate ≤ 4704
unfolding samples_per_frame
spf_small Hz88200 = omega arith
spf_small Hz176400 = omega arith
spf_small Hz352800 = omega arith

pub size_bound : (rate : PcmRate) (n : ℕ) → n ≤ 6 → frame_size rate n ≤ 84672
unfolding frame_size
size_bound rate n h = frame_bound (samples_per_frame rate) n (spf_small rate) h
