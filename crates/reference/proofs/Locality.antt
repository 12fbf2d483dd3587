-- A stage's values depend only on the bytes near them: where two signals agree on a stretch, so do their values, less
-- the stage's margin.
use Rattle.std.proofs.Common.{◌≡◌, refl, ap, List, ℕ, ◌+◌, ◌-◌, ◌*◌, ◌/◌, ◌%◌, ◌≤◌, ◌<◌, arith, lit≤, lit<, ℤ, length, take, length-take}
use Rattle.numbers.proofs.Sums.{sum_same}
use Rattle.reference.specs.Rounding.{R}
use Rattle.reference.specs.Taps.{S1, S1_WIDE, HB, F40, F30, F80}
use Rattle.reference.specs.Stages.{taps_of, M, fir, x, u, v, w, between, y_narrow, y_wide, y, reach}
use Rattle.reference.specs.Output.{samples_per_frame}
use Rattle.reference.specs.declared.Filter.{Filter}
use Rattle.reference.specs.declared.PcmRate.{PcmRate}
use Rattle.reference.specs.declared.PcmRate.TheVariants.{Hz88200, Hz176400, Hz352800}
use Rattle.reference.specs.declared.Cutoff.{Cutoff}
use Rattle.reference.specs.declared.Cutoff.TheVariants.{Standard, Low, Wide}

-- s from a on and t from b on agree at n places
abbrev pub Same : {A : Type 0} → ℕ → (ℕ → A) → ℕ → (ℕ → A) → ℕ → Type 0
Same n s a t b = (k : ℕ) → k < n → s (a + k) ≡ t (b + k)

-- ---- a filter

pub fir_same : (h : List ℤ) (n : ℕ) (s : ℕ → ℤ) (a : ℕ) (t : ℕ → ℤ) (b : ℕ)
    → Same (n + M h + M h) s a t b → Same n (fir h s) (a + M h) (fir h t) (b + M h)
unfolding fir
fir_same h n s a t b same k l = sum_same _ _ _ (λ j m.
    let i : a + M h + k - M h + j ≡ a + (k + j) = omega arith in
    let i' : b + M h + k - M h + j ≡ b + (k + j) = omega arith in
    rw (i, i', same (k + j) (omega arith)))

-- a stage that halves the rate: its value i stands over value 2 * i of its input
fir_halved : (h : List ℤ) (n : ℕ) (s : ℕ → ℤ) (a : ℕ) (t : ℕ → ℤ) (b : ℕ)
    → Same (2 * n + M h + M h) s a t b → (i j : ℕ) → 2 * i ≡ a + M h → 2 * j ≡ b + M h
    → (k : ℕ) → k < n → fir h s (2 * (i + k)) ≡ fir h t (2 * (j + k))
fir_halved h n s a t b same i j ei ej k l =
    let p : 2 * (i + k) ≡ a + M h + 2 * k = omega arith in
    let q : 2 * (j + k) ≡ b + M h + 2 * k = omega arith in
    rw (p, q) (fir_same h (2 * n) s a t b same (2 * k) (omega arith))

-- ---- the first stage

x_same : (n : ℕ) (β : ℕ → ℕ) (a : ℕ) (γ : ℕ → ℕ) (b : ℕ) → Same n β a γ b → Same (8 * n) (x β) (8 * a) (x γ) (8 * b)
unfolding x
x_same n β a γ b same k l =
    let p : (8 * a + k) / 8 ≡ a + k / 8 = omega arith in
    let p' : (8 * b + k) / 8 ≡ b + k / 8 = omega arith in
    let q : (8 * a + k) % 8 ≡ k % 8 = omega arith in
    let q' : (8 * b + k) % 8 ≡ k % 8 = omega arith in
    rw (p, p', q, q', same (k / 8) (omega arith))

-- taps that reach 8 * B - 1 samples to each side read B bytes before and B - 1 after
pub u_same : (h : List ℤ) (B n : ℕ) → length h ≡ 8 * B → 0 < B → (β : ℕ → ℕ) (a : ℕ) (γ : ℕ → ℕ) (b : ℕ)
    → Same (n + B + B) β a γ b → Same n (u h β) (a + B) (u h γ) (b + B)
unfolding u
u_same h B n e some β a γ b same k l =
    let bits : Same (8 * (n + B + B)) (x β) (8 * a) (x γ) (8 * b) = x_same (n + B + B) β a γ b same in
    let r : fir h (x β) (8 * a + 1 + M h + 8 * k) ≡ fir h (x γ) (8 * b + 1 + M h + 8 * k)
    = fir_same h (8 * n) (x β) (8 * a + 1) (x γ) (8 * b + 1) (λ j m.
    let i : 8 * a + 1 + j ≡ 8 * a + (1 + j) = omega arith in
    let i' : 8 * b + 1 + j ≡ 8 * b + (1 + j) = omega arith in
    rw (i, i') (bits (1 + j) (omega arith))) (8 * k) (omega arith) in
    let i : 8 * (a + B + k) ≡ 8 * a + 1 + M h + 8 * k = omega arith in
    let i' : 8 * (b + B + k) ≡ 8 * b + 1 + M h + 8 * k = omega arith in
    rw (i, i') r

-- ---- the later stages

pub S1_length : length S1 ≡ 8 * 4
unfolding S1
S1_length = refl

pub S1_WIDE_length : length S1_WIDE ≡ 8 * 6
unfolding S1_WIDE
S1_WIDE_length = refl

pub HB_last : M HB ≡ 15
unfolding HB
HB_last = refl

pub F40_last : M F40 ≡ 60
unfolding F40
F40_last = refl

pub F30_last : M F30 ≡ 80
unfolding F30
F30_last = refl

pub F80_last : M F80 ≡ 116
unfolding F80
F80_last = refl

-- v(i) reads bytes 2 i - 19 to 2 i + 18
pub v_same : (n : ℕ) (β : ℕ → ℕ) (a : ℕ) (γ : ℕ → ℕ) (b : ℕ) → Same (2 * n + 38) β a γ b
    → (i j : ℕ) → 2 * i ≡ a + 19 → 2 * j ≡ b + 19 → Same n (v β) i (v γ) j
unfolding v
v_same n β a γ b same i j ei ej k l =
    let first : Same (2 * n + M HB + M HB) (u S1 β) (a + 4) (u S1 γ) (b + 4) = λ z m.
    u_same S1 4 (2 * n + 30) S1_length (lit< tt) β a γ b (λ z q. same z (omega arith)) z (omega (arith, HB_last)) in
    ap (λ z. R z 24) (fir_halved HB n (u S1 β) (a + 4) (u S1 γ) (b + 4) first i j (omega (arith, HB_last)) (omega (arith, HB_last)) k l)

pub w_same : (F : List ℤ) (n : ℕ) (β : ℕ → ℕ) (a : ℕ) (γ : ℕ → ℕ) (b : ℕ) → Same (2 * n + 4 * M F + 38) β a γ b
    → (i j : ℕ) → 2 * i ≡ a + 19 → 2 * j ≡ b + 19 → Same n (w F β) (i + M F) (w F γ) (j + M F)
unfolding w
w_same F n β a γ b same i j ei ej k l =
    let first : Same (n + M F + M F) (v β) i (v γ) j = v_same (n + M F + M F) β a γ b (λ z q. same z (omega arith)) i j ei ej in
    ap (λ z. R z 24) (fir_same F n (v β) i (v γ) j first k l)

pub between_same : (s t : ℕ → ℤ) (n i j : ℕ) → Same (n + 15) s i t j → Same n (between s) (i + 7) (between t) (j + 7)
unfolding between
between_same s t n i j same k l = sum_same 8 _ _ (λ z m.
    let p : i + 7 + k - z ≡ i + (7 + k - z) = omega arith in
    let p' : j + 7 + k - z ≡ j + (7 + k - z) = omega arith in
    let q : i + 7 + k + 1 + z ≡ i + (8 + k + z) = omega arith in
    let q' : j + 7 + k + 1 + z ≡ j + (8 + k + z) = omega arith in
    rw (p, p', q, q', same (7 + k - z) (omega arith), same (8 + k + z) (omega arith)))

-- ---- whole frames of samples

-- n frames of bytes agree, from frame A of β and from frame B of γ on, and with them r bytes before and r after
pub record Near (n : ℕ) (β : ℕ → ℕ) (A : ℕ) (γ : ℕ → ℕ) (B r : ℕ) : Type 0 where
  pub room : r ≤ 4704 * A
  pub room' : r ≤ 4704 * B
  pub same : Same (4704 * n + 2 * r) β (4704 * A - r) γ (4704 * B - r)

module _ (n : ℕ) (β : ℕ → ℕ) (A : ℕ) (γ : ℕ → ℕ) (B : ℕ) where
  -- n frames of samples agree, from frame A of β and from frame B of γ on
  abbrev pub SameSamples : PcmRate → ((ℕ → ℕ) → ℕ → ℤ) → Type 0
  SameSamples rate s = Same (n * samples_per_frame rate) (s β) (A * samples_per_frame rate) (s γ) (B * samples_per_frame rate)

  -- w, with e values more at each end
  w_near : (F : List ℤ) (e r : ℕ) → r ≡ 2 * M F + 19 + 2 * e → Near n β A γ B r
      → Same (2352 * n + 2 * e) (w F β) (2352 * A - e) (w F γ) (2352 * B - e)
  w_near F e r er near k l =
      let i : 2352 * A - e ≡ (2352 * A - e - M F) + M F = omega arith in
      let j : 2352 * B - e ≡ (2352 * B - e - M F) + M F = omega arith in
      rw (i, j) (w_same F (2352 * n + 2 * e) β (4704 * A - r) γ (4704 * B - r) (λ z q. near.same z (omega arith))
      (2352 * A - e - M F) (2352 * B - e - M F) (omega arith) (omega arith) k l)

  -- the routes of Standard and Low, for every low-pass F
  pub narrow_same : (rate : PcmRate) (F : List ℤ) → Near n β A γ B (reach rate Standard F) → SameSamples rate (y_narrow rate F)
  unfolding y_narrow reach samples_per_frame
  narrow_same Hz88200 F near k l =
      let i : 2 * (A * 1176 + k) ≡ 2352 * A - 0 + 2 * k = omega arith in
      let j : 2 * (B * 1176 + k) ≡ 2352 * B - 0 + 2 * k = omega arith in
      rw (i, j) (w_near F 0 _ (omega arith) near (2 * k) (omega arith))
  narrow_same Hz176400 F near k l =
      let i : A * 2352 + k ≡ 2352 * A - 0 + k = omega arith in
      let j : B * 2352 + k ≡ 2352 * B - 0 + k = omega arith in
      rw (i, j) (w_near F 0 _ (omega arith) near k (omega arith))
  narrow_same Hz352800 F near k l =
      let t : Same (2352 * n + 16) (w F β) (2352 * A - 8) (w F γ) (2352 * B - 8) = w_near F 8 _ (omega arith) near in
      let p : (A * 4704 + k) % 2 ≡ k % 2 = omega arith in
      let p' : (B * 4704 + k) % 2 ≡ k % 2 = omega arith in
      let q : (A * 4704 + k) / 2 ≡ 2352 * A - 8 + (8 + k / 2) = omega arith in
      let q' : (B * 4704 + k) / 2 ≡ 2352 * B - 8 + (8 + k / 2) = omega arith in
      let i : 2352 * A - 8 + (8 + k / 2) ≡ 2352 * A - 8 + 7 + (1 + k / 2) = omega arith in
      let j : 2352 * B - 8 + (8 + k / 2) ≡ 2352 * B - 8 + 7 + (1 + k / 2) = omega arith in
      let even = t (8 + k / 2) (omega arith) in
      let odd : between (w F β) (2352 * A - 8 + (8 + k / 2)) ≡ between (w F γ) (2352 * B - 8 + (8 + k / 2))
      = rw (i, j) (between_same (w F β) (w F γ) (2352 * n + 1) (2352 * A - 8) (2352 * B - 8) (λ z m. t z (omega arith)) (1 + k / 2) (omega arith)) in
      rw (p, p', q, q', even, odd)

  wide_same : (rate : PcmRate) (F : List ℤ) → Near n β A γ B (reach rate Wide F) → SameSamples rate (y_wide rate)
  unfolding y_wide reach samples_per_frame
  wide_same Hz88200 F near k l = refl
  wide_same Hz176400 F near k l =
      let a = 4704 * A - 122 in
      let b = 4704 * B - 122 in
      let first : Same (4704 * n + 232) (u S1_WIDE β) (a + 6) (u S1_WIDE γ) (b + 6)
      = u_same S1_WIDE 6 (4704 * n + 232) S1_WIDE_length (lit< tt) β a γ b (λ z q. near.same z (omega arith)) in
      let i : A * 2352 + k ≡ 2352 * A + k = omega arith in
      let j : B * 2352 + k ≡ 2352 * B + k = omega arith in
      rw (i, j) (ap (λ z. R z 24) (fir_halved F80 (2352 * n) (u S1_WIDE β) (a + 6) (u S1_WIDE γ) (b + 6) (λ z m. first z (omega (arith, F80_last)))
      (2352 * A) (2352 * B) (omega (arith, F80_last)) (omega (arith, F80_last)) k (omega arith)))
  wide_same Hz352800 F near k l =
      let a = 4704 * A - 66 in
      let b = 4704 * B - 66 in
      let first : Same (4704 * n + 120) (u S1_WIDE β) (a + 6) (u S1_WIDE γ) (b + 6)
      = u_same S1_WIDE 6 (4704 * n + 120) S1_WIDE_length (lit< tt) β a γ b (λ z q. near.same z (omega arith)) in
      let i : A * 4704 + k ≡ a + 6 + M F40 + k = omega (arith, F40_last) in
      let j : B * 4704 + k ≡ b + 6 + M F40 + k = omega (arith, F40_last) in
      rw (i, j) (ap (λ z. R z 24) (fir_same F40 (4704 * n) (u S1_WIDE β) (a + 6) (u S1_WIDE γ) (b + 6) (λ z m. first z (omega (arith, F40_last))) k (omega arith)))

  -- F30 has its reach
  low_near : (rate : PcmRate) (F : List ℤ) → Near n β A γ B (reach rate Low F) → Near n β A γ B (reach rate Standard F30)
  unfolding reach F30
  low_near Hz88200 F near = near
  low_near Hz176400 F near = near
  low_near Hz352800 F near = near

  -- every rate and cutoff of document 01's table, with any low-pass F for Standard
  pub y_same : (rate : PcmRate) (cutoff : Cutoff) (F : List ℤ) → Near n β A γ B (reach rate cutoff F) → SameSamples rate (y rate cutoff F)
  unfolding y
  y_same rate Standard F near = narrow_same rate F near
  y_same rate Low F near = narrow_same rate F30 (low_near rate F near)
  y_same rate Wide F near = wide_same rate F near

-- a filter record has at most 117 taps
pub last_tap : (f : Filter) → M (taps_of f) ≤ 116
unfolding taps_of
last_tap f = omega (arith, length-take f.count (take 117 f.taps), length-take 117 f.taps)

-- the reach stays within one frame
pub reach_small : (rate : PcmRate) (cutoff : Cutoff) (F : List ℤ) → M F ≤ 116 → reach rate cutoff F ≤ 4704
unfolding reach
reach_small Hz88200 Standard F l = omega arith
reach_small Hz176400 Standard F l = omega arith
reach_small Hz352800 Standard F l = omega arith
reach_small Hz88200 Low F l = lit≤ tt
reach_small Hz176400 Low F l = lit≤ tt
reach_small Hz352800 Low F l = lit≤ tt
reach_small Hz88200 Wide F l = lit≤ tt
reach_small Hz176400 Wide F l = lit≤ tt
reach_small Hz352800 Wide F l = lit≤ tt
