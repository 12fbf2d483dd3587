-- What `put_track` and `fill` need.
use Rattle.std.proofs.Common.{◌≡◌, refl, sym, ◌∙◌, List, [], ℕ, ◌+◌, ◌-◌, ◌*◌, ◌/◌, ◌≤◌, ◌<◌, ◌^◌, mul-le-mul, mul-le-mul_right, zero-mul, arith, length, set}
use Rattle.std.proofs.Common.{replicate, take-append-drop}
use lib.ListN.{length-replicate, get_or-replicate, get_or-eq_default}
use Rattle.numbers.specs.Lists.{tabulate}
use Rattle.numbers.specs.inner.Lists.{Written}
use Rattle.numbers.proofs.Lists.{written_more}
use Rattle.text.specs.Text.{with_text}
use Rattle.reference.specs.Frames.{idle}
use Rattle.tracks_put.specs.declared.Part.{Part}
use Rattle.tracks_put.specs.declared.Span.{Span}
use Rattle.tracks_put.specs.inner.Putting.{stretch, PutArgs}
use Rattle.tracks_put.specs.inner.Placing.{with_track, with_fill, TrackArgs, track_from, track_to, track_at}
use Rattle.tracks_put.proofs.Buffers.{is_with_text}

pub with_none : (l : List ℕ) (at : ℕ) → with_text l at [] ≡ l
unfolding with_text
with_none l at =
    let e : at + 0 ≡ at = omega arith in
    rw e (take-append-drop at l)

-- they lie in the buffer
fits : (o a b from to at : ℕ) → a ≤ b → from ≡ a - o → at ≡ o - a → to ≤ b - o → from < to → at + (to - from) ≤ b - a
fits o a b from to at h e g l m = omega arith

module _ {n samples o : ℕ} {span : Span} {start size out : ℕ} (t : TrackArgs n samples o span start size out) where
  abbrev from : ℕ
  from = track_from o span.from

  abbrev to : ℕ
  to = track_to (samples / 8) o span.to

  abbrev at : ℕ
  at = track_at o span.from

  pub put_args : (part : Part) → part.from ≡ from → part.to ≡ to → part.at ≡ at → part.from < part.to → PutArgs n samples part start size out
  put_args part p q r h =
      let most : span.to - span.from ≤ 2 ^ 60 = omega (arith, t.small) in
      let small : (span.to - span.from) * n ≤ 2 ^ 60 * 6 = mul-le-mul most t.six in
      let some : from < to = omega arith in
      let within : part.at + (part.to - part.from) ≤ span.to - span.from = fits o span.from span.to part.from part.to part.at t.order p r (omega arith) h in
      record {
        one = t.one;
        six = t.six;
        order = omega arith;
        there = omega arith;
        begins = rw p (t.begins some);
        covers = rw q (t.covers some);
        lent = rw t.lent (mul-le-mul_right n within);
        small = omega (arith, t.lent, small);
      }

-- a track that has no bytes there
pub untouched : (read : ℕ → ℕ) (n bits samples o a b : ℕ) (l : List ℕ) → track_to (samples / 8) o b ≤ track_from o a → l ≡ with_track read n bits samples o a b l
unfolding with_track stretch tabulate
untouched read n bits samples o a b l h =
    let z : track_to (samples / 8) o b - track_from o a ≡ 0 = omega arith in
    rw (z, zero-mul n) (sym (with_none l (track_at o a * n)))

-- one idle byte more
pub written_next : {at j : ℕ} {old new : List ℕ} → at ≤ j → Written 0 (λ i. at + i) (λ i. idle) (j - at) old new → j < length old
    → Written 0 (λ i. at + i) (λ i. idle) (j + 1 - at) old (set new j idle)
written_next {at} {j} {old} {new} h w l =
    let more : j - at + 1 ≡ j + 1 - at = omega arith in
    rw more at (written_more {j = j} w (omega arith) (λ i m. omega arith) (omega (arith, w.same)) refl)

-- idle bytes to the end
pub filled : (at : ℕ) (old new : List ℕ) (k : ℕ) → at + k ≡ length old → Written 0 (λ i. at + i) (λ i. idle) k old new → new ≡ with_fill at old
unfolding with_fill
filled at old new k e w =
    let r : length old - at ≡ k = omega arith in
    let long = length-replicate k idle in
    rw r
    (is_with_text old new (replicate k idle) at (omega (arith, long)) w.same (λ j h. w.kept j (λ i m. omega arith))
    (λ i h. w.done i (omega (arith, long)) ∙ sym (get_or-replicate k i idle 0 (omega (arith, long))))
    (λ j h. get_or-eq_default new 0 {n = j} (omega (arith, long, w.same)) ∙ sym (get_or-eq_default old 0 {n = j} (omega (arith, long)))))
