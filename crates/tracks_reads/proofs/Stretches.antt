-- The stretch of a track to read.
use Rattle.std.proofs.Common.{◌≡◌, refl, ⊎_elim, ℕ, ◌+◌, ◌*◌, ◌/◌, ◌≤◌, ◌<◌, mul-le-mul, mul-le-mul_right, arith, lt-ltb, le-ltb}
use Rattle.numbers.proofs.Lists.{below_or}
use Rattle.dsf.specs.Dsf.{blocks}
use Rattle.tracks.specs.Tracks.{Head, head_length}
use Rattle.tracks.specs.Windows.{read_start, read_end}
use Rattle.tracks_put.specs.declared.Span.{Span}
use Rattle.tracks_put.specs.inner.Placing.{track_from, track_to}
use Rattle.tracks_reads.specs.inner.Reading.{read_from, read_to, ReadArgs}

module _ (n size o : ℕ) (span : Span) where
  abbrev from : ℕ
  from = track_from o span.from

  abbrev to : ℕ
  to = track_to size o span.to

  pub some_start : from < to → from / 4096 * 4096 * n ≡ read_from n size o span
  unfolding read_from
  some_start h = rw (lt-ltb from to h) refl

  pub some_end : from < to → (to + 4095) / 4096 * 4096 * n ≡ read_to n size o span
  unfolding read_to blocks
  some_end h = rw (lt-ltb from to h) refl

  pub no_start : to ≤ from → 0 ≡ read_from n size o span
  unfolding read_from
  no_start h = rw (le-ltb from to h) refl

  pub no_end : to ≤ from → 0 ≡ read_to n size o span
  unfolding read_to
  no_end h = rw (le-ltb from to h) refl

  pub in_order : read_from n size o span ≤ read_to n size o span
  in_order = ⊎_elim some none (below_or from to)
    where
      some : from < to → read_from n size o span ≤ read_to n size o span
      some h =
          let e : from / 4096 * 4096 ≤ (to + 4095) / 4096 * 4096 = omega arith in
          rw (← some_start h, ← some_end h) (mul-le-mul_right n e)

      none : to ≤ from → read_from n size o span ≤ read_to n size o span
      none h = rw (← no_start h, ← no_end h) (omega arith)

  -- no more than all of two hours
  pub bounded : ReadArgs n span → read_to n size o span ≤ 15240984570
  bounded a = ⊎_elim some none (below_or from to)
    where
      some : from < to → read_to n size o span ≤ 15240984570
      some h =
          let e : (to + 4095) / 4096 * 4096 ≤ 2540164095 = omega (arith, a.most) in
          rw (← some_end h) (omega (arith, mul-le-mul e a.six))

      none : to ≤ from → read_to n size o span ≤ 15240984570
      none h = rw (← no_end h) (omega arith)

-- of a head
pub start_is : (n : ℕ) (h : Head) (o : ℕ) (span : Span) → read_from n (head_length h) o span ≡ read_start n h o span.from span.to
unfolding read_from read_start
start_is n h o span = refl

pub end_is : (n : ℕ) (h : Head) (o : ℕ) (span : Span) → read_to n (head_length h) o span ≡ read_end n h o span.from span.to
unfolding read_to read_end
end_is n h o span = refl
