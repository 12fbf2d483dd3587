-- Windows of the tracks ahead.
use Rattle.std.proofs.Common.{◌≡◌, refl, ◌∙◌, List, ℕ, ◌+◌, ◌-◌, ◌*◌, ◌≤◌, ◌<◌, zero-add, arith, length}
use native.Mathlib.Nat.{sub-zero}
use Rattle.tracks.specs.Tracks.{Head, head_length, all_length, head_at, heads_of}
use Rattle.tracks.specs.Windows.{read_bytes, windows_length}
use Rattle.tracks_open.specs.inner.Trying.{heads_from}
use Rattle.tracks_open.proofs.Heads.{front, none_left}
use Rattle.tracks_put.specs.declared.Span.{Span}
use Rattle.tracks_reads.specs.inner.Reading.{read_from, read_to, ReadArgs}
use Rattle.tracks_reads.proofs.Stretches.{start_is, end_is, bounded}

-- ---- before a track
pub record Ahead (heads lengths : List ℕ) (n : ℕ) (span : Span) (k begins bytes : ℕ) : Type 0 where
  pub windows : bytes + windows_length n span.from span.to begins (heads_from heads lengths k) ≡ windows_length n span.from span.to 0 (heads_of heads lengths)
  pub before : begins + all_length (heads_from heads lengths k) ≡ all_length (heads_of heads lengths)
  pub few : bytes ≤ k * 15240984570

module _ (heads lengths : List ℕ) (n : ℕ) (span : Span) where
  pub begin : Ahead heads lengths n span 0 0 0
  unfolding heads_of
  begin =
      record {
        windows = zero-add (windows_length n span.from span.to 0 (heads_from heads lengths 0)) ∙ rw (sub-zero (length lengths)) refl;
        before = zero-add (all_length (heads_from heads lengths 0)) ∙ rw (sub-zero (length lengths)) refl;
        few = omega arith;
      }

  module _ (k begins bytes : ℕ) (a : Ahead heads lengths n span k begins bytes) where
    module _ (l : k < length lengths) (size : ℕ) (is : size ≡ head_length (head_at heads lengths k)) where
      abbrev h : Head
      h = head_at heads lengths k

      pub short : begins + size ≤ all_length (heads_of heads lengths)
      unfolding all_length
      short = let e = rw (front heads lengths k l) at a.before in rw is (omega (arith, e))

      pub go_on : ReadArgs n span → {from to : ℕ} → from ≡ read_from n size begins span → to ≡ read_to n size begins span → Ahead heads lengths n span (k + 1) (begins + size) (bytes + (to - from))
      unfolding windows_length all_length
      go_on args {from} {to} p q =
          let windows = rw (front heads lengths k l) at a.windows in
          let before = rw (front heads lengths k l) at a.before in
          let read : to - from ≡ read_bytes n h begins span.from span.to = rw (p, q, is, start_is n h begins span, end_is n h begins span) refl in
          let most : to ≤ 15240984570 = rw q (bounded n size begins span args) in
          record {
            windows = rw (read, is) (omega (arith, windows));
            before = rw is (omega (arith, before));
            few = omega (arith, a.few);
          }

    pub ended : length lengths ≤ k → bytes ≡ windows_length n span.from span.to 0 (heads_of heads lengths)
    unfolding windows_length
    ended l = let windows = rw (none_left heads lengths k l) at a.windows in omega (arith, windows)
