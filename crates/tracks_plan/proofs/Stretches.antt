-- What is read, track after track.
use Rattle.std.proofs.Common.{◌≡◌, ℕ, ◌+◌, ◌-◌, ◌*◌, ◌≤◌, ◌<◌, List, [], ◌∷◌, ◌++◌, length, take, drop, arith, refl, sym, ap, ◌∙◌, append_assoc, append-nil}
use Rattle.std.proofs.Common.{length-append, take_at, take_all, length-take-le}
use borrow.Rule.Slice.PartMut.{put_mid}
use Rattle.tracks.specs.Tracks.{Head, head_at, heads_of, head_length, all_length}
use Rattle.tracks.specs.Windows.{read_start, read_end, windows_length}
use Rattle.tracks_open.specs.inner.Trying.{heads_from}
use Rattle.tracks_open.proofs.Heads.{front, none_left}
use Rattle.dsf_frames.specs.declared.FrameWindow.{FrameWindow}
use Rattle.tracks_put.specs.declared.Span.{Span}
use Rattle.tracks_reads.specs.inner.Reading.{read_from, read_to, ReadArgs}
use Rattle.tracks_reads.proofs.Stretches.{start_is, end_is, bounded, in_order}
use Rattle.tracks_plan.specs.Reads.{reads}
use Rattle.tracks_plan.specs.inner.Reads.{ReadsPromise}

-- before track k, which begins at byte `offset`
pub record SoFar (heads lengths : List ℕ) (n a b k offset all : ℕ) (out : List ℕ) : Type 0 where
  pub written : reads n a b 0 (heads_of heads lengths) ≡ take (2 * k) out ++ reads n a b offset (heads_from heads lengths k)
  pub sums : windows_length n a b 0 (heads_of heads lengths) ≡ all + windows_length n a b offset (heads_from heads lengths k)
  pub ends : all_length (heads_of heads lengths) ≡ offset + all_length (heads_from heads lengths k)
  pub small : all ≤ k * 15240984570

module _ (heads lengths : List ℕ) (n a b : ℕ) where
  pub none_yet : (out : List ℕ) → SoFar heads lengths n a b 0 0 0 out
  unfolding heads_of
  none_yet out =
      let z : length lengths - 0 ≡ length lengths = omega arith in
      record { written = rw z refl; sums = rw z (omega arith); ends = rw z (omega arith); small = omega arith }

  module _ (k offset all : ℕ) (out : List ℕ) (s : SoFar heads lengths n a b k offset all out) where
    pub all_read : length lengths ≤ k → length out ≡ 2 * length lengths → ReadsPromise n a b (heads_of heads lengths) out all
    unfolding reads windows_length
    all_read h l =
        let none = none_left heads lengths k h in
        let whole : take (2 * k) out ≡ out = take_all (2 * k) out (omega arith) in
        record {
          written = sym (s.written ∙ rw (none, append-nil) whole);
          all = sym (s.sums ∙ rw none (omega arith));
        }

    module _ (within : k < length lengths) where
      abbrev h : Head
      h = head_at heads lengths k

      pub next_fits : offset + head_length h ≤ all_length (heads_of heads lengths)
      unfolding all_length
      next_fits = omega (arith, s.ends, ap all_length (front heads lengths k within))

      pub one_more : (r : FrameWindow) (size : ℕ) (m : List ℕ) → length out ≡ 2 * length lengths → ReadArgs n (record { from = a; to = b }) → size ≡ head_length h
          → r.start ≡ read_from n size offset (record { from = a; to = b }) → r.end ≡ read_to n size offset (record { from = a; to = b }) → m ≡ r.start ∷ (r.end - r.start) ∷ []
          → SoFar heads lengths n a b (k + 1) (offset + size) (all + (r.end - r.start)) (put_mid (2 * k) (2 * k + 2 - 2 * k) out m)
      unfolding reads windows_length all_length
      one_more r size m l args long begins ends is =
          let span : Span = record { from = a; to = b } in
          let start : r.start ≡ read_start n h offset a b = begins ∙ ap (λ (x : ℕ). read_from n x offset span) long ∙ start_is n h offset span in
          let end : r.end ≡ read_end n h offset a b = ends ∙ ap (λ (x : ℕ). read_to n x offset span) long ∙ end_is n h offset span in
          let most : r.end ≤ 15240984570 = rw ends (bounded n size offset span args) in
          let lead = take (2 * k) out in
          let later = reads n a b (offset + head_length h) (heads_from heads lengths (k + 1)) in
          let rest = drop (2 * k + 2 - 2 * k) (drop (2 * k) out) in
          let wide : length (lead ++ m) ≡ 2 * (k + 1) = length-append lead m ∙ omega (arith, length-take-le (2 * k) out (omega arith), ap length is) in
          let taken : take (2 * (k + 1)) (lead ++ (m ++ rest)) ≡ lead ++ m = ap (take (2 * (k + 1))) (sym (append_assoc lead m rest)) ∙ take_at (lead ++ m) rest (2 * (k + 1)) wide in
          let step : reads n a b offset (heads_from heads lengths k) ≡ m ++ later = rw (front heads lengths k within, is, start, end) refl in
          rw long
          (record {
            written = s.written ∙ ap (λ (l : List ℕ). lead ++ l) step ∙ sym (append_assoc lead m later) ∙ ap (λ (l : List ℕ). l ++ later) (sym taken);
            sums = s.sums ∙ rw (front heads lengths k within, start, end) (omega arith);
            ends = s.ends ∙ rw (front heads lengths k within) (omega arith);
            small = omega (arith, most);
          })

-- a stretch of no more than two hours
pub read_fits : (n size o : ℕ) (span : Span) (r : FrameWindow) → ReadArgs n span → r.start ≡ read_from n size o span → r.end ≡ read_to n size o span
    → (r.start ≤ r.end) × (r.end ≤ 15240984570)
read_fits n size o span r args p q = rw (p, q) (in_order n size o span, bounded n size o span args)
