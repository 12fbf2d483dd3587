use Rattle.std.proofs.Common.{min, ◌≡◌, sym, ap₂, ◌∙◌, List, ⊎_elim, ℕ, ◌+◌, ◌*◌, ◌-◌, ◌/◌, ◌%◌, ◌^◌, ◌<◌, add-mul, mul_assoc, mod-lt, div-add-mod'}
use Rattle.std.proofs.Common.{div-lt_iff_lt-mul, arith, leb, ltb, lt→ltb, ltb→lt, length, get_or, le-leb}
-- A frame out of a window, from its channels.
use borrow.Author.Tests.{lt-leb}
use Rattle.numbers.specs.inner.Lists.{Written}
use Rattle.numbers.proofs.Lists.{below_or, is_tabulate}
use Rattle.reference.specs.Frames.{idle}
use Rattle.dsf.specs.Dsf.{data_place, our_byte, sample_byte, turn_byte, data_frame}
use Rattle.dsf_frames.specs.Reading.{window_start, window_end, window_data}
use Rattle.dsf_frames.specs.inner.Windows.{WindowArgs}
use Rattle.dsf_columns.specs.inner.Columns.{column_byte, Ordering, ColumnArgs}
use Rattle.dsf.specs.inner.Orders.{bit_order}
use Rattle.dsf_columns.proofs.Turned.{ordered_is}
use Rattle.dsf_columns.proofs.Blocks.{quotient, remainder}
use Rattle.dsf_columns.proofs.Strides.{other}
use Rattle.dsf.proofs.Alike.{pick, skip}

-- ---- byte j of frame f: of channel j % n its byte j / n of the frame
module _ (read : ℕ → ℕ) (n bits samples' f j : ℕ) (z : 0 < n) where
  pub turn_at : turn_byte read n bits samples' (f * (4704 * n) + j) ≡ sample_byte read n bits samples' (j % n) (f * 4704 + j / n)
  unfolding turn_byte
  turn_at =
      let c : j % n < n = mod-lt j z in
      let p : f * (4704 * n) + j ≡ (f * 4704 + j / n) * n + j % n = omega (arith, mul_assoc f 4704 n, add-mul (f * 4704) (j / n) n, div-add-mod' j n) in
      rw p (ap₂ (λ (x y : ℕ). sample_byte read n bits samples' x y) (remainder (f * 4704 + j / n) n (j % n) c) (quotient (f * 4704 + j / n) n (j % n) c))

-- ---- a frame from its channels

-- one channel more
pub next : {n c : ℕ} {f : ℕ → ℕ → ℕ} {mid new : List ℕ} → c < n → ((d k : ℕ) → d < c → k < 4704 → get_or mid (k * n + d) 0 ≡ f d k) → Written 0 (λ i. c + i * n) (f c) 4704 mid new
    → (d k : ℕ) → d < c + 1 → k < 4704 → get_or new (k * n + d) 0 ≡ f d k
next {n} {c} {f} {mid} {new} l h w d k m t =
    ⊎_elim (λ b. w.kept (k * n + d) (λ i s z. other k i l (omega arith) (omega arith) (z ∙ omega arith)) ∙ h d k b t) (λ b.
    let e : d ≡ c = omega arith in
    let z : c + k * n ≡ k * n + c = omega arith in
    rw e (rw z at (w.done k t))) (below_or d c)

module _ {n samples' f start size out : ℕ} (a : WindowArgs n samples' f start size out) where
  abbrev last : ℕ
  last = min (samples' / 8) (f * 4704 + 4704)

  pub column_args : (c : ℕ) → c < n → samples' < 2 ^ 64 → ColumnArgs n c (f * 4704) last start size out
  unfolding window_start window_end
  column_args c h s =
      record {
        six = a.six;
        channel = h;
        some = omega (arith, a.asked);
        most = omega arith;
        small = omega arith;
        begins = a.begins;
        covers = a.covers;
        lent = a.lent;
      }

  module _ (bits : ℕ) (window table new : List ℕ) (same : length window ≡ size) (each : (i : ℕ) → get_or window i 0 < 256) (o : Ordering (bit_order bits) table) (s : samples' < 2 ^ 64) where
    abbrev cell_byte : ℕ → ℕ → ℕ
    cell_byte c k = column_byte window table n (f * 4704) last start c k

    data_cell : (c i : ℕ) → i < 4704 → cell_byte c i ≡ sample_byte (window_data window start) n bits samples' c (f * 4704 + i)
    unfolding column_byte sample_byte data_place
    data_cell c i l =
        let q = f * 4704 + i in
        let at = (q / 4096 * n + c) * 4096 + q % 4096 - start in
        ⊎_elim
        (λ b. pick (ltb q last) (get_or table (get_or window at 0) 0) idle (lt→ltb q last (omega arith)) ∙ o.is (get_or window at 0) (each at)
        ∙ ordered_is bits (get_or window at 0) ∙ sym (pick (ltb q (samples' / 8)) (our_byte bits (get_or window at 0)) idle (lt→ltb q (samples' / 8) b)))
        (λ b. skip (ltb q last) _ _ (λ t. omega (arith, ltb→lt q last t)) ∙ sym (skip (ltb q (samples' / 8)) _ _ (λ t. omega (arith, ltb→lt q (samples' / 8) t))))
        (below_or q (samples' / 8))

    pub frame_is : length new ≡ 4704 * n → ((c k : ℕ) → c < n → k < 4704 → get_or new (k * n + c) 0 ≡ cell_byte c k) → new ≡ data_frame (window_data window start) n bits samples' f
    unfolding data_frame
    frame_is e h =
        is_tabulate (turn_byte (window_data window start) n bits samples') (f * (4704 * n)) (4704 * n) 0 new e
        (λ j l.
        let z : 0 < n = a.one in
        let k : j / n < 4704 = (div-lt_iff_lt-mul z).1 l in
        let c : j % n < n = mod-lt j z in
        let v = h (j % n) (j / n) c k ∙ data_cell (j % n) (j / n) k in
        rw (div-add-mod' j n) at v ∙ sym (turn_at (window_data window start) n bits samples' f j z))

-- ---- whether a window reaches to an end
pub reach_is : (s z e : ℕ) → leb (e - s) z ≡ leb e (s + z)
reach_is s z e =
    ⊎_elim (λ b. lt-leb (e - s) z b ∙ sym (lt-leb e (s + z) (omega arith))) (λ b. le-leb (e - s) z b ∙ sym (le-leb e (s + z) (omega arith))) (below_or z (e - s))
