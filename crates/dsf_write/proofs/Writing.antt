-- Writing: the header put in pieces, a byte of the data, and what the writer's places decide.
use Rattle.std.proofs.Common.{◌≡◌, refl, sym, ap, ◌∙◌, List, [], ◌∷◌, ◌++◌, append_assoc, not, ◌&&◌, ◌≢◌, ℕ, ◌+◌, ◌-◌, ◌*◌, ◌/◌, ◌%◌, ◌^◌, ◌≤◌, ◌<◌, min}
use Rattle.std.proofs.Common.{zero-add, add-mul, mul-le-mul, mul-le-mul_right, mod-lt, div-add-mod', mul_assoc, div-mul-le_self, div-lt_iff_lt-mul, arith, leb}
use Rattle.std.proofs.Common.{ltb, lt→ltb, ltb→lt, length, get_or, replicate, take, drop, length-append, length-drop, length-take-le, le-leb, lt-ltb, le-ltb}
use Rattle.std.proofs.Common.{eq-eqb, ne_eqb, eqb-true, leb-true, ltb-false, Ok, Err}
use mathlib.Core.Bool.{and-false}
use lib.ListN.{length-replicate, get_or-replicate}
use lib.Seq.{take-length}
use borrow.Author.Tests.{lt-leb, not-false}
use borrow.Rule.Slice.PartMut.{put_mid}
use Rattle.std.proofs.lemmas.Slice.{take-put_mid}
use Rattle.numbers.specs.Lists.{tabulate}
use Rattle.numbers.specs.inner.Lists.{Written}
use Rattle.numbers.proofs.Lists.{is_tabulate, written_as, written_then}
use Rattle.numbers.proofs.Pieces.{long_mid, written_piece}
use Rattle.reference.specs.Frames.{frame_count}
use Rattle.reference.specs.declared.PcmError.{PcmError}
use Rattle.reference.specs.declared.PcmError.TheVariants.{OutputBytes}
use Rattle.reference.specs.Promises.{by_decision}
use Rattle.reference.proofs.Promises.{exit_accepted, exit_refused}
use Rattle.reference.specs.Refusals.{Decision, accepted, refused, error_decision, Place, decide, is_accepted, number, lent_length}
use Rattle.reference.proofs.Refusals.{error_refuses, at_first, at_next, at_end, pass, decide_skip, decide_stop}
use Rattle.text.specs.Text.{text}
use Rattle.text.specs.Bytes.{bytes}
use Rattle.dsf.specs.Dsf.{pair, blocks, data_bytes, turned}
use Rattle.dsf.specs.Headers.{header_with}
use Rattle.dsf.proofs.Alike.{T_is, T_of, left, right, pick, skip}
use Rattle.dsf.specs.declared.BitOrder.TheVariants.{LowestFirst}
use Rattle.dsf_columns.specs.inner.Columns.{Ordering}
use Rattle.dsf_columns.proofs.Blocks.{group}
use Rattle.dsf_write.specs.Written.{type_of, data_channel, data_byte, written_channel, written_data, written_byte, head, laid_out, written}
use Rattle.dsf_write.specs.Written.{file_length, length_places, dsf_write_places, laid_places, HeadPromise, LaidPromise, WritePromise, Writable}
use Rattle.dsf_write.specs.inner.Putting.{PutPromise, DataArgs, BlockArgs}
use Rattle.dsf_write.proofs.Written.{by_channels}

-- ---- the header
pub pair_is : (n : ℕ) → 1 ≤ n → n ≤ 6 → type_of n ∷ 0 ∷ 0 ∷ 0 ∷ n ∷ 0 ∷ 0 ∷ 0 ∷ [] ≡ pair (type_of n) n
unfolding type_of bytes
pair_is = by_channels (λ n. type_of n ∷ 0 ∷ 0 ∷ 0 ∷ n ∷ 0 ∷ 0 ∷ 0 ∷ [] ≡ pair (type_of n) n) refl refl refl refl refl refl

-- bytes that a call has written over a piece
pub put_piece : (at k : ℕ) (old part word : List ℕ) → at + k ≤ length old → length part ≡ k → part ≡ word → PutPromise at word old (put_mid at k old part)
put_piece at k old part word fits size e =
    record {
      same = long_mid at k old part fits size;
      put = take-put_mid at k old part (at + length word) (omega (arith, ap length e)) (omega arith) ∙ ap (λ (l : List ℕ). take at old ++ l) e;
    }

-- a piece of n places from a place on that a call has written by f, or filled with zeros; k is the piece's end less its
-- start
module _ (at n k : ℕ) (old part : List ℕ) (fits : at + n ≤ length old) (e : k ≡ n) where
  pub piece_long : length (take k (drop at old)) ≡ n
  piece_long = length-take-le k (drop at old) (omega (arith, length-drop at old)) ∙ e

  pub gathered : {f : ℕ → ℕ} → Written 0 (λ i. i) f (length (take k (drop at old))) (take k (drop at old)) part → Written 0 (λ i. at + i) f n old (put_mid at k old part)
  gathered {f} w = rw (← e) (written_piece at k old part (omega arith) (omega (arith, w.same, piece_long)) 0 f (λ i l. w.done i (omega (arith, piece_long))))

  pub zeroed : part ≡ replicate (length (take k (drop at old))) 0 → Written 0 (λ i. at + i) (λ i. 0) n old (put_mid at k old part)
  zeroed p =
      rw (← e) (written_piece at k old part (omega arith) (omega (arith, ap length p, length-replicate {A = ℕ} (length (take k (drop at old))) 0, piece_long)) 0
      (λ i. 0) (λ i l. rw p (get_or-replicate (length (take k (drop at old))) i 0 0 (omega (arith, piece_long)))))

-- two pieces, one after the other
pub then : {v w old mid new : List ℕ} (at n : ℕ) → length v ≡ n → PutPromise at v old mid → PutPromise (at + n) w mid new → PutPromise at (v ++ w) old new
then {v} {w} {old} {mid} {new} at n e h k =
    let s : at + n + length w ≡ at + length (v ++ w) = omega (arith, length-append v w) in
    let t : take (at + n) mid ≡ take at old ++ v = rw e at h.put in
    record {
      same = k.same ∙ h.same;
      put = rw s at k.put ∙ ap (λ (l : List ℕ). l ++ w) t ∙ append_assoc (take at old) v w;
    }

pub put_as : {v w : List ℕ} {at : ℕ} {old new : List ℕ} → v ≡ w → PutPromise at v old new → PutPromise at w old new
put_as e h = rw e at h

-- ---- the data
module _ (n : ℕ) (fr : List ℕ) (m j : ℕ) (e : m ≡ written_channel n fr) where
  abbrev p : ℕ
  p = j / 4096 / n * 4096 + j % 4096

  byte_in : p < m → turned (get_or fr (p * n + j / 4096 % n) 0) ≡ written_byte n fr j
  unfolding written_byte data_byte data_channel
  byte_in l = sym (rw (← e) (pick (ltb p m) _ _ (lt→ltb p m l)))

  byte_out : m ≤ p → 0 ≡ written_byte n fr j
  unfolding written_byte data_byte
  byte_out l = sym (rw (← e) (skip (ltb p m) _ _ (λ t. omega (arith, ltb→lt p m t))))

module _ {n : ℕ} {fr : List ℕ} {m k out : ℕ} (a : BlockArgs n fr m k out) where
  abbrev first : ℕ
  first = k / n * 4096

  abbrev c : ℕ
  c = k % n

  at_block : (i : ℕ) → i < 4096 → ((k * 4096 + i) / 4096 ≡ k) × ((k * 4096 + i) % 4096 ≡ i)
  at_block i h = (omega arith, omega arith)

  cell : (i : ℕ) → first * n + c + i * n ≡ (first + i) * n + c
  cell i = omega (arith, add-mul first i n)

  pub in_frames : (s : ℕ) → s ≤ m - first → first * n + c + s * n < length fr + n
  in_frames s h = let g : first + s ≤ m = omega (arith, a.begun) in omega (arith, cell s, mul-le-mul_right n g, a.held, mod-lt k a.one)

  pub start_small : first * n ≤ k * 4096
  start_small = omega (arith, group (k / n) n, div-mul-le_self k n)

  module _ {table : List ℕ} (o : Ordering LowestFirst table) (each : (i : ℕ) → get_or fr i 0 < 256) where
    live_byte : (i : ℕ) → i < 4096 → i < m - first → get_or table (get_or fr (first * n + c + i * n) 0) 0 ≡ written_byte n fr (k * 4096 + i)
    live_byte i h l =
        let t = at_block i h in
        let g : (k * 4096 + i) / 4096 / n * 4096 + (k * 4096 + i) % 4096 < m = rw (t.0, t.1) (omega arith) in
        rw (cell i) (o.is (get_or fr ((first + i) * n + c) 0) (each ((first + i) * n + c)) ∙ (rw (t.0, t.1) at (byte_in n fr m (k * 4096 + i) a.bytes_are g)))

    zero_byte : (i : ℕ) → i < 4096 → m - first ≤ i → 0 ≡ written_byte n fr (k * 4096 + i)
    zero_byte i h l =
        let t = at_block i h in
        let g : m ≤ (k * 4096 + i) / 4096 / n * 4096 + (k * 4096 + i) % 4096 = rw (t.0, t.1) (omega (arith, a.begun)) in
        byte_out n fr m (k * 4096 + i) a.bytes_are g

    pub block_written : {live : ℕ} {old mid new : List ℕ} → live ≡ min 4096 (m - first) → Written 0 (λ i. k * 4096 + i) (λ i. get_or table (get_or fr (first * n + c + i * n) 0) 0) live old mid
        → Written 0 (λ i. k * 4096 + live + i) (λ i. 0) (4096 - live) mid new → Written 0 (λ i. k * 4096 + i) (λ i. written_byte n fr (k * 4096 + i)) 4096 old new
    block_written {live} e v w =
        let s : live + (4096 - live) ≡ 4096 = omega arith in
        rw s at
        (written_then (written_as v (λ i l. live_byte i (omega arith) (omega arith))) w (λ i l. omega arith) (λ i j l h. omega arith)
        (λ i l. zero_byte (live + i) (omega arith) (omega arith)))

-- the data's blocks
module _ {n : ℕ} {fr : List ℕ} {m out : ℕ} (a : DataArgs n fr m out) where
  data_is : out ≡ blocks m * n * 4096
  unfolding written_data data_bytes
  data_is =
      let e : 8 * written_channel n fr / 8 ≡ m = omega (arith, a.bytes_are) in
      a.lent ∙ rw e (omega (arith, group (blocks m) n))

  pub whole_blocks : out / 4096 * 4096 ≡ out
  whole_blocks = omega (arith, data_is)

  pub block_args : (k : ℕ) → k < out / 4096 → BlockArgs n fr m k out
  block_args k h =
      let l : k < blocks m * n = omega (arith, data_is) in
      let b : k / n < blocks m = (div-lt_iff_lt-mul a.one).1 l in
      record { one = a.one; bytes_are = a.bytes_are; held = a.held; room = a.room; begun = begun b; lent = omega (arith, data_is) }
    where
      begun : k / n < blocks m → k / n * 4096 < m
      begun b = unfold blocks in (omega arith)

-- all of it
pub laid_whole : (f : ℕ → ℕ) (old new : List ℕ) → Written 0 (λ i. i) f (length old) old new → new ≡ tabulate f 0 (length old)
laid_whole f old new w = is_tabulate f 0 (length old) 0 new w.same (λ i l. rw (zero-add i) (w.done i l))

-- ---- header and data
pub whole_file : (h mid part : List ℕ) (k : ℕ) → take 92 mid ≡ h → length mid ≡ 92 + length part → k ≡ length part → put_mid 92 k mid part ≡ h ++ part
whole_file h mid part k e l s =
    let n : length (put_mid 92 k mid part) ≡ 92 + length part = long_mid 92 k mid part (omega (arith, l, s)) (sym s) ∙ l in
    sym (take-length (put_mid 92 k mid part))
    ∙ ap (λ (m : ℕ). take m (put_mid 92 k mid part)) n
    ∙ take-put_mid 92 k mid part (92 + length part) refl (omega (arith, l))
    ∙ ap (λ (u : List ℕ). u ++ part) e

-- ---- the decision
module _ (n b : ℕ) where
  abbrev d : Decision
  d = decide (length_places n b)

  pub no_channels : n < 1 → d ≡ refused 1 (number n ∷ [])
  unfolding length_places
  no_channels l = at_first _ _ (rw (lt-leb 1 n l))

  pub many_channels : 6 < n → d ≡ refused 1 (number n ∷ [])
  unfolding length_places
  many_channels m = at_first _ _ (rw (lt-leb n 6 m, and-false (leb 1 n)))

  pub not_whole : 1 ≤ n → n ≤ 6 → b % (4704 * n) ≢ 0 → d ≡ refused 4 (number b ∷ number 0 ∷ [])
  unfolding length_places
  not_whole one six h = at_next _ _ (rw (le-leb 1 n one, le-leb n 6 six)) ∙ at_first _ _ (ap not (ne_eqb (b % (4704 * n)) 0 h))

  pub too_many : 1 ≤ n → n ≤ 6 → b % (4704 * n) ≡ 0 → 540000 < b / (4704 * n) → d ≡ refused 5 (number (b / (4704 * n)) ∷ [])
  unfolding length_places
  too_many one six whole l = at_next _ _ (rw (le-leb 1 n one, le-leb n 6 six)) ∙ at_next _ _ (ap not (eq-eqb _ _ whole)) ∙ at_first _ _ (lt-ltb 540000 (b / (4704 * n)) l)

  pub all_right : 1 ≤ n → n ≤ 6 → b % (4704 * n) ≡ 0 → b / (4704 * n) ≤ 540000 → d ≡ accepted
  unfolding length_places
  all_right one six whole l =
      at_next _ _ (rw (le-leb 1 n one, le-leb n 6 six)) ∙ at_next _ _ (ap not (eq-eqb _ _ whole)) ∙ at_next _ _ (le-ltb 540000 (b / (4704 * n)) l) ∙ at_end

pub length_is : (n : ℕ) (fr : List ℕ) → file_length n (length fr) ≡ 92 + written_data n fr
unfolding file_length written_data written_channel frame_count
length_is n fr = refl

-- the length of a list for a file, after its header was put
pub long_after : (n : ℕ) (fr : List ℕ) {w out mid : List ℕ} → PutPromise 0 w out mid → length out ≡ file_length n (length fr) → length mid ≡ 92 + written_data n fr
long_after n fr p e = p.same ∙ e ∙ length_is n fr

-- what cannot be written is turned down
pub accepted_few : (n b : ℕ) → decide (length_places n b) ≡ accepted → (1 ≤ n) × (n ≤ 6) × (b % (4704 * n) ≡ 0) × (b / (4704 * n) ≤ 540000)
unfolding length_places
accepted_few n b e =
    let p = pass _ _ e in
    let q = pass _ _ p.1 in
    let r = pass _ _ q.1 in
    let t = T_of (not-false (leb 1 n && leb n 6) p.0) in
    (leb-true 1 n (T_is (left (leb 1 n) (leb n 6) t)), leb-true n 6 (T_is (right (leb 1 n) (leb n 6) t)), eqb-true _ _ (not-false _ q.0), ltb-false _ _ r.0)

pub accepted_writable : (n : ℕ) (fr : List ℕ) → decide (length_places n (length fr)) ≡ accepted → Writable n fr
unfolding frame_count
accepted_writable n fr e =
    let f = accepted_few n (length fr) e in
    record { one = f.0; six = f.1; whole = omega (arith, div-add-mod' (length fr) (4704 * n), f.2); few = f.3 }

-- ---- answers: what is asked of n channels and b bytes, and then an output of some size, which `whole` fills
module _ (n b size : ℕ) (whole out : List ℕ) where
  abbrev places : List Place
  places = length_places n b ++ (lent_length 7 (length out) size ∷ [])

  down : (e : PcmError) → error_decision e ≡ decide (length_places n b) → (error_decision e ≡ decide places) × (out ≡ by_decision (decide places) whole out)
  down e d =
      let r = ap is_accepted (sym d) ∙ error_refuses e in
      let s = decide_stop (length_places n b) (lent_length 7 (length out) size ∷ []) r in
      (d ∙ sym s, sym (exit_refused _ whole out (ap is_accepted s ∙ r)))

  module _ (e : decide (length_places n b) ≡ accepted) where
    past : decide places ≡ decide (lent_length 7 (length out) size ∷ [])
    past = decide_skip (length_places n b) _ e

    wrong : length out ≢ size → (error_decision (OutputBytes (length out) size) ≡ decide places) × (out ≡ by_decision (decide places) whole out)
    unfolding lent_length is_accepted
    wrong h =
        let w = past ∙ at_first _ _ (ap not (ne_eqb (length out) size h)) in
        (sym w, sym (exit_refused _ whole out (ap is_accepted w)))

    right_size : length out ≡ size → {new : List ℕ} → new ≡ whole → (accepted ≡ decide places) × (new ≡ by_decision (decide places) whole out)
    unfolding lent_length
    right_size h w =
        let p = past ∙ at_next _ _ (ap not (eq-eqb (length out) size h)) ∙ at_end in
        (sym p, w ∙ sym (exit_accepted _ whole out p))

-- of a file
module _ (n : ℕ) (fr out : List ℕ) where
  pub turned_down : (e : PcmError) → error_decision e ≡ decide (length_places n (length fr)) → WritePromise n fr out out (Err e)
  unfolding dsf_write_places
  turned_down e d = let a = down n (length fr) (file_length n (length fr)) (written n fr) out e d in record { decided = a.0; written_out = a.1 }

  module _ (e : decide (length_places n (length fr)) ≡ accepted) where
    pub wrong_output : length out ≢ file_length n (length fr) → WritePromise n fr out out (Err (OutputBytes (length out) (file_length n (length fr))))
    unfolding dsf_write_places
    wrong_output h = let a = wrong n (length fr) (file_length n (length fr)) (written n fr) out e h in record { decided = a.0; written_out = a.1 }

    pub given : length out ≡ file_length n (length fr) → {new : List ℕ} → new ≡ written n fr → WritePromise n fr out new (Ok tt)
    unfolding dsf_write_places
    given h w = let a = right_size n (length fr) (file_length n (length fr)) (written n fr) out e h w in record { decided = a.0; written_out = a.1 }

-- of the data alone
module _ (n : ℕ) (fr out : List ℕ) where
  pub laid_down : (e : PcmError) → error_decision e ≡ decide (length_places n (length fr)) → LaidPromise n fr out out (Err e)
  unfolding laid_places
  laid_down e d = let a = down n (length fr) (written_data n fr) (laid_out n fr) out e d in record { decided = a.0; written_out = a.1 }

  module _ (e : decide (length_places n (length fr)) ≡ accepted) where
    pub laid_wrong : length out ≢ written_data n fr → LaidPromise n fr out out (Err (OutputBytes (length out) (written_data n fr)))
    unfolding laid_places
    laid_wrong h = let a = wrong n (length fr) (written_data n fr) (laid_out n fr) out e h in record { decided = a.0; written_out = a.1 }

    pub laid_given : length out ≡ written_data n fr → {new : List ℕ} → new ≡ laid_out n fr → LaidPromise n fr out new (Ok tt)
    unfolding laid_places
    laid_given h w = let a = right_size n (length fr) (written_data n fr) (laid_out n fr) out e h w in record { decided = a.0; written_out = a.1 }

-- of the header alone
module _ (n b : ℕ) (out : List ℕ) where
  pub head_down : (e : PcmError) → error_decision e ≡ decide (length_places n b) → HeadPromise n b out out (Err e)
  head_down e d = record { decided = d; written_out = sym (exit_refused _ (head n b) out (ap is_accepted (sym d) ∙ error_refuses e)) }

  pub head_put : {new : List ℕ} → PutPromise 0 (head n b) out new → take 92 new ≡ head n b
  unfolding head header_with text bytes
  head_put p = p.put

  pub head_given : decide (length_places n b) ≡ accepted → length out ≡ 92 → {new : List ℕ} → PutPromise 0 (head n b) out new → HeadPromise n b out new (Ok tt)
  head_given e l {new} p =
      let all : take 92 new ≡ new = ap (λ (m : ℕ). take m new) (sym (p.same ∙ l)) ∙ take-length new in
      record { decided = sym e; written_out = sym all ∙ head_put p ∙ sym (exit_accepted _ (head n b) out e) }

pub frames_fit : (n : ℕ) (fr : List ℕ) → length fr / (4704 * n) * 4704 * n ≤ length fr
frames_fit n fr = omega (arith, mul_assoc (length fr / (4704 * n)) 4704 n, div-mul-le_self (length fr) (4704 * n))

-- all frames are counted in 64 bits
pub frames_few : (n : ℕ) (fr : List ℕ) → Writable n fr → length fr + n < 2 ^ 64
frames_few n fr w =
    let k : 4704 * n ≤ 28224 = omega (arith, w.six) in
    omega (arith, w.whole, w.six, mul-le-mul w.few k)
