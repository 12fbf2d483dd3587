-- What the places of an asked frame decide; the window that every file has past its header; and frames of windows as
-- the file's.
use Rattle.std.proofs.Common.{◌≡◌, refl, sym, ap, ap₂, ◌∙◌, List, [], ◌∷◌, ◌++◌, Bool, true, false, cond, not, ◌&&◌, ◌≢◌, ⊎_elim, Result, Ok, Err, Some, None}
use Rattle.std.proofs.Common.{min, ℕ, suc, ◌+◌, ◌-◌, ◌*◌, ◌/◌, ◌%◌, ◌^◌, ◌≤◌, ◌<◌, mul-le-mul_right, mod-lt, div-lt_iff_lt-mul, arith, le-leb, lt-ltb, le-ltb}
use Rattle.std.proofs.Common.{eq-eqb, ne_eqb, eqb-true, leb-true, leb-false, T, ltb, leb, ltb→lt, length, get_or, take, drop, length-drop, get_or-drop}
use Rattle.std.proofs.Common.{length-take-le}
use mathlib.Core.Bool.{and-false}
use borrow.Author.Tests.{lt-leb, not-false}
use Rattle.numbers.specs.Lists.{tabulate}
use Rattle.numbers.proofs.Lists.{below_or, length_tabulate, get_d_tabulate, is_tabulate}
use Rattle.reference.specs.Frames.{frame_length, idle}
use Rattle.reference.specs.Refusals.{Decision, accepted, refused, Place, place, decide, error_decision, is_accepted, number, lent_length}
use Rattle.reference.proofs.Refusals.{error_refuses, at_first, at_next, at_end, pass, decide_first, decide_skip, decide_stop}
use Rattle.reference.specs.Promises.{by_decision}
use Rattle.reference.specs.declared.PcmError.{PcmError}
use Rattle.reference.proofs.Promises.{accepted_is, exit_accepted, exit_refused}
use Rattle.text.specs.Bytes.{Bytes, number_at}
use Rattle.dsf.specs.Dsf.{blocks, data_bytes, data_place, channels, bits_per_sample, sample_count, needed, frames, frames_in}
use Rattle.dsf.specs.Dsf.{file_places, frame_places, accepts, our_byte, sample_byte, turn_byte, data_frame, file_data, file_frame}
use Rattle.dsf.specs.Reading.{HeadOf, file_header, header_places}
use Rattle.dsf.specs.declared.DsfHeader.{DsfHeader}
use Rattle.dsf.proofs.Alike.{T_is, T_of, left, right, skip}
use Rattle.text.proofs.Bytes.{number_small, each_take, each_drop}
use Rattle.dsf.proofs.Accepted.{sound_at, head_channels}
use Rattle.dsf.proofs.Head.{whole_head, header_right}
use Rattle.dsf_frames.specs.Theorems.{WindowRight}
use Rattle.dsf_frames.specs.Reading.{window_start, window_end, window_of, asked_places, window_places, window_data, window_frame, Framed, WindowOf}
use Rattle.dsf_frames.specs.inner.Windows.{WindowArgs}
use Rattle.dsf_frames.specs.declared.FrameWindow.{FrameWindow}
use Rattle.dsf_columns.proofs.Strides.{place_at, above, within}
use Rattle.dsf_frames.proofs.Windows.{column_args, turn_at}

-- ---- what a program reads for a frame
pub window_is : (w : FrameWindow) (n s f : ℕ) → n ≤ 6 → f < frames_in s → w.start ≡ window_start n f → w.end ≡ window_end n s f → window_of n s f ≡ Some w
unfolding window_of
window_is w n s f h l e g = rw (le-leb n 6 h, lt-ltb f (frames_in s) l) (λ i. Some (record { start = sym e i; end = sym g i }))

pub no_window : (n s f : ℕ) → frames_in s ≤ f → window_of n s f ≡ None
unfolding window_of
no_window n s f h = rw (le-ltb f (frames_in s) h, and-false (leb n 6))

pub no_channels : (n s f : ℕ) → 6 < n → window_of n s f ≡ None
unfolding window_of
no_channels n s f h = rw (lt-leb n 6 h)

-- ---- the places, one after the other
module _ (n s f start size room : ℕ) where
  abbrev d : Decision
  d = decide (asked_places n s f start size room)

  pub no_frame : frames_in s ≤ f → d ≡ refused 5 (number f ∷ [])
  unfolding asked_places
  no_frame l = at_first _ _ (le-leb (frames_in s) f l)

  pub begins_late : f < frames_in s → window_start n f < start → d ≡ refused 11 []
  unfolding asked_places
  begins_late l h = at_next _ _ (lt-leb (frames_in s) f l) ∙ at_first _ _ (rw (lt-leb start (window_start n f) h))

  pub ends_early : f < frames_in s → leb (window_end n s f) (start + size) ≡ false → d ≡ refused 11 []
  unfolding asked_places
  ends_early l e = at_next _ _ (lt-leb (frames_in s) f l) ∙ at_first _ _ (rw (e, and-false (leb start (window_start n f))))

  pub held : f < frames_in s → start ≤ window_start n f → leb (window_end n s f) (start + size) ≡ true → d ≡ decide (lent_length 7 room (frame_length n) ∷ [])
  unfolding asked_places
  held l h e = at_next _ _ (lt-leb (frames_in s) f l) ∙ at_next _ _ (rw (le-leb start (window_start n f) h, e))

  pub wrong_room : f < frames_in s → start ≤ window_start n f → leb (window_end n s f) (start + size) ≡ true → room ≢ 4704 * n → d ≡ refused 7 (number room ∷ number (4704 * n) ∷ [])
  unfolding lent_length
  wrong_room l h e g = held l h e ∙ at_first _ _ (ap not (ne_eqb room (4704 * n) g))

  pub fits : f < frames_in s → start ≤ window_start n f → leb (window_end n s f) (start + size) ≡ true → room ≡ 4704 * n → d ≡ accepted
  unfolding lent_length
  fits l h e g = held l h e ∙ at_next _ _ (ap not (eq-eqb room (4704 * n) g)) ∙ at_end

  -- what an accepted one has
  pub args : accepted ≡ d → 1 ≤ n → n ≤ 6 → WindowArgs n s f start size room
  unfolding asked_places lent_length frames_in
  args q one six =
      let a = pass _ _ (sym q) in
      let b = pass _ _ a.1 in
      let c = pass _ _ b.1 in
      let begins = leb start (window_start n f) in
      let covers = leb (window_end n s f) (start + size) in
      let t = T_of (not-false (begins && covers) b.0) in
      record {
        one = one;
        six = six;
        asked = omega (arith, leb-false ((s / 8 + 4703) / 4704) f a.0);
        begins = leb-true _ _ (T_is (left begins covers t));
        covers = leb-true _ _ (T_is (right begins covers t));
        lent = eqb-true _ _ (not-false _ c.0);
      }

-- ---- the rest of a file past its header is a window for each of its frames
module _ (file : List ℕ) (f room : ℕ) where
  abbrev whole : List Place
  whole = asked_places (channels file) (sample_count file) f 0 (length (drop 92 file)) room

  abbrev own : List Place
  own = place (leb (frames file) f) 5 (number f ∷ []) ∷ lent_length 7 room (frame_length (channels file)) ∷ []

  covered : T (accepts file) → leb (window_end (channels file) (sample_count file) f) (0 + length (drop 92 file)) ≡ true
  unfolding accepts file_places window_end blocks needed data_bytes
  covered a =
      let s = sound_at file (length file) a in
      let last = min (sample_count file / 8) (f * 4704 + 4704) in
      let k : (last + 4095) / 4096 * 4096 ≤ (sample_count file / 8 + 4095) / 4096 * 4096 = omega arith in
      let within : (last + 4095) / 4096 * 4096 * channels file ≤ 0 + length (drop 92 file) = omega (arith, mul-le-mul_right (channels file) k, s.sized, s.ends, length-drop 92 file) in
      le-leb _ _ within

  same_asked : T (accepts file) → decide whole ≡ decide own
  unfolding frames
  same_asked a =
      ⊎_elim
      (λ l. held (channels file) (sample_count file) f 0 (length (drop 92 file)) room l (omega arith) (covered a) ∙ sym (at_next _ _ (lt-leb (frames_in (sample_count file)) f l)))
      (λ l. no_frame (channels file) (sample_count file) f 0 (length (drop 92 file)) room l ∙ sym (at_first _ _ (le-leb (frames_in (sample_count file)) f l)))
      (below_or f (frames_in (sample_count file)))

  pub whole_places : decide (window_places file (length file) f 0 (length (drop 92 file)) room) ≡ decide (frame_places file f room)
  unfolding window_places frame_places accepts
  whole_places = go (is_accepted (decide (file_places file))) refl
    where
      go : (b : Bool) → is_accepted (decide (file_places file)) ≡ b → decide (header_places file (length file) ++ whole) ≡ decide (file_places file ++ own)
      go true e =
          let p = accepted_is (decide (file_places file)) e in
          decide_skip (header_places file (length file)) whole (whole_head file ∙ p) ∙ same_asked (T_of e) ∙ sym (decide_skip (file_places file) own p)
      go false e =
          decide_stop (header_places file (length file)) whole (ap is_accepted (whole_head file) ∙ e) ∙ whole_head file ∙ sym (decide_stop (file_places file) own e)

pub whole_frame : (file : List ℕ) (f : ℕ) → window_frame file f (drop 92 file) 0 ≡ file_frame file f
whole_frame file f =
    let same : window_data (drop 92 file) 0 ≡ file_data file = λ i j. at j i in
    ap (λ (read : ℕ → ℕ). data_frame read (channels file) (bits_per_sample file) (sample_count file) f) same
  where
    at : (j : ℕ) → get_or (drop 92 file) (j - 0) 0 ≡ get_or file (92 + j) 0
    at j = let z : j - 0 ≡ j = omega arith in rw z (get_or-drop 92 file j 0)

-- the places decide alike, and the frame is the same
pub framed_as : {ps qs : List Place} {x y out out' : List ℕ} {answer : Result (Unit {0}) PcmError} → decide ps ≡ decide qs → x ≡ y → Framed ps x out out' answer → Framed qs y out out' answer
framed_as {out = out} e h p =
    record { decided = p.decided ∙ e; written = p.written ∙ ap₂ (λ (d : Decision) (l : List ℕ). by_decision d l out) e h }

-- ---- with the file's first bytes and its length
module _ (head : List ℕ) (n : ℕ) (h : DsfHeader) (q : h ≡ file_header head) where
  pub head_few : decide (header_places head n) ≡ accepted → (1 ≤ h.channels) × (h.channels ≤ 6)
  unfolding file_header
  head_few e = rw q (head_channels head n e)

  pub window_taken : (f start : ℕ) (window : List ℕ) {out out' : List ℕ} {answer : Result (Unit {0}) PcmError} → decide (header_places head n) ≡ accepted
      → Framed (asked_places h.channels h.samples f start (length window) (length out)) (data_frame (window_data window start) h.channels h.bits_per_sample h.samples f) out out' answer
      → Framed (window_places head n f start (length window) (length out)) (window_frame head f window start) out out' answer
  unfolding file_header window_places
  window_taken f start window e t = framed_as (sym (decide_skip (header_places head n) _ e)) refl (rw q at t)

-- a frame that is given, or refused
pub given : (places : List Place) {frame out out' : List ℕ} → accepted ≡ decide places → out' ≡ frame → Framed places frame out out' (Ok tt)
given places {frame} {out} e w = record { decided = e; written = w ∙ sym (exit_accepted _ frame out (sym e)) }

pub turned_down : (places : List Place) {frame out : List ℕ} (e : PcmError) → error_decision e ≡ decide places → Framed places frame out out (Err e)
turned_down places {frame} {out} e d = record { decided = d; written = sym (exit_refused _ frame out (ap is_accepted (sym d) ∙ error_refuses e)) }

pub window_refused : (head : List ℕ) (n f start size : ℕ) {x out : List ℕ} (e : PcmError) → error_decision e
    ≡ decide (header_places head n) → Framed (window_places head n f start size (length out)) x out out (Err e)
unfolding window_places
window_refused head n f start size {out = out} e a =
    let s = decide_stop (header_places head n) (asked_places (channels head) (sample_count head) f start size (length out)) (ap is_accepted (sym a) ∙ error_refuses e) in
    turned_down _ e (a ∙ sym s)

-- ---- a frame by its bytes
frame_same : (r r' : ℕ → ℕ) (n b s f : ℕ) → 0 < n
    → ((c k : ℕ) → c < n → k < 4704 → sample_byte r n b s c (f * 4704 + k) ≡ sample_byte r' n b s c (f * 4704 + k)) → data_frame r n b s f ≡ data_frame r' n b s f
unfolding data_frame
frame_same r r' n b s f z h =
    let first = f * (4704 * n) in
    is_tabulate (turn_byte r' n b s) first (4704 * n) 0 (tabulate (turn_byte r n b s) first (4704 * n)) (length_tabulate (turn_byte r n b s) first (4704 * n))
    (λ j l. get_d_tabulate (turn_byte r n b s) first (4704 * n) j 0 l ∙ turn_at r n b s f j z ∙ h (j % n) (j / n) (mod-lt j z) ((div-lt_iff_lt-mul z).1 l) ∙ sym (turn_at r' n b s f j z))

-- ---- a window of a file: what is given from it is the file's frame
module _ (file head : List ℕ) (n : ℕ) (h : HeadOf file head n) (b : Bytes file) (window : List ℕ) (start : ℕ) (w : WindowOf file window start) (f room : ℕ)
    (e : decide (window_places head n f start (length window) room) ≡ accepted) where
  accepted_head : decide (header_places head n) ≡ accepted
  unfolding window_places
  accepted_head = decide_first (header_places head n) _ e

  few : (1 ≤ channels head) × (channels head ≤ 6)
  few = head_channels head n accepted_head

  window_args : WindowArgs (channels head) (sample_count head) f start (length window) room
  unfolding window_places
  window_args = args (channels head) (sample_count head) f start (length window) room (sym (sym (decide_skip (header_places head n) _ accepted_head) ∙ e)) few.0 few.1

  same_header : file_header head ≡ file_header file
  same_header = (header_right file head n h).1

  same_samples : sample_count head ≡ sample_count file
  unfolding file_header
  same_samples = ap (λ (x : DsfHeader). x.samples) same_header

  long : 92 ≤ length file
  unfolding accepts file_places is_accepted
  long = (sound_at file (length file) (T_of (ap is_accepted (sym (header_right file head n h).0 ∙ accepted_head)))).long

  small : sample_count head < 2 ^ 64
  unfolding sample_count number_at
  small =
      let part = take 8 (drop 64 file) in
      let size : length part ≡ 8 = length-take-le 8 (drop 64 file) (omega (arith, length-drop 64 file, long)) in
      let s = number_small part (each_take 8 (drop 64 file) (each_drop 64 b)) in
      let p : sample_count file < 256 ^ 8 = rw size at s in
      omega (arith, same_samples)

  cell : (c k : ℕ) → c < channels head → k < 4704
      → sample_byte (window_data window start) (channels head) (bits_per_sample head) (sample_count head) c (f * 4704 + k)
      ≡ sample_byte (file_data file) (channels head) (bits_per_sample head) (sample_count head) c (f * 4704 + k)
  unfolding sample_byte data_place
  cell c k l m =
      let q = f * 4704 + k in
      let g = column_args window_args c l small in
      ⊎_elim
      (λ t.
      let p : start + (place_at g q - start) ≡ place_at g q = omega (arith, above g q (omega arith)) in
      let i : place_at g q - start < length window = omega (arith, within g q (suc q) (omega arith) (omega arith) (omega arith) (omega arith)) in
      ap (λ (x : ℕ). cond (ltb q (sample_count head / 8)) (our_byte (bits_per_sample head) x) idle) (rw p at (w.holds (place_at g q - start) i)))
      (λ t. skip (ltb q (sample_count head / 8)) _ _ (λ u. omega (arith, ltb→lt q (sample_count head / 8) u))
      ∙ sym (skip (ltb q (sample_count head / 8)) _ _ (λ u. omega (arith, ltb→lt q (sample_count head / 8) u))))
      (below_or q (sample_count head / 8))

  frame_is : window_frame head f window start ≡ file_frame file f
  unfolding file_header
  frame_is =
      frame_same (window_data window start) (file_data file) (channels head) (bits_per_sample head) (sample_count head) f few.0 cell
      ∙ ap (λ (x : DsfHeader). data_frame (file_data file) x.channels x.bits_per_sample x.samples f) same_header

pub window_right : WindowRight
window_right file head n h b window start w f room e = frame_is file head n h b window start w f room e
