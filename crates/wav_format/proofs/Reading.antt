-- The reader takes exactly the files of the definition, and tells their rate and channels.
use Rattle.std.proofs.Common.{◌≡◌, refl, sym, ap, subst, ◌∙◌, List, [], ◌++◌, Bool, true, false, not, ◌||◌, ◌⊎◌, inl, inr, ⊎_elim, ℕ, zero, suc, ◌+◌, ◌-◌, ◌/◌}
use Rattle.std.proofs.Common.{◌%◌, ◌≤◌, ◌<◌, div-add-mod', arith, eqb-true, leb-true, le-leb, eqb, leb, length, get_or, take, drop, take-append-drop}
use Rattle.std.proofs.Common.{length-append, length-drop, take_at, drop_at, get_or-take, Ok, Err}
use native.Mathlib.Nat.{mul-mod_left, mul-div_left}
use borrow.Author.Tests.{not-false}
use Rattle.text.specs.Text.{text, joined}
use Rattle.reference.specs.Codes.{hertz}
use Rattle.reference.specs.Output.{samples_per_frame}
use Rattle.reference.specs.Refusals.{accepted, refused, decide}
use Rattle.reference.specs.declared.PcmRate.{PcmRate}
use Rattle.reference.specs.declared.PcmRate.TheVariants.{Hz88200, Hz176400, Hz352800}
use Rattle.reference.specs.declared.PcmError.TheVariants.{NotWav}
use Rattle.reference.proofs.Refusals.{at_first, at_next, at_end, pass}
use Rattle.text.specs.Bytes.{bytes}
use Rattle.wav_header.specs.Header.{fields, header, most_data}
use Rattle.wav_header.proofs.ThreeParts.{length_header}
use Rattle.wav_format.specs.Wav.{wav_file, frame_size, Right, Taken, right_data, is_file}
use Rattle.wav_format.specs.Places.{at_rate, takes, read_places}
use Rattle.wav_format.specs.Promises.{ReadPromise}
use Rattle.wav_format.specs.inner.Deciding.{rate_of_byte, channels_of}
use Rattle.text.specs.Lists.{same}
use Rattle.text.proofs.Same.{and_left, and_right, and_not, and_false, and_both, no_true, same_self, same_is}

or_left : (a b : Bool) → a ≡ true → a || b ≡ true
or_left a b e = rw e refl

or_right : (a b : Bool) → b ≡ true → a || b ≡ true
or_right true b e = refl
or_right false b e = e

or_elim : (a b : Bool) → a || b ≡ true → (a ≡ true) ⊎ (b ≡ true)
or_elim true b e = inl refl
or_elim false b e = inr e

-- ---- the data's length

pub frame_some : (rate : PcmRate) (channels : ℕ) → 1 ≤ channels → 1 ≤ frame_size rate channels
unfolding frame_size samples_per_frame
frame_some Hz88200 channels h = omega arith
frame_some Hz176400 channels h = omega arith
frame_some Hz352800 channels h = omega arith

module _ (rate : PcmRate) (channels n : ℕ) where
  pub right_is : right_data rate channels n ≡ true → Right rate channels n
  unfolding right_data
  right_is e =
      let a = and_right (leb 1 channels) _ e in
      let b = and_right (leb channels 2) _ a in
      let c = and_right (eqb (n % frame_size rate channels) 0) _ b in
      let z : n % frame_size rate channels ≡ 0 = eqb-true _ _ (and_left _ _ b) in
      record {
        some = leb-true 1 channels (and_left _ _ e);
        few = leb-true channels 2 (and_left _ _ a);
        frames = n / frame_size rate channels;
        whole = omega (arith, div-add-mod' n (frame_size rate channels));
        at_most = leb-true _ 540000 (and_left _ _ c);
        told = leb-true n most_data (and_right (leb (n / frame_size rate channels) 540000) _ c);
      }

  pub right_of : Right rate channels n → right_data rate channels n ≡ true
  unfolding right_data
  right_of r =
      let s = frame_some rate channels r.some in
      let m : n % frame_size rate channels ≡ 0 = rw r.whole (mul-mod_left r.frames (frame_size rate channels)) in
      let d : n / frame_size rate channels ≡ r.frames = rw r.whole (mul-div_left r.frames s) in
      rw (le-leb 1 channels r.some, le-leb channels 2 r.few, m, d, le-leb r.frames 540000 r.at_most, le-leb n most_data r.told) refl

-- ---- one rate and one number of channels

module _ (file : List ℕ) (rate : PcmRate) (channels : ℕ) where
  module _ (e : is_file file rate channels ≡ true) where
    pub begin : take 44 file ≡ header (hertz rate) channels (length file - 44)
    unfolding is_file
    begin = same_is _ _ (and_right (right_data rate channels (length file - 44)) _ e)

    pub data_right : Right rate channels (length (drop 44 file))
    unfolding is_file
    data_right = rw length-drop (right_is rate channels (length file - 44) (and_left _ _ e))

    pub file_is : file ≡ wav_file rate channels (drop 44 file)
    unfolding wav_file
    file_is = sym (take-append-drop 44 file) ∙ ap (λ (h : List ℕ). h ++ drop 44 file) (begin ∙ ap (header (hertz rate) channels) (sym (length-drop 44 file)))

  -- rate and channels read off the header
  rate_byte : (r : PcmRate) (c n : ℕ) → rate_of_byte (get_or (header (hertz r) c n) 24 0) ≡ r
  unfolding header fields joined text bytes rate_of_byte
  rate_byte Hz88200 c n = refl
  rate_byte Hz176400 c n = refl
  rate_byte Hz352800 c n = refl

  channels_byte : (h c n : ℕ) → 1 ≤ c → c ≤ 2 → channels_of (get_or (header h c n) 22 0) ≡ c
  unfolding header fields joined text bytes channels_of
  channels_byte h zero n s f = absurd (omega arith)
  channels_byte h (suc zero) n s f = refl
  channels_byte h (suc (suc zero)) n s f = refl
  channels_byte h (suc (suc (suc c))) n s f = absurd (omega arith)

  pub rate_is : is_file file rate channels ≡ true → rate_of_byte (get_or file 24 0) ≡ rate
  rate_is e = ap rate_of_byte (sym (get_or-take 44 file 24 0 (omega arith)) ∙ ap (λ (l : List ℕ). get_or l 24 0) (begin e)) ∙ rate_byte rate channels (length file - 44)

  pub channels_is : is_file file rate channels ≡ true → channels_of (get_or file 22 0) ≡ channels
  channels_is e =
      ap channels_of (sym (get_or-take 44 file 22 0 (omega arith)) ∙ ap (λ (l : List ℕ). get_or l 22 0) (begin e))
      ∙ channels_byte (hertz rate) channels (length file - 44) (data_right e).some (data_right e).few

by_rate : (file : List ℕ) (r : PcmRate) → at_rate file r ≡ true → takes file ≡ true
unfolding takes
by_rate file Hz88200 f = or_left _ _ f
by_rate file Hz176400 f = or_right (at_rate file Hz88200) _ (or_left _ _ f)
by_rate file Hz352800 f = or_right (at_rate file Hz88200) _ (or_right (at_rate file Hz176400) _ f)

by_channels : (file : List ℕ) (r : PcmRate) (c : ℕ) → 1 ≤ c → c ≤ 2 → is_file file r c ≡ true → at_rate file r ≡ true
unfolding at_rate
by_channels file r zero s f e = absurd (omega arith)
by_channels file r (suc zero) s f e = or_left _ _ e
by_channels file r (suc (suc zero)) s f e = or_right (is_file file r 1) _ e
by_channels file r (suc (suc (suc c))) s f e = absurd (omega arith)

pub takes_of : (file : List ℕ) (rate : PcmRate) (channels : ℕ) → is_file file rate channels ≡ true → takes file ≡ true
takes_of file rate channels e =
    let r = data_right file rate channels e in
    by_rate file rate (by_channels file rate channels r.some r.few e)

-- ---- any

pub record Found (file : List ℕ) : Type 0 where
  pub rate : PcmRate
  pub channels : ℕ
  pub is : is_file file rate channels ≡ true

found_at : (file : List ℕ) (r : PcmRate) → at_rate file r ≡ true → Found file
unfolding at_rate
found_at file r e = ⊎_elim (λ f. record { rate = r; channels = 1; is = f }) (λ f. record { rate = r; channels = 2; is = f }) (or_elim (is_file file r 1) (is_file file r 2) e)

pub found : (file : List ℕ) → takes file ≡ true → Found file
unfolding takes
found file e =
    ⊎_elim (found_at file Hz88200)
    (λ f. ⊎_elim (found_at file Hz176400) (found_at file Hz352800) (or_elim (at_rate file Hz176400) (at_rate file Hz352800) f))
    (or_elim (at_rate file Hz88200) (at_rate file Hz176400 || at_rate file Hz352800) e)

-- the rate and the channels that the two bytes tell
pub reads : (file : List ℕ) → takes file ≡ true → is_file file (rate_of_byte (get_or file 24 0)) (channels_of (get_or file 22 0)) ≡ true
reads file e = let f = found file e in rw (rate_is file f.rate f.channels f.is, channels_is file f.rate f.channels f.is) f.is

-- ---- the definition

pub of_file : (rate : PcmRate) (channels : ℕ) (l : List ℕ) → Right rate channels (length l) → is_file (wav_file rate channels l) rate channels ≡ true
unfolding is_file wav_file
of_file rate channels l r =
    let h = header (hertz rate) channels (length l) in
    let e : length h ≡ 44 = length_header (hertz rate) channels (length l) in
    let n : length (h ++ l) - 44 ≡ length l = omega (arith, length-append h l) in
    let t : take 44 (h ++ l) ≡ h = take_at h l 44 e in
    rw (n, t, right_of rate channels (length l) r, same_self h) refl

pub data_is : (rate : PcmRate) (channels : ℕ) (l : List ℕ) → drop 44 (wav_file rate channels l) ≡ l
unfolding wav_file
data_is rate channels l = drop_at (header (hertz rate) channels (length l)) l 44 (length_header (hertz rate) channels (length l))

pub length_file : (rate : PcmRate) (channels : ℕ) (l : List ℕ) → length (wav_file rate channels l) ≡ 44 + length l
unfolding wav_file
length_file rate channels l = let h = header (hertz rate) channels (length l) in omega (arith, length-append h l, length_header (hertz rate) channels (length l))

-- the reader takes the files of the definition, and no others
pub takes_taken : (file : List ℕ) → takes file ≡ true → Taken file
takes_taken file e =
    let f = found file e in
    record { rate = f.rate; channels = f.channels; samples = drop 44 file; is = file_is file f.rate f.channels f.is; right = data_right file f.rate f.channels f.is }

pub taken_takes : (file : List ℕ) → Taken file → takes file ≡ true
taken_takes file t = rw t.is (takes_of _ t.rate t.channels (of_file t.rate t.channels t.samples t.right))

-- ---- the place

pub read_accepts : (file : List ℕ) → takes file ≡ true → decide (read_places file) ≡ accepted
unfolding read_places
read_accepts file e = at_next _ _ (ap not e) ∙ at_end

pub accepts_read : (file : List ℕ) → decide (read_places file) ≡ accepted → takes file ≡ true
unfolding read_places
accepts_read file e = not-false _ (pass _ _ e).0

pub read_refuses : (file : List ℕ) → (takes file ≡ true → ⊥) → decide (read_places file) ≡ refused 12 []
unfolding read_places
read_refuses file n = at_first _ _ (ap not (none (takes file) n))
  where
    none : (b : Bool) → (b ≡ true → ⊥) → b ≡ false
    none true h = absurd (h refl)
    none false h = refl

pub long : (file : List ℕ) → takes file ≡ true → 44 ≤ length file
long file e =
    let t = takes_taken file e in
    omega (arith, ap length t.is, length_file t.rate t.channels t.samples)

-- ---- the promise

module _ (file : List ℕ) where
  taken_is : (t : Taken file) → is_file file t.rate t.channels ≡ true
  taken_is t = subst (λ (l : List ℕ). is_file l t.rate t.channels ≡ true) (sym t.is) (of_file t.rate t.channels t.samples t.right)

  pub refuses : (takes file ≡ true → ⊥) → ReadPromise file (Err NotWav)
  refuses n = record { decided = sym (read_refuses file n); told = λ t. absurd (n (taken_takes file t)) }

  pub too_short : length file < 44 → ReadPromise file (Err NotWav)
  too_short h = refuses (λ e. omega (arith, long file e))

  pub tells : (rate : PcmRate) (channels : ℕ) → is_file file rate channels ≡ true → ReadPromise file (Ok (record { rate = rate; channels = channels }))
  tells rate channels e =
      record {
        decided = sym (read_accepts file (takes_of file rate channels e));
        told = λ t.
            let r = sym (rate_is file rate channels e) ∙ rate_is file t.rate t.channels (taken_is t) in
            let c = sym (channels_is file rate channels e) ∙ channels_is file t.rate t.channels (taken_is t) in
            λ i. Ok (record { rate = r i; channels = c i });
      }

  -- rate and channels by the two bytes
  module _ (rate : PcmRate) (channels : ℕ) (r : rate ≡ rate_of_byte (get_or file 24 0)) (c : channels ≡ channels_of (get_or file 22 0)) where
    not_file : is_file file rate channels ≡ false → ReadPromise file (Err NotWav)
    not_file n = refuses (λ e. no_true _ (rw (r, c) (reads file e)) n)

    pub not_right : {d : Bool} → d ≡ right_data rate channels (length file - 44) → d ≡ false → ReadPromise file (Err NotWav)
    unfolding is_file
    not_right e n = not_file (and_not _ _ (sym e ∙ n))

    module _ {b : Bool} (e : b ≡ same (take 44 file) (header (hertz rate) channels (length file - 44))) where
      pub not_begun : b ≡ false → ReadPromise file (Err NotWav)
      unfolding is_file
      not_begun n = not_file (and_false (right_data rate channels (length file - 44)) _ (sym e ∙ n))

      pub is_told : {d : Bool} → d ≡ right_data rate channels (length file - 44) → d ≡ true → b ≡ true → ReadPromise file (Ok (record { rate = rate; channels = channels }))
      unfolding is_file
      is_told f t n = tells rate channels (and_both (right_data rate channels (length file - 44)) _ (sym f ∙ t) (sym e ∙ n))
