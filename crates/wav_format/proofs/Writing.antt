-- The sample bytes of a file, and what the second entry's places decide.
use Rattle.std.proofs.Common.{◌≡◌, sym, ap, ◌∙◌, List, [], ◌∷◌, ◌++◌, append-nil, true, false, not, ◌≢◌, ℕ, ◌+◌, ◌-◌, arith, eq-eqb, ne_eqb, length, take, drop}
use Rattle.std.proofs.Common.{length-drop, drop_of_length-le, take_at, Ok, Err}
use borrow.Author.Tests.{not-false}
use borrow.Rule.Slice.PartMut.{put_mid, post_of}
use Rattle.reference.specs.Refusals.{Decision, accepted, refused, decide, is_accepted, lent_length}
use Rattle.reference.specs.declared.PcmRate.{PcmRate}
use Rattle.reference.specs.declared.PcmError.TheVariants.{OutputBytes, NotWav}
use Rattle.reference.proofs.Refusals.{at_first, at_next, at_end, pass, error_refuses}
use Rattle.reference.proofs.Promises.{exit_accepted, exit_refused}
use Rattle.wav_format.specs.Wav.{wav_file, right_data}
use Rattle.wav_format.specs.Places.{takes, write_places}
use Rattle.wav_format.specs.Promises.{ReadPromise, file_samples, WritePromise}
use Rattle.wav_format.specs.declared.WavFormat.{WavFormat}
use Rattle.reference.specs.declared.PcmError.{PcmError}
use Rattle.wav_format.proofs.Reading.{read_accepts, accepts_read}

-- ---- the sample bytes of a file

module _ (file : List ℕ) where
  pub told_takes : {f : WavFormat} → ReadPromise file (Ok f) → takes file ≡ true
  told_takes p = accepts_read file (sym p.decided)

  pub samples_there : takes file ≡ true → drop 44 file ≡ file_samples file
  unfolding file_samples
  samples_there e = sym (exit_accepted _ (drop 44 file) [] (read_accepts file e))

  pub samples_none : {e : PcmError} → ReadPromise file (Err e) → [] ≡ file_samples file
  unfolding file_samples
  samples_none {e} p = sym (exit_refused _ (drop 44 file) [] (ap is_accepted (sym p.decided) ∙ error_refuses e))

-- ---- the second entry

module _ (rate : PcmRate) (channels : ℕ) (l out : List ℕ) where
  abbrev d : Decision
  d = decide (write_places rate channels l (length out))

  pub none_taken : right_data rate channels (length l) ≡ false → WritePromise rate channels l out out (Err NotWav)
  unfolding write_places is_accepted
  none_taken e =
      let p : d ≡ refused 12 [] = at_first _ _ (ap not e) in
      record { decided = sym p; written = sym (exit_refused d (wav_file rate channels l) out (ap is_accepted p)) }

  module _ (right : right_data rate channels (length l) ≡ true) where
    past : d ≡ decide (lent_length 7 (length out) (44 + length l) ∷ [])
    unfolding write_places
    past = at_next _ _ (ap not right)

    pub wrong_output : length out ≢ 44 + length l → WritePromise rate channels l out out (Err (OutputBytes (length out) (44 + length l)))
    unfolding lent_length is_accepted
    wrong_output n =
        let p : d ≡ refused 7 _ = past ∙ at_first _ _ (ap not (ne_eqb _ _ n)) in
        record { decided = sym p; written = sym (exit_refused d (wav_file rate channels l) out (ap is_accepted p)) }

    right_output : length out ≡ 44 + length l → d ≡ accepted
    unfolding lent_length
    right_output e = past ∙ at_next _ _ (ap not (eq-eqb _ _ e)) ∙ at_end

    pub writes : (out' : List ℕ) → length out ≡ 44 + length l → out' ≡ wav_file rate channels l → WritePromise rate channels l out out' (Ok tt)
    writes out' e w = record { decided = sym (right_output e); written = w ∙ sym (exit_accepted d (wav_file rate channels l) out (right_output e)) }

-- header and data, put one after the other
pub whole : (h mid old ys : List ℕ) → length h ≡ 44 → mid ≡ h ++ drop 44 old → put_mid 44 (length mid - 44) mid ys ≡ h ++ ys
whole h mid old ys n e =
    let t : take 44 mid ≡ h = rw e (take_at h (drop 44 old) 44 n) in
    let z : post_of 44 (length mid - 44) mid ≡ [] = drop_of_length-le (drop 44 mid) {i = length mid - 44} (omega (arith, length-drop 44 mid)) in
    rw (t, z) (ap (λ (l : List ℕ). h ++ l) (append-nil ys))

pub accepted_right : (rate : PcmRate) (channels : ℕ) (l out : List ℕ) → decide (write_places rate channels l (length out)) ≡ accepted → right_data rate channels (length l) ≡ true
unfolding write_places
accepted_right rate channels l out e = not-false _ (pass _ _ e).0
