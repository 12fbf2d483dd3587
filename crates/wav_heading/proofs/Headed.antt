-- Laws of the header's call.
use Rattle.std.proofs.Common.{◌≡◌, Ok, Err, ℕ, ◌≤◌, ◌≢◌, List, [], ◌∷◌, ◌++◌, length, drop, sym, ap, ◌∙◌, append-nil, drop_of_length-le, arith}
use borrow.Author.Tests.{not-false}
use Rattle.reference.specs.Refusals.{error_decision, decide, accepted, is_accepted, lent_length}
use Rattle.reference.proofs.Refusals.{pass, error_refuses}
use Rattle.reference.proofs.Promises.{exit_accepted, exit_refused}
use Rattle.refusals.proofs.Steps.{first_stops, past_first, wrong_bytes, right_length, nothing}
use Rattle.wav_header.specs.Header.{header, most_data}
use Rattle.wav_format.proofs.Reading.{right_is}
use Rattle.reference.specs.Codes.{hertz}
use Rattle.reference.specs.declared.PcmRate.{PcmRate}
use Rattle.reference.specs.declared.PcmError.{PcmError}
use Rattle.reference.specs.declared.PcmError.TheVariants.{OutputBytes}
use Rattle.wav_heading.specs.Heading.{no_such_file, head_places, HeaderPromise}

module _ (rate : PcmRate) (n bytes : ℕ) (out : List ℕ) where
  pub head_refused : (e : PcmError) → error_decision e ≡ decide (no_such_file rate n bytes ∷ []) → HeaderPromise rate n bytes out out (Err e)
  unfolding head_places
  head_refused e d =
      let no : error_decision e ≡ decide (head_places rate n bytes (length out)) = first_stops (no_such_file rate n bytes) (lent_length 7 (length out) 44 ∷ []) e d in
      record { decided = no; written = sym (exit_refused _ _ _ (ap is_accepted (sym no) ∙ error_refuses e)) }

  module _ (d : accepted ≡ decide (no_such_file rate n bytes ∷ [])) where
    pub head_wrong : length out ≢ 44 → HeaderPromise rate n bytes out out (Err (OutputBytes (length out) 44))
    unfolding head_places is_accepted
    head_wrong r =
        let no : error_decision (OutputBytes (length out) 44) ≡ decide (head_places rate n bytes (length out)) =
        past_first (no_such_file rate n bytes) (lent_length 7 (length out) 44 ∷ []) d (wrong_bytes (length out) 44 [] r) in
        record { decided = no; written = sym (exit_refused _ _ _ (ap is_accepted (sym no))) }

    pub head_written : {out' : List ℕ} → length out ≡ 44 → out' ≡ header (hertz rate) n bytes ++ drop 44 out → HeaderPromise rate n bytes out out' (Ok _)
    unfolding head_places
    head_written r w =
        let yes : accepted ≡ decide (head_places rate n bytes (length out)) =
        past_first (no_such_file rate n bytes) (lent_length 7 (length out) 44 ∷ []) d (right_length (length out) 44 [] 7 r nothing) in
        let none : drop 44 out ≡ [] = drop_of_length-le out {i = 44} (omega arith) in
        record { decided = yes; written = w ∙ rw (none, append-nil) (sym (exit_accepted _ _ _ (sym yes))) }

    pub head_fits : (n ≤ 2) × (bytes ≤ most_data)
    unfolding no_such_file
    head_fits =
        let right = right_is rate n bytes (not-false _ (pass _ _ (sym d)).0) in
        (right.few, right.told)
