-- What a call over a WAV file has done, by the answer of the function that it calls, and what the writers find of a
-- rate's number.
use Rattle.std.proofs.Common.{◌≡◌, refl, sym, ap, subst, ◌∙◌, Result, Err, List, [], ◌∷◌, ℕ, true, false, not, length}
use Rattle.reference.specs.Codes.{hertz}
use Rattle.reference.specs.Refusals.{Place, Decision, refused, decide, decision, is_accepted, refusal_number}
use Rattle.reference.specs.Promises.{by_decision}
use Rattle.reference.specs.declared.PcmRate.{PcmRate}
use Rattle.reference.specs.declared.PcmError.{PcmError}
use Rattle.reference.specs.declared.PcmError.TheVariants.{NotWav}
use Rattle.reference.proofs.Refusals.{at_first, at_next}
use Rattle.reference.proofs.Promises.{exit_refused}
use Rattle.wav_header.specs.Header as wav
use Rattle.wav_format.specs.Wav.{wav_file}
use Rattle.wav_format.specs.Places.{write_places}
use Rattle.wav_format.specs.Promises.{ReadPromise, file_samples, WritePromise}
use Rattle.wav_format.specs.declared.WavFormat.{WavFormat}
use Rattle.wav_heading.specs.Heading.{head_places, HeaderPromise}
use Rattle.codes.specs.Codes.{rate_of, known_rate}
use Rattle.codes.specs.Told.{if_ok, ToldData}
use Rattle.codes.proofs.Told.{told_written}
use Rattle.c_wav.specs.Calls.{rate_place, format_numbers, WavReadCall, WavWriteCall, WavHeaderCall}
use Rattle.c_wav.specs.inner.Made.{WavMade, HeaderMade}

pub read_done : (file : List ℕ) {told told' : List ℕ} {answer : ℕ} (made : Result WavFormat PcmError) → ReadPromise file made → (n : ℕ) → n ≡ length (file_samples file)
    → (answer ≡ refusal_number (decision made)) × (told' ≡ if_ok (format_numbers n) made told) → WavReadCall file told told' answer
read_done file {told} made p n e t = record { made = made; promise = p; number = t.0; written = t.1 ∙ rw e refl }

-- an unknown rate is refused before all else; past it the later places decide
module _ (rate : ℕ) (later : List Place) where
  abbrev d : Decision
  d = decide (rate_place rate ∷ later)

  unknown : known_rate rate ≡ false → d ≡ refused 12 []
  unknown e = at_first _ _ (ap not e)

  unknown_keeps : (whole out : List ℕ) → known_rate rate ≡ false → out ≡ by_decision d whole out
  unfolding is_accepted
  unknown_keeps whole out e = sym (exit_refused d whole out (ap is_accepted (unknown e)))

  known : known_rate rate ≡ true → d ≡ decide later
  known e = at_next _ _ (ap not e)

module _ (rate channels : ℕ) (bytes out : List ℕ) where
  pub unknown_written : known_rate rate ≡ false → WavMade rate channels bytes out out (Err NotWav)
  unknown_written e = record { decided = sym (unknown rate _ e); written = unknown_keeps rate _ (wav_file (rate_of rate) channels bytes) out e }

  pub known_written : known_rate rate ≡ true → (r : PcmRate) → rate_of rate ≡ r → (out' : List ℕ) (v : Result (Unit {0}) PcmError) → WritePromise r channels bytes out out' v
      → WavMade rate channels bytes out out' v
  known_written e r h out' v w =
      let p = subst (λ (x : PcmRate). WritePromise x channels bytes out out' v) (sym h) w in
      let past : d rate (write_places (rate_of rate) channels bytes (length out)) ≡ decide (write_places (rate_of rate) channels bytes (length out)) = known rate _ e in
      record { decided = p.decided ∙ sym past; written = p.written ∙ ap (λ (x : Decision). by_decision x (wav_file (rate_of rate) channels bytes) out) (sym past) }

module _ (rate channels n : ℕ) (out : List ℕ) where
  pub unknown_headed : known_rate rate ≡ false → HeaderMade rate channels n out out (Err NotWav)
  unknown_headed e = record { decided = sym (unknown rate _ e); written = unknown_keeps rate _ (wav.header (hertz (rate_of rate)) channels n) out e }

  pub known_headed : length out ≡ 44 → known_rate rate ≡ true → (r : PcmRate) → rate_of rate ≡ r → (out' : List ℕ) (v : Result (Unit {0}) PcmError) → HeaderPromise r channels n out out' v
      → HeaderMade rate channels n out out' v
  known_headed l e r h out' v w =
      let p = subst (λ (x : PcmRate). HeaderPromise x channels n out out' v) (sym h) w in
      let past : decide (head_places (rate_of rate) channels n (length out)) ≡ d rate (head_places (rate_of rate) channels n 44) =
      ap (λ (k : ℕ). decide (head_places (rate_of rate) channels n k)) l ∙ sym (known rate _ e) in
      record { decided = p.decided ∙ past; written = p.written ∙ ap (λ (x : Decision). by_decision x (wav.header (hertz (rate_of rate)) channels n) out) past }

pub write_done : (rate channels : ℕ) (bytes : List ℕ) {out out' data' : List ℕ} {answer : ℕ} (made : Result (Unit {0}) PcmError) → WavMade rate channels bytes out out' made
    → ToldData (decision made) answer data' → WavWriteCall rate channels bytes out out' data' answer
write_done rate channels bytes made p t = told_written made p.decided t p.written

pub header_done : (rate channels n : ℕ) {out out' : List ℕ} {answer : ℕ} (made : Result (Unit {0}) PcmError) → HeaderMade rate channels n out out' made
    → answer ≡ refusal_number (decision made) → WavHeaderCall rate channels n out out' answer
header_done rate channels n made p t = record { number = t ∙ ap refusal_number p.decided; written = p.written }
