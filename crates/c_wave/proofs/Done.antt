-- What the call has done, by the answer of the function that it calls.
use Rattle.std.proofs.Common.{◌≡◌, sym, ap, subst, ◌∙◌, Result, List, [], ◌∷◌, ℕ}
use Rattle.reference.specs.Refusals.{decide, decision, refusal_number}
use Rattle.reference.specs.declared.PcmRate.{PcmRate}
use Rattle.reference.specs.declared.PcmError.{PcmError}
use Rattle.codes.specs.Told.{if_ok}
use Rattle.codes.proofs.Told.{accepted_only}
use Rattle.wave_headers.specs.Headers.{header_length, pad}
use Rattle.wave_headers.specs.Choice.{kind_of, kind_places}
use Rattle.wave_headers.specs.Promises.{HeaderPromise}
use Rattle.wave_headers.specs.declared.Format.{Format}
use Rattle.c_wave.specs.Calls.{KindHeaderDone}

-- of what is asked for, f at rate r, which the code has as g at rate q
module _ {f g : Format} {r q : PcmRate} (is : ◌≡◌ {A = Format × PcmRate} (f, r) (g, q)) (channels type n : ℕ) where
  pub header_done : (made : Result ℕ PcmError) {out out' told told' : List ℕ} {answer : ℕ} → HeaderPromise g q channels type n out out' made
      → (answer ≡ refusal_number (decision made)) × (told' ≡ if_ok (λ l. l ∷ pad n ∷ []) made told)
      → KindHeaderDone (decide (kind_places f channels type n)) f r channels type n out out' told told' answer
  header_done made {out} {out'} {told} p t =
      let promise = subst (λ (x : Format × PcmRate). HeaderPromise x.0 x.1 channels type n out out' made) (sym is) p in
      record {
        number = t.0 ∙ ap refusal_number promise.decided;
        written = promise.written;
        lengths = t.1 ∙ accepted_only (kind_places f channels type n) (λ l. l ∷ pad n ∷ []) made (header_length (kind_of f channels n)) told promise.decided promise.told;
      }
