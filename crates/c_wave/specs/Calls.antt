-- What the call about a WAV file's header promises: its answer, and what every lent list holds when it returns. A
-- primed list is one at exit.
use Rattle.std.specs.Prelude.{◌≡◌, List, [], ◌∷◌, Bool, ◌&&◌, cond, ℕ, eqb, ltb}
use Rattle.reference.specs.Refusals.{Decision, decide, refusal_number}
use Rattle.reference.specs.Promises.{by_decision}
use Rattle.reference.specs.declared.PcmRate.{PcmRate}
use Rattle.codes.specs.Codes.{rate_of, known_rate}
use Rattle.codes.specs.Calls.{CCall}
use Rattle.wave_headers.specs.Headers.{header_length, pad}
use Rattle.wave_headers.specs.Choice.{kind_of, kind_places}
use Rattle.wave_headers.specs.Promises.{headed}
use Rattle.wave_headers.specs.declared.Format.{Format}
use Rattle.wave_headers.specs.declared.Format.TheVariants.{Auto, Wav, Rf64}

-- formats are 0, 1 and 2
unfoldable pub format_of : ℕ → Format
format_of n = cond (eqb n 0) Auto (cond (eqb n 1) Wav Rf64)

abbrev pub known_format : ℕ → Bool
known_format n = ltb n 3

-- d is what it decides; the header's length and the bytes behind the data are told
pub record KindHeaderDone (d : Decision) (asked : Format) (rate : PcmRate) (channels type n : ℕ) (out out' told told' : List ℕ) (answer : ℕ) : Type 0 where
  pub number : answer ≡ refusal_number d
  pub written : out' ≡ by_decision d (headed (kind_of asked channels n) rate channels type n out) out
  pub lengths : told' ≡ by_decision d (header_length (kind_of asked channels n) ∷ pad n ∷ []) told

abbrev pub KindHeaderCall : ℕ → ℕ → ℕ → ℕ → ℕ → List ℕ → List ℕ → List ℕ → List ℕ → ℕ → Type 0
KindHeaderCall format rate channels type n out out' told told' answer =
    CCall (known_format format && known_rate rate) answer
    ((out' ≡ out) × (told' ≡ told))
    (KindHeaderDone (decide (kind_places (format_of format) channels type n)) (format_of format) (rate_of rate) channels type n out out' told told' answer)
