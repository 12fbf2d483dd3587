-- What writing a header promises: its length or 12, and every byte.
use Rattle.std.specs.Prelude.{◌≡◌, Result, IfOk, List, ◌++◌, ℕ, drop}
use Rattle.reference.specs.Codes.{hertz}
use Rattle.reference.specs.Refusals.{decide, decision}
use Rattle.reference.specs.Promises.{by_decision}
use Rattle.reference.specs.declared.PcmRate.{PcmRate}
use Rattle.reference.specs.declared.PcmError.{PcmError}
use Rattle.wave_headers.specs.Speakers.{mask}
use Rattle.wave_headers.specs.Headers.{kind_header, header_length}
use Rattle.wave_headers.specs.Choice.{kind_of, kind_places}
use Rattle.wave_headers.specs.declared.HeaderKind.{HeaderKind}
use Rattle.wave_headers.specs.declared.Format.{Format}

-- a list that begins with a header and goes on as it was
unfoldable pub headed : HeaderKind → PcmRate → ℕ → ℕ → ℕ → List ℕ → List ℕ
headed kind rate channels type n out = kind_header kind (hertz rate) channels (mask type) n ++ drop (header_length kind) out

-- `out` is the lent list at entry, `out'` at exit
pub record HeaderPromise (asked : Format) (rate : PcmRate) (channels type n : ℕ) (out out' : List ℕ) (answer : Result ℕ PcmError) : Type 0 where
  pub decided : decision answer ≡ decide (kind_places asked channels type n)
  pub told : IfOk answer (λ l. l ≡ header_length (kind_of asked channels n))
  pub written : out' ≡ by_decision (decide (kind_places asked channels type n)) (headed (kind_of asked channels n) rate channels type n out) out
