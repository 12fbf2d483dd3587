-- What the scaling asks and gives.
use Rattle.std.specs.Prelude.{◌≡◌, List, Bool, true, false, ◌&&◌, ℕ, ◌*◌, ◌<◌, ltb, leb, ℤ, length, Float}
use Rattle.std.specs.Float.{nan, inf, fin}
use Rattle.std.specs.Float.Ieee.{up, down}
use Rattle.numbers.specs.Sums.{at0}
use Rattle.reference.specs.Scaling.{scaled, clamp}
use Rattle.reference.specs.declared.ChannelStats.{ChannelStats}
use Rattle.gain.specs.Tallies.{tally}

-- finite, above 0 and at most 16, as the factor of every allowed dB is: proofs/Reach
unfoldable pub bounded : Float → Bool
bounded nan = false
bounded (inf s) = false
bounded (fin true m e) = false
bounded (fin false m e) = ltb 0 m && leb (m * up e) (16 * down e)

-- ys scaled into `out`, which holds out' then
pub record ScaledBlock (factor : Float) (ys out out' : List ℤ) (told : ChannelStats) : Type 0 where
  pub same_length : length out' ≡ length out
  pub samples : (k : ℕ) → k < length ys → at0 out' k ≡ clamp (scaled factor (at0 ys k))
  pub is_told : told ≡ tally (λ k. scaled factor (at0 ys k)) 0 (length ys)
