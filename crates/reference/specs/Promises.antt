-- What each call promises, as contracts cite it: its answer, and what every lent list holds when it returns.
use Rattle.std.specs.Prelude.{◌≡◌, Result, Ok, Err, List, ◌++◌, Bool, true, false, ℕ, ◌*◌, ◌/◌, ◌≤◌, min, ℤ, Float, length, take, drop}
use Rattle.reference.specs.Frames.{Run, frame_count}
use Rattle.reference.specs.Scaling.{db_to_linear}
use Rattle.reference.specs.Stages.{taps_of}
use Rattle.reference.specs.Settings.{converter_of, with_filter, reach_of}
use Rattle.reference.specs.Output.{unclamped, samples, stats, per_frame_clips, s24le}
use Rattle.reference.specs.Statistics.{no_stats}
use Rattle.reference.specs.Refusals.{rack, desk, most, Decision, accepted, refused, Place, decide, decision, gain_places}
use Rattle.reference.specs.Refusals.{opening_places, held_places, convert_run_places, convert_places, convert_frame_places}
use Rattle.reference.specs.declared.Filter.{Filter}
use Rattle.reference.specs.declared.Settings.{Settings}
use Rattle.reference.specs.declared.Converter.{Converter}
use Rattle.reference.specs.declared.Limit.{Limit}
use Rattle.reference.specs.declared.Gain.{Gain}
use Rattle.reference.specs.declared.ConvertStats.{ConvertStats}
use Rattle.reference.specs.declared.PcmError.{PcmError}

-- the one where the call is accepted, the other where it is refused
unfoldable pub by_decision : {A : Type 0} → Decision → A → A → A
by_decision accepted new old = new
by_decision (refused n d) new old = old

-- ---- gain and opening

pub record GainPromise (db : Float) (answer : Result Gain PcmError) : Type 0 where
  pub decided : decision answer ≡ decide (gain_places db)
  pub made : decide (gain_places db) ≡ accepted → answer ≡ Ok (record { db = db; linear = db_to_linear db })

pub record OpeningPromise (settings : Settings) (answer : Result Converter PcmError) : Type 0 where
  pub decided : decision answer ≡ decide (opening_places settings)
  pub converter : decide (opening_places settings) ≡ accepted → answer ≡ Ok (converter_of settings)

-- ---- conversions: `out` and `counts` are the lent lists at entry, `out'` and `counts'` at exit

-- what a conversion answers
abbrev pub Converted : Type 0
Converted = Result ConvertStats PcmError

-- what an answer tells of the samples: a refused call has counted nothing
unfoldable pub stats_told : Converted → ConvertStats
stats_told (Ok s) = s
stats_told (Err e) = no_stats

-- the answer of a conversion that tries these places
pub record Answered (places : List Place) (conv : Converter) (r : Run) (answer : Converted) : Type 0 where
  pub decided : decision answer ≡ decide places
  pub counted : stats_told answer ≡ by_decision (decide places) (stats conv r) no_stats

-- 32-bit output
pub record SamplesPromise (places : List Place) (conv : Converter) (r : Run) (out out' : List ℤ) (answer : Converted) : Type 0 where
  pub answered : Answered places conv r answer
  pub written : out' ≡ by_decision (decide places) (samples conv r) out

abbrev pub ConvertRunPromise : Converter → Run → List ℤ → List ℤ → Converted → Type 0
ConvertRunPromise conv r out = SamplesPromise (convert_run_places conv r out) conv r out

abbrev pub ConvertFramePromise : Converter → Run → List ℤ → List ℤ → Converted → Type 0
ConvertFramePromise conv r out = SamplesPromise (convert_frame_places conv r out) conv r out

-- a list of per-frame counts that is not lent keeps its contents
unfoldable pub if_lent : Bool → List ℕ → List ℕ → List ℕ
if_lent true new old = new
if_lent false new old = old

-- byte output, under a limit of frames
pub record BytesPromise (whose : Limit) (conv : Converter) (r : Run) (lent : Bool) (out counts out' counts' : List ℕ) (answer : Converted) : Type 0 where
  pub answered : Answered (convert_places whose conv r out lent counts) conv r answer
  pub written : out' ≡ by_decision (decide (convert_places whose conv r out lent counts)) (s24le (samples conv r)) out
  pub per_frame : counts' ≡ by_decision (decide (convert_places whose conv r out lent counts)) (if_lent lent (per_frame_clips conv r) counts) counts

abbrev pub ConvertPromise : Converter → Run → Bool → List ℕ → List ℕ → List ℕ → List ℕ → Converted → Type 0
ConvertPromise = BytesPromise rack

abbrev pub DeskPromise : Converter → Run → Bool → List ℕ → List ℕ → List ℕ → List ℕ → Converted → Type 0
DeskPromise = BytesPromise desk

-- request 8: as far as the desk takes frames, both entries give the same on the same input, refused calls included.
-- Proved in proofs/Limits
abbrev pub DeskAsRack : Type 0
DeskAsRack =
    (conv : Converter) (r : Run) (lent : Bool) (out counts o o' c c' : List ℕ) (a b : Converted) → frame_count conv.channels r.frames ≤ most desk
    → ConvertPromise conv r lent out counts o c a → DeskPromise conv r lent out counts o' c' b → (a ≡ b) × (o ≡ o') × (c ≡ c')

-- request 10: the places of a filter record past its number of taps are free. With another record of the same taps a
-- converter is accepted or refused alike, has the same reach, and gives the same before the clamp, on which samples,
-- bytes and statistics stand. Proved in proofs/Filters
abbrev pub FilterPlacesFree : Type 0
FilterPlacesFree =
    (conv : Converter) (f : Filter) → f.count ≡ conv.filter.count → taps_of f ≡ taps_of conv.filter → (r : Run)
    → (decide (held_places (with_filter f conv)) ≡ decide (held_places conv)) × (reach_of (with_filter f conv) ≡ reach_of conv)
    × (unclamped (with_filter f conv) r ≡ unclamped conv r)

-- ---- `pack_s24le`

-- min(samples, bytes / 3) samples are packed, and the bytes past them kept
unfoldable pub packed : List ℤ → List ℕ → List ℕ
packed zs bytes =
    let n = min (length zs) (length bytes / 3) in
    s24le (take n zs) ++ drop (3 * n) bytes

pub record PackPromise (zs : List ℤ) (bytes bytes' : List ℕ) : Type 0 where
  pub written : bytes' ≡ packed zs bytes
