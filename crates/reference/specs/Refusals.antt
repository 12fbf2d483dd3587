-- Where a call is turned down: document 01's table as data.
use Rattle.std.specs.Prelude.{Result, Ok, Err, List, [], ◌∷◌, ◌++◌, Bool, true, false, cond, not, ◌&&◌, ℕ, ◌*◌, ◌%◌, eqb, ltb, leb, ℤ, pos, length, Float}
use Rattle.std.specs.Int.Signed.{le_z}
use Rattle.reference.specs.Frames.{Run, frame_length, frame_count}
use Rattle.reference.specs.Stages.{taps_of, whole_sum, whole_size}
use Rattle.reference.specs.Scaling.{allowed, right_gain}
use Rattle.reference.specs.Settings.{filter_of, held_settings, true_numbers}
use Rattle.reference.specs.Output.{all_samples}
use Rattle.reference.specs.declared.PcmRate.{PcmRate}
use Rattle.reference.specs.declared.PcmRate.TheVariants.{Hz88200, Hz176400, Hz352800}
use Rattle.reference.specs.declared.Cutoff.{Cutoff}
use Rattle.reference.specs.declared.Cutoff.TheVariants.{Standard, Low, Wide}
use Rattle.reference.specs.declared.Gain.{Gain}
use Rattle.reference.specs.declared.Filter.{Filter}
use Rattle.reference.specs.declared.Settings.{Settings}
use Rattle.reference.specs.declared.Converter.{Converter}
use Rattle.reference.specs.declared.Limit.{Limit}
use Rattle.reference.specs.declared.Limit.TheVariants as limit
use Rattle.reference.specs.declared.Length.{Length}
use Rattle.reference.specs.declared.Length.TheVariants as kind
use Rattle.reference.specs.declared.PcmError.{PcmError}
use Rattle.reference.specs.declared.PcmError.TheVariants as error

-- ---- a decision

-- what a refusal carries
pub data Datum : Type 0 where
  number : ℕ → Datum
  rate : PcmRate → Datum
  cutoff : Cutoff → Datum
  decibels : Float → Datum

-- accepted, or refused with a number and data of the table
pub data Decision : Type 0 where
  accepted : Decision
  refused : ℕ → List Datum → Decision

unfoldable pub is_accepted : Decision → Bool
is_accepted accepted = true
is_accepted (refused n d) = false

-- the number of a refusal; 0 where there is none
abbrev pub refusal_number : Decision → ℕ
refusal_number accepted = 0
refusal_number (refused n d) = n

-- the number of what an input is to be
abbrev pub length_number : Length → ℕ
length_number kind.WholeFrames = 0
length_number kind.OneFrame = 1

-- number and data of each case of the answers' enums
abbrev pub error_decision : PcmError → Decision
error_decision (error.Channels n) = refused 1 (number n ∷ [])
error_decision (error.Unsupported r c) = refused 2 (rate r ∷ cutoff c ∷ [])
error_decision (error.Gain db) = refused 3 (decibels db ∷ [])
error_decision (error.InputLength n kind) = refused 4 (number n ∷ number (length_number kind) ∷ [])
error_decision (error.Frames n) = refused 5 (number n ∷ [])
error_decision (error.OutputLength n expected) = refused 6 (number n ∷ number expected ∷ [])
error_decision (error.OutputBytes n expected) = refused 7 (number n ∷ number expected ∷ [])
error_decision (error.FrameCounts n expected) = refused 8 (number n ∷ number expected ∷ [])
error_decision error.NotDsf = refused 9 []
error_decision error.DsfFormat = refused 10 []
error_decision error.DsfLength = refused 11 []
error_decision error.NotWav = refused 12 []
error_decision error.Schedule = refused 19 []
error_decision (error.Before n) = refused 13 (number n ∷ [])
error_decision (error.After n) = refused 14 (number n ∷ [])
error_decision error.Desk = refused 16 []
error_decision error.Taps = refused 17 []
error_decision error.TapSums = refused 18 []
error_decision error.Sheet = refused 20 []
error_decision error.Stored = refused 15 []

abbrev pub decision : {A : Type 0} → Result A PcmError → Decision
decision (Ok a) = accepted
decision (Err e) = error_decision e

-- ---- places

-- document 01's place: a row of the table. Whether its condition holds, its number, its data
pub record Place : Type 0 where
  pub holds : Bool
  pub refusal : ℕ
  pub carried : List Datum

abbrev pub place : Bool → ℕ → List Datum → Place
place b n d = record { holds = b; refusal = n; carried = d }

-- places are tried from top to bottom: the first whose condition holds
unfoldable pub decide : List Place → Decision
decide [] = accepted
decide (p ∷ ps) = cond p.holds (refused p.refusal p.carried) (decide ps)

-- the place of a slice that need not be there
unfoldable pub if_present : Bool → Place → List Place
if_present true p = p ∷ []
if_present false p = []

-- ---- the table

-- the gain call
unfoldable pub gain_places : Float → List Place
gain_places db = place (not (allowed db)) 3 (decibels db ∷ []) ∷ []

unfoldable pub unsupported : PcmRate → Cutoff → Bool
unsupported Hz88200 Wide = true
unsupported Hz88200 Standard = false
unsupported Hz88200 Low = false
unsupported Hz176400 c = false
unsupported Hz352800 c = false

-- centre plus twice the rest is 16,777,216, and the absolute sum at most 40,000,000
unfoldable pub right_sums : List ℤ → Bool
right_sums h = le_z (whole_sum h) (pos 16777216) && le_z (pos 16777216) (whole_sum h) && leb (whole_size h) 40000000

-- a filter: the number of its taps, then their sums
unfoldable pub filter_places : Filter → List Place
filter_places f =
    place (not (leb 1 f.count && leb f.count 117)) 17 []
    ∷ place (not (right_sums (taps_of f))) 18 [] ∷ []

-- rate with cutoff, and gain: what opening and a change are asked for
abbrev pub wanted_places : PcmRate → Cutoff → Gain → List Place
wanted_places r c g = place (unsupported r c) 2 (rate r ∷ cutoff c ∷ []) ∷ place (not (right_gain g)) 3 (decibels g.db ∷ []) ∷ []

-- opening: what settings are tried by
unfoldable pub opening_places : Settings → List Place
opening_places s =
    place (not (leb 1 s.channels && leb s.channels 6)) 1 (number s.channels ∷ []) ∷ (wanted_places s.rate s.cutoff s.gain ++ filter_places (filter_of s))

-- the stored numbers
abbrev pub numbers_place : Converter → Place
numbers_place conv = place (not (true_numbers conv)) 15 []

-- each conversion, and a change: a converter as it is held, its settings first, then its stored numbers
unfoldable pub held_places : Converter → List Place
held_places conv = opening_places (held_settings conv) ++ (numbers_place conv ∷ [])

-- a slice that is to be one frame; its refusal carries the length, and what is given here after it
unfoldable pub one_long : ℕ → List Datum → ℕ → List ℕ → Place
one_long refusal more channels bytes = place (not (eqb (length bytes) (frame_length channels))) refusal (number (length bytes) ∷ more)

-- `convert_frame`'s run
abbrev pub one_frame : ℕ → List ℕ → Place
one_frame = one_long 4 (number 1 ∷ [])

-- the rack's limit, and the listening desk's
abbrev pub rack : Limit
rack = limit.Rack

abbrev pub desk : Limit
desk = limit.Desk

-- how many frames a call takes
abbrev pub most : Limit → ℕ
most limit.Rack = 540000
most limit.Desk = 8

-- the place of more frames
abbrev pub too_many : Limit → ℕ → Place
too_many limit.Rack frames = place (ltb (most limit.Rack) frames) 5 (number frames ∷ [])
too_many limit.Desk frames = place (ltb (most limit.Desk) frames) 16 []

-- run length
unfoldable pub run_length : Limit → ℕ → List ℕ → List Place
run_length whose channels frames =
    place (not (eqb (length frames % frame_length channels) 0)) 4 (number (length frames) ∷ number 0 ∷ [])
    ∷ too_many whose (frame_count channels frames) ∷ []

-- run length, before, after
unfoldable pub input_places : Limit → Converter → Run → List Place
input_places whose conv r =
    run_length whose conv.channels r.frames
    ++ (if_present r.has_before (one_long 13 [] conv.channels r.before)
    ++ if_present r.has_after (one_long 14 [] conv.channels r.after))

-- a lent list of n items where `expected` are asked for
unfoldable pub lent_length : ℕ → ℕ → ℕ → Place
lent_length refusal n expected = place (not (eqb n expected)) refusal (number n ∷ number expected ∷ [])

-- ---- what each conversion tries: from the run length on, and in all

unfoldable pub run_lengths : Converter → Run → List ℤ → List Place
run_lengths conv r out = input_places rack conv r ++ (lent_length 6 (length out) (all_samples conv r) ∷ [])

unfoldable pub byte_lengths : Limit → Converter → Run → List ℕ → Bool → List ℕ → List Place
byte_lengths whose conv r out lent counts =
    input_places whose conv r
    ++ (lent_length 7 (length out) (3 * all_samples conv r)
    ∷ if_present lent (lent_length 8 (length counts) (frame_count conv.channels r.frames)))

unfoldable pub convert_run_places : Converter → Run → List ℤ → List Place
convert_run_places conv r out = held_places conv ++ run_lengths conv r out

unfoldable pub convert_places : Limit → Converter → Run → List ℕ → Bool → List ℕ → List Place
convert_places whose conv r out lent counts = held_places conv ++ byte_lengths whose conv r out lent counts

unfoldable pub convert_frame_places : Converter → Run → List ℤ → List Place
convert_frame_places conv r out = held_places conv ++ (one_frame conv.channels r.frames ∷ run_lengths conv r out)
