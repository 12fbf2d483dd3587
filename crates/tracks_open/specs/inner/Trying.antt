-- What is tried of each track; no part of the promise.
use Rattle.std.specs.Prelude.{◌≡◌, Result, IfOk, List, [], ◌∷◌, ◌++◌, not, eqb, ℕ, ◌+◌, ◌-◌, ◌/◌, ◌≤◌, flat_map, length}
use Rattle.numbers.specs.Lists.{tabulate}
use Rattle.reference.specs.Refusals.{Place, place, decision, decide, opening_places}
use Rattle.reference.specs.declared.Settings.{Settings}
use Rattle.reference.specs.declared.PcmError.{PcmError}
use Rattle.dsf.specs.Reading.{file_header}
use Rattle.dsf.specs.declared.DsfHeader.{DsfHeader}
use Rattle.tracks.specs.Tracks.{Head, head_at, head_length, all_length, settings_for, too_long, first_places, next_places, rest_places, refused_from}
use Rattle.tracks_open.specs.Open as albums
use Rattle.tracks_open.specs.Open.{Names}
use Rattle.tracks_open.specs.declared.Refused.{Refused}

-- of a track's eighth part of 2 ^ 64 samples, behind two hours
abbrev pub most_bytes : ℕ
most_bytes = 2305843011753853952

-- of so many bytes and a length
abbrev pub a_head : List ℕ → ℕ → Head
a_head bytes n = record { bytes = bytes; long = n }

-- of the first track after its header
abbrev pub opened_places : Settings → DsfHeader → List Place
opened_places s o = opening_places (settings_for s o.channels) ++ (too_long (o.samples / 8) ∷ [])

-- of another
abbrev pub other_type : ℕ → ℕ → Place
other_type type k = place (not (eqb k type)) 9 []

abbrev pub joined_places : ℕ → ℕ → DsfHeader → List Place
joined_places type end o = other_type type o.channel_type ∷ too_long end ∷ []

pub record FirstTried (h : Head) (s : Settings) (answer : Result DsfHeader PcmError) : Type 0 where
  pub decided : decision answer ≡ decide (first_places h s)
  pub header : IfOk answer (λ o. o ≡ file_header h.bytes)

pub record NextTried (h : Head) (type before : ℕ) (answer : Result ℕ PcmError) : Type 0 where
  pub decided : decision answer ≡ decide (next_places type (before + head_length h) h)
  pub end : IfOk answer (λ p. p ≡ before + head_length h)

-- the heads from the k-th on
abbrev pub heads_from : List ℕ → List ℕ → ℕ → List Head
heads_from heads lengths k = tabulate (head_at heads lengths) k (length lengths - k)

abbrev pub later_places : List ℕ → List ℕ → ℕ → ℕ → ℕ → List (List Place)
later_places heads lengths type before k = rest_places type before (heads_from heads lengths k)

pub record RestTried (heads lengths : List ℕ) (type before : ℕ) (answer : Result ℕ Refused) : Type 0 where
  pub decided : albums.tracks_decision answer ≡ decide (flat_map (λ p. p) (later_places heads lengths type before 1))
  pub named : Names (refused_from 1 (later_places heads lengths type before 1)) answer
  pub end : IfOk answer (λ p. p ≡ before + all_length (heads_from heads lengths 1))
  pub few : IfOk answer (λ p. p ≤ 2540160000)

pub record NumbersArgs (channels bytes : ℕ) : Type 0 where
  pub few : channels ≤ 6
  pub most : bytes ≤ 2540160000
