-- What the reader promises of a file's header, from the whole file, or from its first bytes and its length.
use Rattle.std.specs.Prelude.{◌≡◌, List, [], ◌∷◌, ℕ, ltb, length, take, Result, IfOk}
use Rattle.reference.specs.Refusals.{Place, place, decide, decision}
use Rattle.reference.specs.declared.PcmError.{PcmError}
use Rattle.dsf.specs.Dsf.{channel_type, channels, bits_per_sample, sample_count, frames, places_at, file_places}
use Rattle.dsf.specs.declared.DsfHeader.{DsfHeader}

-- what a file holds
unfoldable pub file_header : List ℕ → DsfHeader
file_header file = record { channel_type = channel_type file; channels = channels file; bits_per_sample = bits_per_sample file; samples = sample_count file; frames = frames file }

-- the answer of a call that tries these places: of a file that is accepted, what it holds
pub record OpenedPromise (places : List Place) (head : List ℕ) (answer : Result DsfHeader PcmError) : Type 0 where
  pub decided : decision answer ≡ decide places
  pub header : IfOk answer (λ told. told ≡ file_header head)

abbrev pub ReadPromise : List ℕ → Result DsfHeader PcmError → Type 0
ReadPromise file = OpenedPromise (file_places file) file

-- from the first bytes and the file's length: fewer than 92 of them are refused 9
unfoldable pub header_places : List ℕ → ℕ → List Place
header_places head n = place (ltb (length head) 92) 9 [] ∷ places_at head n

abbrev pub HeaderPromise : List ℕ → ℕ → Result DsfHeader PcmError → Type 0
HeaderPromise head n = OpenedPromise (header_places head n) head

-- `head` begins as the file does, up to 92 bytes, and the file has n bytes: then both promises say the same
-- (proofs/Head, `header_right`)
pub record HeadOf (file head : List ℕ) (n : ℕ) : Type 0 where
  pub begins : take 92 file ≡ take 92 head
  pub long : length file ≡ n
