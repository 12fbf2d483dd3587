-- What each call about a DSF file promises: its answer, and what every lent list holds when it returns. Nothing is
-- unclear. A primed list is one at exit.
use Rattle.std.specs.Prelude.{◌≡◌, List, [], ◌∷◌, ℕ, length}
use Rattle.reference.specs.Refusals.{decide, refusal_number}
use Rattle.dsf.specs.Dsf.{file_places, frame_places, file_frame}
use Rattle.dsf.specs.Reading.{file_header, header_places}
use Rattle.dsf.specs.declared.DsfHeader.{DsfHeader}
use Rattle.dsf_frames.specs.Reading.{frame_window, window_places, window_frame}
use Rattle.dsf_frames.specs.declared.FrameWindow.{FrameWindow}
use Rattle.dsf_write.specs.Written.{head, laid_out, written, file_length, length_places, laid_places, dsf_write_places}
use Rattle.dsf_upload.specs.Uploads.{UploadPromise, HeadPromise}
use Rattle.dsf_upload.specs.declared.Upload.{Upload}
use Rattle.dsf_upload.specs.declared.Upload.TheVariants.{Accepted, Unfinished, GiveUp}
use Rattle.dsf_why.specs.Why.{why_of}
use Rattle.dsf_why.specs.declared.Why.{Why}
use Rattle.codes.specs.Told.{ToldWritten}

-- ---- what a file holds, as five numbers
abbrev pub header_numbers : DsfHeader → List ℕ
header_numbers h = h.channel_type ∷ h.channels ∷ h.bits_per_sample ∷ h.samples ∷ h.frames ∷ []

abbrev pub DsfReadCall : List ℕ → List ℕ → List ℕ → List ℕ → ℕ → Type 0
DsfReadCall file = ToldWritten (decide (file_places file)) (header_numbers (file_header file))

abbrev pub ReadHeaderCall : List ℕ → ℕ → List ℕ → List ℕ → List ℕ → ℕ → Type 0
ReadHeaderCall head n = ToldWritten (decide (header_places head n)) (header_numbers (file_header head))

-- ---- why it is refused: the refusal's number, and the first wrong field
abbrev pub why_numbers : Why → List ℕ
why_numbers w = w.place ∷ w.value ∷ w.asked ∷ []

abbrev pub WhyCall : List ℕ → ℕ → List ℕ → ℕ → Type 0
WhyCall head n told' answer = (answer ≡ refusal_number (decide (header_places head n))) × (told' ≡ why_numbers (why_of head n))

-- ---- a frame
abbrev pub FrameCall : List ℕ → ℕ → List ℕ → List ℕ → List ℕ → ℕ → Type 0
FrameCall file f out = ToldWritten (decide (frame_places file f (length out))) (file_frame file f) out

abbrev pub WindowFrameCall : List ℕ → ℕ → ℕ → List ℕ → ℕ → List ℕ → List ℕ → List ℕ → ℕ → Type 0
WindowFrameCall head n f window start out = ToldWritten (decide (window_places head n f start (length window) (length out))) (window_frame head f window start) out

-- what to read for it, as two numbers
abbrev pub window_numbers : FrameWindow → List ℕ
window_numbers w = w.start ∷ w.end ∷ []

abbrev pub WindowCall : ℕ → ℕ → ℕ → List ℕ → Type 0
WindowCall channels samples f window' = window' ≡ window_numbers (frame_window channels samples f)

-- ---- a file written, and its length for so many bytes of frames
abbrev pub DsfWriteCall : ℕ → List ℕ → List ℕ → List ℕ → List ℕ → ℕ → Type 0
DsfWriteCall channels frames out = ToldWritten (decide (dsf_write_places channels frames (length out))) (written channels frames) out

abbrev pub LengthCall : ℕ → ℕ → List ℕ → List ℕ → List ℕ → ℕ → Type 0
LengthCall channels n = ToldWritten (decide (length_places channels n)) (file_length channels n ∷ [])

-- ---- and its parts: its first 92 bytes for so many bytes of frames, and the data of some frames
abbrev pub HeadCall : ℕ → ℕ → List ℕ → List ℕ → List ℕ → ℕ → Type 0
HeadCall channels n = ToldWritten (decide (length_places channels n)) (head channels n)

abbrev pub LayOutCall : ℕ → List ℕ → List ℕ → List ℕ → List ℕ → ℕ → Type 0
LayOutCall channels frames out = ToldWritten (decide (laid_places channels frames (length out))) (laid_out channels frames) out

-- ---- an upload's answer: its number, and where it is given up
abbrev pub upload_number : Upload → ℕ
upload_number Accepted = 0
upload_number Unfinished = 1
upload_number (GiveUp n) = 2

abbrev pub upload_place : Upload → List ℕ → List ℕ
upload_place Accepted old = old
upload_place Unfinished old = old
upload_place (GiveUp n) old = n ∷ []

-- it keeps the promise, and is told
pub record UploadDone (Promise : Upload → Type 0) (place place' : List ℕ) (answer : ℕ) : Type 0 where
  pub made : Upload
  pub promise : Promise made
  pub number : answer ≡ upload_number made
  pub written : place' ≡ upload_place made place

abbrev pub GiveUpCall : List ℕ → List ℕ → List ℕ → ℕ → Type 0
GiveUpCall file = UploadDone (UploadPromise file)

abbrev pub GiveUpHeaderCall : List ℕ → ℕ → List ℕ → List ℕ → ℕ → Type 0
GiveUpHeaderCall head n = UploadDone (HeadPromise head n)
