-- What a call about a file has done, by the answer of the function that it calls.
use Rattle.std.proofs.Common.{◌≡◌, ap, ◌∙◌, Result, List, [], ◌∷◌, ℕ, length}
use Rattle.reference.specs.Refusals.{Place, decide, decision, refusal_number}
use Rattle.reference.specs.declared.PcmError.{PcmError}
use Rattle.dsf.specs.Reading.{OpenedPromise, HeaderPromise, file_header}
use Rattle.dsf.specs.declared.DsfHeader.{DsfHeader}
use Rattle.dsf_frames.specs.Reading.{Framed}
use Rattle.dsf_write.specs.Written.{head, laid_out, written, file_length, length_places, laid_places, dsf_write_places, LengthPromise, HeadPromise, LaidPromise, WritePromise}
use Rattle.dsf_upload.specs.declared.Upload.{Upload}
use Rattle.dsf_why.specs.Why.{why_of}
use Rattle.dsf_why.specs.declared.Why.{Why}
use Rattle.codes.specs.Told.{if_ok, ToldData, ToldWritten}
use Rattle.codes.proofs.Told.{told_written, told_made}
use Rattle.c_dsf.specs.Calls.{header_numbers, upload_number, upload_place, UploadDone, why_numbers, WhyCall}

pub read_done : (places : List Place) (head : List ℕ) {header header' data' : List ℕ} {answer : ℕ} (made : Result DsfHeader PcmError) → OpenedPromise places head made
    → ToldData (decision made) answer data' → header' ≡ if_ok header_numbers made header → ToldWritten (decide places) (header_numbers (file_header head)) header header' data' answer
read_done places head made p t w = told_made places header_numbers made (file_header head) p.decided p.header t w

pub frame_done : (places : List Place) (frame : List ℕ) {out out' data' : List ℕ} {answer : ℕ} (made : Result (Unit {0}) PcmError) → Framed places frame out out' made
    → ToldData (decision made) answer data' → ToldWritten (decide places) frame out out' data' answer
frame_done places frame made p t = told_written made p.decided t p.written

pub write_done : (channels : ℕ) (frames : List ℕ) {out out' data' : List ℕ} {answer : ℕ} (made : Result (Unit {0}) PcmError) → WritePromise channels frames out out' made
    → ToldData (decision made) answer data' → ToldWritten (decide (dsf_write_places channels frames (length out))) (written channels frames) out out' data' answer
write_done channels frames made p t = told_written made p.decided t p.written_out

pub head_done : (channels n : ℕ) {out out' data' : List ℕ} {answer : ℕ} (made : Result (Unit {0}) PcmError) → HeadPromise channels n out out' made → ToldData (decision made) answer data'
    → ToldWritten (decide (length_places channels n)) (head channels n) out out' data' answer
head_done channels n made p t = told_written made p.decided t p.written_out

pub lay_out_done : (channels : ℕ) (frames : List ℕ) {out out' data' : List ℕ} {answer : ℕ} (made : Result (Unit {0}) PcmError) → LaidPromise channels frames out out' made
    → ToldData (decision made) answer data' → ToldWritten (decide (laid_places channels frames (length out))) (laid_out channels frames) out out' data' answer
lay_out_done channels frames made p t = told_written made p.decided t p.written_out

pub length_done : (channels n : ℕ) {size size' data' : List ℕ} {answer : ℕ} (made : Result ℕ PcmError) → LengthPromise channels n made → ToldData (decision made) answer data'
    → size' ≡ if_ok (λ k. k ∷ []) made size → ToldWritten (decide (length_places channels n)) (file_length channels n ∷ []) size size' data' answer
length_done channels n made p t w = told_made (length_places channels n) (λ k. k ∷ []) made (file_length channels n) p.decided p.sized t w

pub upload_done : (Promise : Upload → Type 0) {place place' : List ℕ} {answer : ℕ} (made : Upload) → Promise made → (answer ≡ upload_number made) × (place' ≡ upload_place made place)
    → UploadDone Promise place place' answer
upload_done Promise made p t = record { made = made; promise = p; number = t.0; written = t.1 }

pub why_done : (head : List ℕ) (n : ℕ) (made : Result DsfHeader PcmError) → HeaderPromise head n made → (w : Why) → w ≡ why_of head n → {told' : List ℕ} {answer : ℕ}
    → answer ≡ refusal_number (decision made) → told' ≡ why_numbers w → WhyCall head n told' answer
why_done head n made p w e t f = (t ∙ ap refusal_number p.decided, f ∙ ap why_numbers e)
