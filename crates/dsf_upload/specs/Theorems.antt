-- What is proved of giving up early.
use Rattle.std.specs.Prelude.{◌≡◌, List, ℕ, T, take}
use Rattle.text.specs.Bytes.{Bytes}
use Rattle.dsf.specs.Reading.{HeadOf}
use Rattle.dsf_upload.specs.Uploads.{Continued, UploadPromise, known, known_length}
use Rattle.dsf_upload.specs.Deciding.{hopeful}
use Rattle.dsf_upload.specs.declared.Upload.{Upload}

-- `hopeful` decides whether a beginning has an accepted continuation. Proved in proofs/Early, `decides`
abbrev pub Decides : Type 0
Decides = (p : List ℕ) → Bytes p → (T (hopeful p) → Continued p) × (Continued p → T (hopeful p))

-- no file has two answers. Proved in proofs/Early, `one_answer`
abbrev pub OneAnswer : Type 0
OneAnswer = (file : List ℕ) → Bytes file → (x y : Upload) → UploadPromise file x → UploadPromise file y → x ≡ y

-- what counts of a head says of every file with it what the head says. Proved in proofs/Beginnings, `seen`
abbrev pub Seen : Type 0
Seen = (file head : List ℕ) (n : ℕ) → HeadOf file head n → HeadOf file (take (known head n) head) (known_length head n)
