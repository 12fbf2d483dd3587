-- Giving up early on an upload: the shortest beginning that no continuation makes acceptable.
use Rattle.std.specs.Prelude.{List, ◌++◌, not, cond, ℕ, ◌≤◌, ◌<◌, T, min, ltb, length, take}
use Rattle.text.specs.Bytes.{Bytes}
use Rattle.dsf.specs.Dsf.{accepts}
use Rattle.dsf.specs.Reading.{HeadOf}
use Rattle.dsf_upload.specs.declared.Upload.{Upload}
use Rattle.dsf_upload.specs.declared.Upload.TheVariants.{Accepted, Unfinished, GiveUp}

-- a continuation, of any length (perhaps none), free of 9, 10 and 11
pub record Continued (beginning : List ℕ) : Type 0 where
  pub rest : List ℕ
  pub are_bytes : Bytes rest
  pub accepted : T (accepts (beginning ++ rest))

abbrev pub Hopeless : List ℕ → Type 0
Hopeless beginning = Continued beginning → ⊥

pub record ShortestHopeless (file : List ℕ) (n : ℕ) : Type 0 where
  pub within : n ≤ length file
  pub hopeless : Hopeless (take n file)
  pub shorter : (m : ℕ) → m < n → Continued (take m file)

-- what the answer for a file says; no file has two such answers (proofs/Early, `one_answer`)
abbrev pub UploadPromise : List ℕ → Upload → Type 0
UploadPromise file Accepted = T (accepts file)
UploadPromise file Unfinished = T (not (accepts file)) × Continued file
UploadPromise file (GiveUp n) = T (not (accepts file)) × ShortestHopeless file n

-- the answer holds of every file of n bytes that begins as `head` does, up to 92 bytes
abbrev pub OfEvery : List ℕ → ℕ → Upload → Type 0
OfEvery head n answer = (file : List ℕ) → Bytes file → HeadOf file head n → UploadPromise file answer

-- from the first bytes and the length: of `head` no more than 92 bytes count, and no more than the length;
-- where fewer are there, they count as the whole file
abbrev pub known : List ℕ → ℕ → ℕ
known head n = min (min 92 n) (length head)

abbrev pub known_length : List ℕ → ℕ → ℕ
known_length head n = cond (ltb (known head n) 92) (known head n) n

-- so it holds of every file with this head and n bytes (proofs/Beginnings, `seen`)
abbrev pub HeadPromise : List ℕ → ℕ → Upload → Type 0
HeadPromise head n = OfEvery (take (known head n) head) (known_length head n)
