-- Demand 3 speaks of these functions: what `ensures` says of a call is, word for word, the promise that the join
-- theorem (crate joins) goes by.
use Rattle.std.proofs.Common.{◌≡◌, refl, List, map, Bool, ℕ, ℤ, is_some}
use seplogic.Ra.Ura.{Ura}
use base.Logic.{SProp}
use prog.Memory.{Memory}
use prog.Routine.{Routine}
use types.Logic.{Logic}
use contract.Lifetimes.{Lfts}
use contract.Monad.{fact, Fun}
use denote.Triple.Entry.{Args, Res}
use denote.Triple.Clauses.{AtExit}
use denote.Triple.Spec.{exits}
use Rattle.reference.specs.Frames.{Run, run, run_of}
use Rattle.reference.specs.Refusals.{rack, desk}
use Rattle.reference.specs.Promises.{Converted, BytesPromise, ConvertRunPromise}
use Rattle.reference.specs.declared.Converter.{Converter}
use Rattle.reference.specs.declared.Limit.{Limit}
use Rattle.joins.specs.Joins.{Call, convert, convert_run, AcceptedConverter, AcceptedRun, JoinTo, GiveWholeRun}
use Rattle.joins.proofs.Joins.{cut_runs_join}
use Rattle.run_record.specs.Calls.{listed, left}
use Rattle.scarletbook_pcm.specs.contracts.convert_parts as parts
use Rattle.scarletbook_pcm.specs.contracts.convert_desk_parts as desk-parts
use Rattle.scarletbook_pcm.specs.contracts.convert_run_parts as run-parts
use Rattle.run_record.specs.contracts.convert as record'
use Rattle.run_record.specs.contracts.convert_desk as desk-record
use Rattle.run_record.specs.contracts.convert_run as run-record

-- ---- calls by their parts

-- a call for bytes: its run; its lists at the call and, primed, at the return; and its answer
pub record ForBytes : Type 0 where
  pub run : Run
  pub lent : Bool
  pub out : List ℕ
  pub counts : List ℕ
  pub out' : List ℕ
  pub counts' : List ℕ
  pub answer : Converted

-- a call for 32-bit samples
pub record ForSamples : Type 0 where
  pub run : Run
  pub out : List ℤ
  pub out' : List ℤ
  pub answer : Converted

abbrev pub SaidOfBytes : Limit → Converter → ForBytes → Type 0
SaidOfBytes whose conv c = BytesPromise whose conv c.run c.lent c.out c.counts c.out' c.counts' c.answer

abbrev pub SaidOfSamples : Converter → ForSamples → Type 0
SaidOfSamples conv c = ConvertRunPromise conv c.run c.out c.out' c.answer

-- where a function has them: among its arguments a, its answer r, and what its lists hold at the return, s
abbrev pub of_convert_parts : (κs : Lfts 3) (a : Args parts.signature κs) → Res parts.signature κs → AtExit parts.ended κs → ForBytes
of_convert_parts κs a r s = record {
  run = run a.1.0 a.1.1.0.now a.1.1.1.0.now a.1.1.1.1.0 a.1.1.1.1.1.0.now;
  lent = is_some a.1.1.1.1.1.1.1.0;
  out = a.1.1.1.1.1.1.0.now;
  counts = listed a.1.1.1.1.1.1.1.0;
  out' = s.1.1.1.1.1.1.0.now;
  counts' = left s.1.1.1.1.1.1.1.0;
  answer = r;
}

abbrev pub of_convert_desk_parts : (κs : Lfts 3) (a : Args desk-parts.signature κs) → Res desk-parts.signature κs → AtExit desk-parts.ended κs → ForBytes
of_convert_desk_parts κs a r s = record {
  run = run a.1.0 a.1.1.0.now a.1.1.1.0.now a.1.1.1.1.0 a.1.1.1.1.1.0.now;
  lent = is_some a.1.1.1.1.1.1.1.0;
  out = a.1.1.1.1.1.1.0.now;
  counts = listed a.1.1.1.1.1.1.1.0;
  out' = s.1.1.1.1.1.1.0.now;
  counts' = left s.1.1.1.1.1.1.1.0;
  answer = r;
}

abbrev pub of_convert_run_parts : (κs : Lfts 2) (a : Args run-parts.signature κs) → Res run-parts.signature κs → AtExit run-parts.ended κs → ForSamples
of_convert_run_parts κs a r s = record {
  run = run a.1.0 a.1.1.0.now a.1.1.1.0.now a.1.1.1.1.0 a.1.1.1.1.1.0.now;
  out = a.1.1.1.1.1.1.0.now;
  out' = s.1.1.1.1.1.1.0.now;
  answer = r;
}

-- over the run record
abbrev pub of_convert : (κs : Lfts 3) (a : Args record'.signature κs) → Res record'.signature κs → AtExit record'.ended κs → ForBytes
of_convert κs a r s = record {
  run = run_of a.1.0;
  lent = is_some a.1.1.1.0;
  out = a.1.1.0.now;
  counts = listed a.1.1.1.0;
  out' = s.1.1.0.now;
  counts' = left s.1.1.1.0;
  answer = r;
}

abbrev pub of_convert_desk : (κs : Lfts 3) (a : Args desk-record.signature κs) → Res desk-record.signature κs → AtExit desk-record.ended κs → ForBytes
of_convert_desk κs a r s = record {
  run = run_of a.1.0;
  lent = is_some a.1.1.1.0;
  out = a.1.1.0.now;
  counts = listed a.1.1.1.0;
  out' = s.1.1.0.now;
  counts' = left s.1.1.1.0;
  answer = r;
}

abbrev pub of_convert_run : (κs : Lfts 2) (a : Args run-record.signature κs) → Res run-record.signature κs → AtExit run-record.ended κs → ForSamples
of_convert_run κs a r s = record { run = run_of a.1.0; out = a.1.1.0.now; out' = s.1.1.0.now; answer = r }

-- ---- that is what their contracts ensure
module _ {M : Type 1} {𝓤 : Ura M} (𝓛 : Logic 𝓤) (mem : Memory → SProp 𝓤) (runs : Routine → Fun 𝓤) where
  pub convert_ensures : (κs : Lfts 3) (a : Args parts.signature κs) (r : Res parts.signature κs)
      → (parts.spec 𝓛 mem runs κs a).ensures tt r ≡ exits 𝓛 parts.signature (parts.ended).kept κs a (λ s. fact 𝓤 (SaidOfBytes rack a.0 (of_convert_parts κs a r s)))
  convert_ensures κs a r = refl

  pub convert_desk_ensures : (κs : Lfts 3) (a : Args desk-parts.signature κs) (r : Res desk-parts.signature κs)
      → (desk-parts.spec 𝓛 mem runs κs a).ensures tt r ≡ exits 𝓛 desk-parts.signature (desk-parts.ended).kept κs a (λ s. fact 𝓤 (SaidOfBytes desk a.0 (of_convert_desk_parts κs a r s)))
  convert_desk_ensures κs a r = refl

  pub convert_run_ensures : (κs : Lfts 2) (a : Args run-parts.signature κs) (r : Res run-parts.signature κs)
      → (run-parts.spec 𝓛 mem runs κs a).ensures tt r ≡ exits 𝓛 run-parts.signature (run-parts.ended).kept κs a (λ s. fact 𝓤 (SaidOfSamples a.0 (of_convert_run_parts κs a r s)))
  convert_run_ensures κs a r = refl

  pub record_ensures : (κs : Lfts 3) (a : Args record'.signature κs) (r : Res record'.signature κs)
      → (record'.spec 𝓛 mem runs κs a).ensures tt r ≡ exits 𝓛 record'.signature (record'.ended).kept κs a (λ s. fact 𝓤 (SaidOfBytes rack a.0 (of_convert κs a r s)))
  record_ensures κs a r = refl

  pub record_desk_ensures : (κs : Lfts 3) (a : Args desk-record.signature κs) (r : Res desk-record.signature κs)
      → (desk-record.spec 𝓛 mem runs κs a).ensures tt r ≡ exits 𝓛 desk-record.signature (desk-record.ended).kept κs a (λ s. fact 𝓤 (SaidOfBytes desk a.0 (of_convert_desk κs a r s)))
  record_desk_ensures κs a r = refl

  pub record_run_ensures : (κs : Lfts 2) (a : Args run-record.signature κs) (r : Res run-record.signature κs)
      → (run-record.spec 𝓛 mem runs κs a).ensures tt r ≡ exits 𝓛 run-record.signature (run-record.ended).kept κs a (λ s. fact 𝓤 (SaidOfSamples a.0 (of_convert_run κs a r s)))
  record_run_ensures κs a r = refl

-- ---- demand 3 of the functions

-- a call of one of the six functions, and what its contract ensures of it
pub data FunctionCall : Converter → Type 0 where
  by_convert : (κs : Lfts 3) (a : Args record'.signature κs) (r : Res record'.signature κs) (s : AtExit record'.ended κs) → SaidOfBytes rack a.0 (of_convert κs a r s) → FunctionCall a.0
  by_convert_desk : (κs : Lfts 3) (a : Args desk-record.signature κs) (r : Res desk-record.signature κs) (s : AtExit desk-record.ended κs)
      → SaidOfBytes desk a.0 (of_convert_desk κs a r s) → FunctionCall a.0
  by_convert_run : (κs : Lfts 2) (a : Args run-record.signature κs) (r : Res run-record.signature κs) (s : AtExit run-record.ended κs) → SaidOfSamples a.0 (of_convert_run κs a r s) → FunctionCall a.0
  by_convert_parts : (κs : Lfts 3) (a : Args parts.signature κs) (r : Res parts.signature κs) (s : AtExit parts.ended κs) → SaidOfBytes rack a.0 (of_convert_parts κs a r s) → FunctionCall a.0
  by_convert_desk_parts : (κs : Lfts 3) (a : Args desk-parts.signature κs) (r : Res desk-parts.signature κs) (s : AtExit desk-parts.ended κs)
      → SaidOfBytes desk a.0 (of_convert_desk_parts κs a r s) → FunctionCall a.0
  by_convert_run_parts : (κs : Lfts 2) (a : Args run-parts.signature κs) (r : Res run-parts.signature κs) (s : AtExit run-parts.ended κs)
      → SaidOfSamples a.0 (of_convert_run_parts κs a r s) → FunctionCall a.0

-- the join theorem's calls
abbrev pub bytes_call : (whose : Limit) (conv : Converter) (c : ForBytes) → SaidOfBytes whose conv c → Call conv
bytes_call whose conv c p =
    convert (record { whose = whose; run = c.run; lent = c.lent; out = c.out; counts = c.counts; out' = c.out'; counts' = c.counts'; answer = c.answer; promise = p })

abbrev pub samples_call : (conv : Converter) (c : ForSamples) → SaidOfSamples conv c → Call conv
samples_call conv c p = convert_run (record { run = c.run; out = c.out; out' = c.out'; answer = c.answer; promise = p })

pub call_of : {conv : Converter} → FunctionCall conv → Call conv
call_of (by_convert κs a r s p) = bytes_call rack a.0 (of_convert κs a r s) p
call_of (by_convert_desk κs a r s p) = bytes_call desk a.0 (of_convert_desk κs a r s) p
call_of (by_convert_run κs a r s p) = samples_call a.0 (of_convert_run κs a r s) p
call_of (by_convert_parts κs a r s p) = bytes_call rack a.0 (of_convert_parts κs a r s) p
call_of (by_convert_desk_parts κs a r s p) = bytes_call desk a.0 (of_convert_desk_parts κs a r s) p
call_of (by_convert_run_parts κs a r s p) = samples_call a.0 (of_convert_run_parts κs a r s) p

-- calls of the functions, in any mixture, whose pieces join to a run give together what the definition gives for the
-- whole run
pub functions_join : (conv : Converter) (r : Run) (calls : List (FunctionCall conv)) → AcceptedConverter conv → AcceptedRun conv r → JoinTo r (map call_of calls) → GiveWholeRun r (map call_of calls)
functions_join conv r calls opens fits joins = cut_runs_join conv r (map call_of calls) opens fits joins
