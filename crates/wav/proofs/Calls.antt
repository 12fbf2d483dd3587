-- What `ensures` says of a call of `convert_parts`, and of `convert` over the run record, is, word for word, the
-- promise that the join theorem of files goes by.
use Rattle.std.proofs.Common.{◌≡◌, refl, is_some}
use seplogic.Ra.Ura.{Ura}
use base.Logic.{SProp}
use prog.Memory.{Memory}
use prog.Routine.{Routine}
use types.Logic.{Logic}
use contract.Lifetimes.{Lfts}
use contract.Monad.{fact, Fun}
use borrow.Fn.Kinds.{Dens, res_t, ended_of}
use denote.Triple.Entry.{Args, Res}
use denote.Triple.Clauses.{AtExit}
use denote.Triple.Spec.{exits}
use Rattle.reference.specs.Frames.{run, run_of}
use Rattle.run_record.specs.Calls.{listed, left}
use Rattle.wav.specs.Promises.{WavPromise}
use Rattle.wav.specs.Joined.{WavCall}
use Rattle.wav.proofs.convert_parts.Kinds as kinds
use Rattle.wav.proofs.convert_parts.Reads as reads
use Rattle.wav.specs.contracts.record.convert as of-record

-- its arguments a, its answer r, the lent lists s at exit
module _ (κs : Lfts 3) (a : Dens κs kinds.ps) (r : (res_t kinds.r κs).Denot) (s : AtExit (ended_of 3 kinds.ps kinds.r) κs) where
  pub wav_ensures : reads.Learnt κs a r s ≡
      WavPromise a.0 (run a.1.0 a.1.1.0.now a.1.1.1.0.now a.1.1.1.1.0 a.1.1.1.1.1.0.now) (is_some a.1.1.1.1.1.1.1.0)
      a.1.1.1.1.1.1.0.now (listed a.1.1.1.1.1.1.1.0) s.1.1.1.1.1.1.0.now (left s.1.1.1.1.1.1.1.0) r
  wav_ensures = refl

  pub wav_call : reads.Learnt κs a r s → WavCall a.0
  wav_call p = record { run = _; lent = _; out = _; counts = _; out' = _; counts' = _; answer = r; promise = p }

-- over the run record
abbrev pub record_said : (κs : Lfts 3) (a : Args of-record.signature κs) → Res of-record.signature κs → AtExit of-record.ended κs → Type 0
record_said κs a r s = WavPromise a.0 (run_of a.1.0) (is_some a.1.1.1.0) a.1.1.0.now (listed a.1.1.1.0) s.1.1.0.now (left s.1.1.1.0) r

pub record_ensures : {M : Type 1} {𝓤 : Ura M} (𝓛 : Logic 𝓤) (mem : Memory → SProp 𝓤) (runs : Routine → Fun 𝓤) (κs : Lfts 3) (a : Args of-record.signature κs) (r : Res of-record.signature κs)
    → (of-record.spec 𝓛 mem runs κs a).ensures tt r ≡ exits 𝓛 of-record.signature (of-record.ended).kept κs a (λ s. fact 𝓤 (record_said κs a r s))
record_ensures 𝓛 mem runs κs a r = refl

pub record_call : (κs : Lfts 3) (a : Args of-record.signature κs) (r : Res of-record.signature κs) (s : AtExit of-record.ended κs) → record_said κs a r s → WavCall a.0
record_call κs a r s p = record { run = _; lent = _; out = _; counts = _; out' = _; counts' = _; answer = r; promise = p }
