-- The tests of a beginning, as the code puts them together.
use Rattle.std.proofs.Common.{◌≡◌, refl, List, Bool, true, false, ◌&&◌, ◌||◌, ℕ, ◌+◌, ◌%◌, eqb, ltb, leb, Result, Ok, Err}
use Rattle.std.specs.Result.{is_ok}
use Rattle.reference.specs.Refusals.{is_accepted, decision}
use Rattle.reference.specs.declared.PcmError.{PcmError}
use Rattle.reference.proofs.Refusals.{error_refuses}
use Rattle.text.specs.Bytes.{bytes}
use Rattle.dsf.specs.Dsf.{fixed, layout, frequency, all, fits, stated_length, sample_count, needed}
use Rattle.dsf_upload.specs.Deciding.{head_hopeful}

regroup : (a b r : Bool) → ((a && (b && true)) && r) ≡ (a && (b && r))
regroup true true r = refl
regroup true false r = refl
regroup false b r = refl

module _ (file : List ℕ) where
  pub hopeful_is : (n : ℕ) → all (fits file) layout ≡ true
      → head_hopeful file n
      ≡ (fits file frequency
      && (fits file (fixed 84 (bytes 8 (12 + needed file))) && (eqb (sample_count file % 8) 0 && (ltb n 20 || leb (92 + needed file) (stated_length file) && leb n (stated_length file)))))
  unfolding head_hopeful all
  hopeful_is n l = rw l (regroup (fits file frequency) (fits file (fixed 84 (bytes 8 (12 + needed file)))) _)

  pub not_laid_out : (n : ℕ) → all (fits file) layout ≡ false → head_hopeful file n ≡ false
  unfolding head_hopeful
  not_laid_out n e = rw e

-- an answer that is no refusal
pub ok_accepted : {A : Type 0} (r : Result A PcmError) → is_accepted (decision r) ≡ is_ok r
unfolding is_accepted
ok_accepted (Ok x) = refl
ok_accepted (Err e) = error_refuses e
