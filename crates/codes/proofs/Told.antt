-- What an answer tells, by the places that its call tries.
use Rattle.std.proofs.Common.{◌≡◌, sym, ap, subst, ◌∙◌, Result, Ok, Err, IfOk, List, ℕ}
use Rattle.reference.specs.Refusals.{Decision, accepted, decision, is_accepted, Place, decide}
use Rattle.reference.specs.Promises.{by_decision}
use Rattle.reference.specs.declared.PcmError.{PcmError}
use Rattle.reference.proofs.Refusals.{error_refuses}
use Rattle.reference.proofs.Promises.{exit_accepted, exit_refused}
use Rattle.codes.specs.Told.{if_ok, ToldData, ToldWritten}

-- what is written where the places accept a call
pub accepted_only : {A B : Type 0} (places : List Place) (f : A → B) (made : Result A PcmError) (a : A) (old : B) → decision made ≡ decide places → IfOk made (λ x. x ≡ a)
    → if_ok f made old ≡ by_decision (decide places) (f a) old
accepted_only places f (Ok x) a old d e = ap f e ∙ sym (exit_accepted (decide places) (f a) old (sym d))
accepted_only places f (Err e) a old d h = sym (exit_refused (decide places) (f a) old (ap is_accepted (sym d) ∙ error_refuses e))

-- so where an accepted call's answer is known
pub accepted_as : {A B : Type 0} (d : Decision) (f : A → B) (made : Result A PcmError) (a : A) (old : B) → decision made ≡ d → (d ≡ accepted → made ≡ Ok a)
    → if_ok f made old ≡ by_decision d (f a) old
accepted_as d f (Ok x) a old e h = ap (λ m. if_ok f m old) (h (sym e)) ∙ sym (exit_accepted d (f a) old (sym e))
accepted_as d f (Err x) a old e h = sym (exit_refused d (f a) old (ap is_accepted (sym e) ∙ error_refuses x))

module _ {d : Decision} {A : Type 0} (made : Result A PcmError) (e : decision made ≡ d) {whole list list' data' : List ℕ} {answer : ℕ} (t : ToldData (decision made) answer data') where
  pub told_written : list' ≡ by_decision d whole list → ToldWritten d whole list list' data' answer
  told_written w = record { told = subst (λ x. ToldData x answer data') e t; written = w }

-- so where the answer's own value is written
pub told_made : {A : Type 0} (places : List Place) (f : A → List ℕ) (made : Result A PcmError) (a : A) {list list' data' : List ℕ} {answer : ℕ} → decision made ≡ decide places
    → IfOk made (λ x. x ≡ a) → ToldData (decision made) answer data' → list' ≡ if_ok f made list → ToldWritten (decide places) (f a) list list' data' answer
told_made places f made a {list} e h t w = told_written made e t (w ∙ accepted_only places f made a list e h)
