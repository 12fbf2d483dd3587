-- What a call tells of its decision, in lists lent for it. A primed list is one at exit.
use Rattle.std.specs.Prelude.{◌≡◌, Result, Ok, Err, List, [], ◌∷◌, ℕ, Float}
use Rattle.reference.specs.Refusals.{Decision, refusal_number}
use Rattle.reference.specs.Promises.{by_decision}
use Rattle.reference.specs.declared.PcmError.{PcmError}
use Rattle.codes.specs.Codes.{data_numbers, carried_decibels}

-- its number is answered, its decibels are written
pub record ToldDecibels (d : Decision) (answer : ℕ) (decibels' : List Float) : Type 0 where
  pub number : answer ≡ refusal_number d
  pub decibels : decibels' ≡ carried_decibels d ∷ []

-- its number is answered, its data are written
pub record ToldData (d : Decision) (answer : ℕ) (data' : List ℕ) : Type 0 where
  pub number : answer ≡ refusal_number d
  pub numbers : data' ≡ data_numbers d

-- all three
pub record ToldWhole (d : Decision) (answer : ℕ) (data' : List ℕ) (decibels' : List Float) : Type 0 where
  pub told : ToldData d answer data'
  pub decibels : decibels' ≡ carried_decibels d ∷ []

-- a decision is told with its data, and a list is written where it accepts
pub record ToldWritten (d : Decision) (whole list list' data' : List ℕ) (answer : ℕ) : Type 0 where
  pub told : ToldData d answer data'
  pub written : list' ≡ by_decision d whole list

-- what an answer gives where it is one, else what was there
abbrev pub if_ok : {A B : Type 0} → (A → B) → Result A PcmError → B → B
if_ok f (Ok a) old = f a
if_ok f (Err e) old = old
