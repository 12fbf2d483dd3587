-- A number read, and a decision told, as the code has them.
use Rattle.std.specs.Prelude.{Bool, cond, Option, Some, None}
use Rattle.reference.specs.Refusals.{Decision, refusal_number}
use Rattle.codes.specs.declared.Answer.{Answer}
use Rattle.codes.specs.Codes.{data_numbers, carried_decibels}

-- ---- arguments: each number is read as something, and is known if it is the number of what it is read as

-- what a known number stands for; nothing for an unknown one
unfoldable pub if_known : {A : Type 0} → Bool → A → Option A
if_known b a = cond b (Some a) None

-- ---- what is told of a decision

-- all that is told, as the code hands it on
abbrev pub report : Decision → Answer
report d = record { number = refusal_number d; «data» = data_numbers d; decibels = carried_decibels d }
