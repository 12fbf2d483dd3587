-- `digit`: a digit's byte is 48 more.
use Rattle.std.proofs.Common.{arith}
use Rattle.text.proofs.Digits.{digit, no_digit}
use Rattle.text.proofs.reading.digit.Goals as goal

pub returns-in-48-to-57 : goal.returns-in-48-to-57
returns-in-48-to-57 c = digit _ _ (omega arith) (omega arith)

pub returns-in_default : goal.returns-in_default
returns-in_default c = no_digit _ (λ d l e. omega arith)

pub returns-in_default-2 : goal.returns-in_default-2
returns-in_default-2 c = no_digit _ (λ d l e. omega arith)
