-- `more`: a number's digits before the last are a number's.
use Rattle.std.proofs.Common.{◌≡◌, ◌<◌, arith, refl, sym, true≢false}
use Rattle.text.proofs.Digits as digits
use Rattle.text.proofs.Options.{no_some, some_is}
use Rattle.text.proofs.Digits.{digit_is}
use Rattle.text.proofs.reading.more.Goals as goal

pub returns-in_err-digit : goal.returns-in_err-digit
returns-in_err-digit c = λ t h r. rw c.from_residual.ensures (digits.no_more h r c.in_err-digit.ensures (λ m d p q. no_some q))

pub overflow_add-result : goal.overflow_add-result
overflow_add-result c =
    let d = digit_is c.in_ok-digit.ensures in
    let n = c.if-goes_on.ensures.0 refl in
    record { fits = omega arith }

pub returns-then-goes_on : goal.returns-then-goes_on
returns-then-goes_on c =
    λ t h r. digits.more h r c.in_ok-digit.ensures c.args.n c.in_ok-digit.digit refl refl (c.if-goes_on.ensures.0 refl).0 (c.if-goes_on.ensures.0 refl).1

pub returns-else-goes_on : goal.returns-else-goes_on
returns-else-goes_on c =
    λ t h r. digits.no_more h r c.in_ok-digit.ensures
    (λ m d p q l k.
    let e : c.args.n ≡ m = some_is p in
    let low : 0 < c.args.n = omega arith in
    let high : c.args.n < 100 = omega arith in
    absurd (true≢false (sym (c.if-goes_on.ensures.1 (low, high)))))
