-- `below`: the size after a minus sign.
use Rattle.std.proofs.Common.{◌≡◌, arith, ⊎_elim}
use Rattle.text.proofs.Options.{no_some, some_is}
use Rattle.level_settings.proofs.Gains.{no_minus, minus}
use Rattle.level_settings.proofs.Negated.{negated_is}
use Rattle.level_settings.proofs.reading.below.Goals as goal

pub returns-in_err-n : goal.returns-in_err-n
returns-in_err-n c = rw c.from_residual.ensures (no_minus c.in_err-n.ensures (λ m e. no_some e))

pub returns-then-n-eq0 : goal.returns-then-n-eq0
returns-then-n-eq0 c =
    no_minus c.in_ok-n.ensures
    (λ m e l h. let s : c.in_ok-n.n ≡ m = some_is e in ⊎_elim (λ z. omega arith) (λ z. omega arith) c.then-n-eq0.either)

pub returns : goal.returns
returns c = rw (negated_is c.in_ok-n.n (omega arith)) (minus c.in_ok-n.n c.in_ok-n.ensures (omega arith) (omega arith))
