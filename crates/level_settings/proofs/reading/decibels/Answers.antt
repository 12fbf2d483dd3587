-- `decibels` without a minus sign.
use Rattle.std.proofs.Common.{◌≡◌, ◌<◌, arith, w32}
use mir.Facts.{to_z_pos}
use Rattle.text.proofs.Options.{no_some, some_is}
use Rattle.level_settings.proofs.Gains.{no_plus, plus}
use Rattle.level_settings.proofs.Words.{no_sign}
use Rattle.level_settings.proofs.reading.decibels.Goals as goal

pub returns-in_err-n : goal.returns-in_err-n
returns-in_err-n c = rw c.from_residual.ensures (no_plus (no_sign c.as_slice.ensures c.in_default.ensures.cases) c.in_err-n.ensures (λ m e. no_some e))

pub returns-then-n-gt-MOST_DECIBELS : goal.returns-then-n-gt-MOST_DECIBELS
returns-then-n-gt-MOST_DECIBELS c =
    no_plus (no_sign c.as_slice.ensures c.in_default.ensures.cases) c.in_ok-n.ensures (λ m e l. let s : c.in_ok-n.n ≡ m = some_is e in omega arith)

pub returns : goal.returns
returns c =
    let h : c.in_ok-n.n < 2147483648 = omega arith in
    rw (to_z_pos w32 h) (plus c.in_ok-n.n (no_sign c.as_slice.ensures c.in_default.ensures.cases) c.in_ok-n.ensures (omega arith))
