-- `first_line` field by field.
use Rattle.std.proofs.Common.{◌≡◌, rules, w32, to_z, of_z}
use Rattle.level_settings.proofs.Fields.{no_first, no_rate, no_second, no_cutoff, no_third, no_channels, no_gain, taken}
use Rattle.level_settings.proofs.first_line.Goals as goal

pub returns-in_err-word : goal.returns-in_err-word
returns-in_err-word c = rw c.from_residual.ensures (no_first c.in_err-word.ensures)

pub returns-in_err-rate : goal.returns-in_err-rate
returns-in_err-rate c = rw c.from_residual-in_err-rate.ensures (no_rate _ _ c.in_ok-word.ensures c.in_err-rate.ensures)

pub returns-in_err-word-2 : goal.returns-in_err-word-2
returns-in_err-word-2 c = rw c.from_residual-in_err-word-2.ensures (no_second _ _ c.in_ok-word.ensures c.in_err-word-2.ensures)

pub returns-in_err-cutoff : goal.returns-in_err-cutoff
returns-in_err-cutoff c = rw c.from_residual-in_err-cutoff.ensures (no_cutoff _ _ c.in_ok-word.ensures _ _ c.in_ok-word-2.ensures c.in_err-cutoff.ensures)

pub returns-in_err-word-3 : goal.returns-in_err-word-3
returns-in_err-word-3 c = rw c.from_residual-in_err-word-3.ensures (no_third _ _ c.in_ok-word.ensures _ _ c.in_ok-word-2.ensures c.in_err-word-3.ensures)

pub returns-in_err-channels : goal.returns-in_err-channels
returns-in_err-channels c =
    rw c.from_residual-in_err-channels.ensures (no_channels _ _ c.in_ok-word.ensures _ _ c.in_ok-word-2.ensures _ _ c.in_ok-word-3.ensures c.in_err-channels.ensures)

pub returns-in_err-db : goal.returns-in_err-db
returns-in_err-db c = rw c.from_residual-in_err-db.ensures (no_gain _ _ c.in_ok-word.ensures _ _ c.in_ok-word-2.ensures _ _ c.in_ok-word-3.ensures c.in_err-db.ensures)

pub returns : goal.returns
returns c =
    let own : to_z w32 (of_z w32 c.in_ok-db.db) ≡ c.in_ok-db.db = search rules in
    rw own (taken _ _ c.in_ok-word.ensures _ _ c.in_ok-word-2.ensures _ _ c.in_ok-word-3.ensures _ c.in_ok-rate.ensures c.in_ok-cutoff.ensures c.in_ok-channels.ensures c.in_ok-db.ensures)
