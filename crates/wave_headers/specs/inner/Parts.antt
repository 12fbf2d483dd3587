-- What putting a header asks. No promise speaks of it.
use Rattle.std.specs.Prelude.{◌≡◌, true, ℕ, ◌≤◌}
use Rattle.wave_headers.specs.Choice.{holds}
use Rattle.wave_headers.specs.declared.HeaderKind.{HeaderKind}

pub record HeaderArgs (kind : HeaderKind) (rate channels n room : ℕ) : Type 0 where
  pub slow : rate ≤ 352800
  pub some : 1 ≤ channels
  pub few : channels ≤ 6
  pub told : holds kind n ≡ true
  pub fits : 104 ≤ room
