-- Samples that are passed over.
use Rattle.std.specs.Prelude.{◌≡◌, ℕ, ◌-◌, ◌≤◌, ◌<◌, ℤ}
use Rattle.numbers.specs.Lists.{tabulate}
use Rattle.overs.specs.Overs.{Progress, none, overs_from, after}

-- samples a, …, e - 1 passed over: none or more, which have no overs and leave nothing in progress
pub record Passed (s : ℕ → ℤ) (p : Progress) (a e : ℕ) : Type 0 where
  pub on : a ≤ e
  pub no_overs : overs_from p (tabulate s a (e - a)) ≡ 0
  pub nothing : a < e → after p (tabulate s a (e - a)) ≡ none
