use Rattle.std.proofs.Common.{rules, ap, ◌≡◌, true, Some, List}
use Rattle.numbers.proofs.Arrays.{made_array}
use Rattle.overs.specs.Overs.{Progress, none}
use Rattle.codes.specs.inner.Codes.{if_known}
use Rattle.c_levels.specs.Standings.{known_standings, held_standings}
use Rattle.c_levels.proofs.states_of.Goals as goal

pub returns : goal.returns
unfolding if_known held_standings
returns c =
    let e : known_standings c.args.standings.now ≡ true = search rules in
    rw e (ap (λ (l : List Progress). Some l) (made_array _ _ _ _ 6 none c.from_fn.ensures.items (λ k y q l r. (search rules, search rules))))
