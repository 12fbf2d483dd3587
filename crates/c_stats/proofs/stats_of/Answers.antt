use Rattle.std.proofs.Common.{rules, ap, ◌≡◌, true, Some, List}
use Rattle.numbers.proofs.Arrays.{made_array}
use Rattle.reference.specs.Statistics.{no_samples}
use Rattle.reference.specs.declared.ChannelStats.{ChannelStats}
use Rattle.codes.specs.inner.Codes.{if_known}
use Rattle.c_stats.specs.Stats.{known_stats, held_stats}
use Rattle.c_stats.proofs.stats_of.Goals as goal

pub returns : goal.returns
unfolding if_known held_stats
returns c =
    let e : known_stats c.args.block.now ≡ true = search rules in
    rw e (ap (λ (l : List ChannelStats). Some (record { channels = l })) (made_array _ _ _ _ 6 no_samples c.from_fn.ensures.items (λ k y q l r. (search rules, search rules))))
