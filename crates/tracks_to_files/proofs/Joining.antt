-- Statistics, part by part.
use Rattle.std.proofs.Common.{◌≡◌, refl, sym, ap, ap₂, ◌∙◌, List, [], ◌∷◌, ◌++◌, map}
use mathlib.Core.List.{flat_map}
use Rattle.numbers.specs.Lists.{tabulate}
use Rattle.reference.specs.Statistics.{no_stats, no_samples, add_clips, channel_of, joined_channel, joined_extremes, joined_stats, all_joined}
use Rattle.reference.specs.declared.ConvertStats.{ConvertStats}
use Rattle.stretches.specs.Joining.{joined_on}
use Rattle.stretches.proofs.Ends.{either_end}
use Rattle.tracks_to_files.specs.PlanToFiles.{parts_joined}

none_twice : joined_stats no_stats no_stats ≡ no_stats
unfolding joined_stats no_stats tabulate add_clips channel_of joined_channel joined_extremes no_samples
none_twice = refl

none_before : (l : List ConvertStats) → joined_stats no_stats (all_joined l) ≡ all_joined l
unfolding all_joined joined_on
none_before l = sym (either_end (no_stats ∷ l)) ∙ ap (λ (s : ConvertStats). joined_on s l) none_twice ∙ either_end l

on_both : (s : ConvertStats) (l m : List ConvertStats) → joined_on s (l ++ m) ≡ joined_on (joined_on s l) m
unfolding joined_on
on_both s [] m = refl
on_both s (x ∷ l) m = on_both (joined_stats s x) l m

all_of_both : (l m : List ConvertStats) → all_joined (l ++ m) ≡ joined_stats (all_joined l) (all_joined m)
unfolding all_joined joined_on
all_of_both l m =
    sym (either_end (l ++ m)) ∙ on_both no_stats l m ∙ ap (λ (s : ConvertStats). joined_on s m) (either_end l ∙ sym (none_before l)) ∙ either_end (all_joined l ∷ m)

by_parts : (ls : List (List ConvertStats)) → all_joined (map all_joined ls) ≡ all_joined (flat_map (λ l. l) ls)
unfolding all_joined flat_map
by_parts [] = refl
by_parts (l ∷ ls) = ap (joined_stats (all_joined l)) (by_parts ls) ∙ sym (all_of_both l (flat_map (λ l. l) ls))

each_part : (ls : List (List ConvertStats)) → map (joined_on no_stats) ls ≡ map all_joined ls
each_part [] = refl
each_part (l ∷ ls) = ap₂ (λ (s : ConvertStats) (r : List ConvertStats). s ∷ r) (either_end l) (each_part ls)

pub joined_by_parts : (ls : List (List ConvertStats)) → parts_joined ls ≡ all_joined (flat_map (λ l. l) ls)
joined_by_parts ls = either_end (map (joined_on no_stats) ls) ∙ ap all_joined (each_part ls) ∙ by_parts ls
