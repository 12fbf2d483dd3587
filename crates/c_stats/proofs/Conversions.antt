-- What a conversion tells, by its answer.
use Rattle.std.proofs.Common.{◌≡◌, sym, ap, subst, ◌∙◌, true≢false, Ok, Err, List, ℕ}
use Rattle.reference.specs.Frames.{Run}
use Rattle.reference.specs.Output.{stats}
use Rattle.reference.specs.Statistics.{no_stats}
use Rattle.reference.specs.Refusals.{Decision, Place, accepted, decide, decision, is_accepted}
use Rattle.reference.specs.Promises.{by_decision, Converted, stats_told, Answered}
use Rattle.reference.specs.declared.Converter.{Converter}
use Rattle.reference.specs.declared.ConvertStats.{ConvertStats}
use Rattle.reference.proofs.Promises.{exit_accepted}
use Rattle.reference.proofs.Refusals.{error_refuses}
use Rattle.codes.specs.Told.{if_ok, ToldWhole}
use Rattle.codes.proofs.Told.{accepted_as}
use Rattle.c_stats.specs.Stats.{stat_numbers}
use Rattle.c_stats.specs.Conversions.{Results, ConversionDone}

made_as : (d : Decision) (s : ConvertStats) (m : Converted) → decision m ≡ d → stats_told m ≡ by_decision d s no_stats → d ≡ accepted → m ≡ Ok s
unfolding stats_told is_accepted
made_as d s (Ok t) e h a = ap Ok (h ∙ exit_accepted d s no_stats a)
made_as d s (Err x) e h a = absurd (true≢false (sym (ap is_accepted (e ∙ a)) ∙ error_refuses x))

pub conversion_done : (places : List Place) (conv : Converter) (r : Run) (made : Converted) → Answered places conv r made → (old new : Results) {answer : ℕ}
    → ToldWhole (decision made) answer new.«data» new.decibels → new.stats ≡ if_ok stat_numbers made old.stats → ConversionDone (decide places) conv r old new answer
conversion_done places conv r made p old new {answer} t w =
    record {
      told = subst (λ d. ToldWhole d answer new.«data» new.decibels) p.decided t;
      counted = w ∙ accepted_as (decide places) stat_numbers made (stats conv r) old.stats p.decided (made_as (decide places) (stats conv r) made p.decided p.counted);
    }
