-- Statistics written as C's numbers and read again.
use Rattle.std.proofs.Common.{◌≡◌, refl, sym, ap, ◌∙◌, zero-add, arith, Option, Some, None, IfSome, FitsSigned, unwrap_or, cond, true, ℕ, zero, suc, ◌+◌, ◌^◌}
use Rattle.std.proofs.Common.{◌<◌, ℤ, pos, negsuc, nat_abs}
use Rattle.std.specs.Int.{w64, cast_unsigned, cast_signed}
use Rattle.std.proofs.lemmas.Int.{to_z-of_z}
use Rattle.numbers.specs.Lists.{tabulate}
use Rattle.numbers.proofs.Lists.{tabulate_same, is_tabulate, length_tabulate}
use Rattle.reference.specs.Output.{channel_stats, stats}
use Rattle.reference.specs.Statistics.{no_samples, channel_of}
use Rattle.reference.specs.declared.ChannelStats.{ChannelStats}
use Rattle.reference.specs.declared.ConvertStats.{ConvertStats}
use Rattle.reference.specs.declared.Extremes.{Extremes}
use Rattle.codes.specs.Codes.{flag, known_flag}
use Rattle.codes.proofs.Calls.{both_hold}
use Rattle.sheet_laws.proofs.Fitting.{SmallExtremes}
use Rattle.sheet_laws.proofs.Runs.{stats_small}
use Rattle.c_stats.specs.Stats.{no_ends, mark, held_channel, held_stats, known_stats, stat_numbers}
use Rattle.c_laws.specs.Stats.{StatsHeld, RunsAreHeld, ComeBack, JoinsThem}

abbrev Ends : Option Extremes → Type 0
Ends e = IfSome e (λ x. FitsSigned w64 x.lowest × FitsSigned w64 x.highest)

-- ---- a channel

abbrev read : ℕ → Option Extremes → ChannelStats
read n e =
    let ends : Extremes = record { lowest = cast_signed w64 (cast_unsigned w64 (unwrap_or e no_ends).lowest); highest = cast_signed w64 (cast_unsigned w64 (unwrap_or e no_ends).highest) } in
    record { clipped = n; extremes = cond (flag (mark e)) None (Some ends) }

channel_back : (n : ℕ) (e : Option Extremes) → Ends e → read n e ≡ record { clipped = n; extremes = e }
channel_back n None f = refl
channel_back n (Some x) f = rw (to_z-of_z w64 x.lowest f.0, to_z-of_z w64 x.highest f.1) refl

marked : (e : Option Extremes) → known_flag (mark e) ≡ true
marked None = refl
marked (Some x) = refl

-- ---- all six

module _ (s : ConvertStats) (h : StatsHeld s) where
  held_at : (c : ℕ) → c < 6 → held_channel (stat_numbers s) c ≡ channel_of s c
  unfolding held_channel stat_numbers tabulate
  held_at zero m = channel_back (channel_of s 0).clipped (channel_of s 0).extremes (h.ends 0 m)
  held_at (suc zero) m = channel_back (channel_of s 1).clipped (channel_of s 1).extremes (h.ends 1 m)
  held_at (suc (suc zero)) m = channel_back (channel_of s 2).clipped (channel_of s 2).extremes (h.ends 2 m)
  held_at (suc (suc (suc zero))) m = channel_back (channel_of s 3).clipped (channel_of s 3).extremes (h.ends 3 m)
  held_at (suc (suc (suc (suc zero)))) m = channel_back (channel_of s 4).clipped (channel_of s 4).extremes (h.ends 4 m)
  held_at (suc (suc (suc (suc (suc zero))))) m = channel_back (channel_of s 5).clipped (channel_of s 5).extremes (h.ends 5 m)
  held_at (suc (suc (suc (suc (suc (suc c)))))) m = absurd (omega arith)

  known : known_stats (stat_numbers s) ≡ true
  unfolding stat_numbers tabulate
  known =
      rw (
        marked (channel_of s 0).extremes,
        marked (channel_of s 1).extremes,
        marked (channel_of s 2).extremes,
        marked (channel_of s 3).extremes,
        marked (channel_of s 4).extremes,
        marked (channel_of s 5).extremes,
      ) refl

  back : held_stats (stat_numbers s) ≡ s
  unfolding held_stats channel_of
  back =
      ap (λ l. record { channels = l })
      (tabulate_same (held_channel (stat_numbers s)) (channel_of s) 0 0 6 (λ k l. held_at (0 + k) (omega arith))
      ∙ sym (is_tabulate (channel_of s) 0 6 no_samples s.channels h.six (λ i m. ap (channel_of s) (sym (zero-add i)))))

pub come_back : ComeBack
come_back s h = (known s h, back s h)

pub joins_them : JoinsThem
joins_them s t h k a' answer call =
    let d = call.done (both_hold _ _ (known s h) (known t k)) in
    (d.0, rw (back s h, back t k) at d.1)

-- ---- a run's

small_fits : (z : ℤ) → nat_abs z < 10 ^ 11 → FitsSigned w64 z
small_fits (pos n) h = record { sfits = omega (arith, h) }
small_fits (negsuc n) h = record { sfits = omega (arith, h) }

small_ends : (e : Option Extremes) → SmallExtremes e → Ends e
small_ends None h = tt
small_ends (Some x) h = (small_fits x.lowest h.0, small_fits x.highest h.1)

pub runs_are_held : RunsAreHeld
unfolding stats
runs_are_held conv r held ok fits =
    record {
      six = length_tabulate (channel_stats conv r) 0 6;
      ends = λ c l. small_ends (channel_of (stats conv r) c).extremes ((stats_small conv r held ok fits).extremes c l);
    }
