-- Channels to a batch of frames, batches to the run: what the loops add up.
use Rattle.std.proofs.Common.{◌≡◌, refl, sym, ap, ◌∙◌, ⊎_elim, Bool, true, false, cond, List, ℕ, zero, suc, ◌+◌, ◌*◌, ◌/◌, ◌%◌, ◌^◌, ◌≤◌, ◌<◌, mul-le-mul_right}
use Rattle.std.proofs.Common.{le_refl, add-one, arith, lt-ltb, le-ltb, ltb, ℤ, length, get_or, set, length-set, replicate, get_or-set_same, get_or-set_other}
use Rattle.std.proofs.Common.{None}
use lib.ListN.{get_or-replicate, get_or-eq_default}
use Rattle.numbers.specs.Lists.{total, count, tabulate}
use Rattle.numbers.proofs.Lists.{get_d_any, below_or, is_tabulate}
use Rattle.reference.specs.Frames.{Run}
use Rattle.reference.specs.Statistics.{extremes_of, no_samples, joined_channel}
use Rattle.reference.specs.Output.{samples_per_frame, unclamped, sample, clipped, item, channel_samples, all_samples as run_all}
use Rattle.reference.specs.Output.{samples, channel_clips, channel_extremes, channel_stats, stats, frame_clips}
use Rattle.reference.specs.declared.PcmRate.{PcmRate}
use Rattle.reference.specs.declared.Converter.{Converter}
use Rattle.reference.specs.declared.ConvertStats.{ConvertStats}
use Rattle.reference.specs.declared.ChannelStats.{ChannelStats}
use Rattle.gain.specs.Tallies.{tally}
use Rattle.gain.proofs.Tallies.{tally_none, tally_join, tally_clipped, tally_few}
use Rattle.output.specs.inner.Fills.{Layout, Drawn, Room, parts_of}
use Rattle.output.proofs.Boxes.{no_rows, no_cols, rows, cols, all_samples}
use Rattle.blocks.specs.inner.Blocks.{Made}
use Rattle.blocks.specs.inner.Jobs.{job_run, in_run}
use Rattle.blocks.specs.declared.job.Job.{Job}
use Rattle.blocks.proofs.Sums.{even_frames, made_drawn, run_samples, ready_of}
use Rattle.runs.specs.inner.Loops.{channel_tally, Tallied, Covered, clips_below, Ran}

-- ---- the channels' tallies

module _ (conv : Converter) (r : Run) where
  tally_in : (n c : ℕ) → c < conv.channels → channel_tally conv r n c ≡ tally (unclamped conv r c) 0 n
  unfolding channel_tally
  tally_in n c h = rw (lt-ltb c conv.channels h)

  tally_out : (n c : ℕ) → conv.channels ≤ c → channel_tally conv r n c ≡ no_samples
  unfolding channel_tally
  tally_out n c h = rw (le-ltb c conv.channels h)

  at_start : (c : ℕ) → channel_tally conv r 0 c ≡ no_samples
  at_start c = ⊎_elim (λ h. tally_in 0 c h ∙ tally_none (unclamped conv r c) 0) (λ h. tally_out 0 c h) (below_or c conv.channels)

  tally_is : (n c : ℕ) → channel_samples conv r ≡ n → channel_tally conv r n c ≡ channel_stats conv r c
  unfolding channel_tally channel_stats channel_clips channel_extremes clipped tally no_samples
  tally_is n c e = go (ltb c conv.channels)
    where
      go : (b : Bool) → cond b (tally (unclamped conv r c) 0 n) no_samples
          ≡ record { clipped = cond b (count (clipped conv r c) 0 (channel_samples conv r)) 0; extremes = cond b (extremes_of (unclamped conv r c) 0 (channel_samples conv r)) None }
      go true = rw e refl
      go false = refl

  -- ---- clips

  pub clips_none : (n m : ℕ) → clips_below conv r n m 0 ≡ 0
  unfolding clips_below total
  clips_none n m = refl

  pub clips_more : (n m c : ℕ) {t : ChannelStats} → t ≡ tally (unclamped conv r c) n m → clips_below conv r n m (c + 1) ≡ clips_below conv r n m c + t.clipped
  unfolding clips_below total clipped
  clips_more n m c t =
      let z : 0 + c ≡ c = omega arith in
      let f : ℕ → ℕ = λ j. count (clipped conv r j) n m in
      rw (t, tally_clipped (unclamped conv r c) n m) (ap (total f 0) (add-one c) ∙ ap (λ k. total f 0 c + f k) z)

  pub clips_few : (n m c : ℕ) → clips_below conv r n m c ≤ c * m
  clips_few n m zero = omega (arith, clips_none n m)
  clips_few n m (suc c) =
      let e : suc c ≡ c + 1 = omega arith in
      rw e (omega (arith, clips_few n m c, clips_more n m c refl, tally_few (unclamped conv r c) n m))

-- the channels below c have the tallies of n + m samples, the others those of n
pub record Between (conv : Converter) (r : Run) (n m c : ℕ) (l : List ChannelStats) : Type 0 where
  pub six : length l ≡ 6
  pub done : (j : ℕ) → j < c → get_or l j no_samples ≡ channel_tally conv r (n + m) j
  pub rest : (j : ℕ) → c ≤ j → get_or l j no_samples ≡ channel_tally conv r n j

module _ {conv : Converter} {r : Run} where
  pub tallied_none : Tallied conv r 0 (replicate 6 no_samples)
  tallied_none = record { six = refl; each = λ j. nones j ∙ sym (at_start conv r j) }
    where
      nones : (j : ℕ) → get_or (replicate 6 no_samples) j no_samples ≡ no_samples
      nones j = ⊎_elim (λ q. get_or-replicate 6 j no_samples no_samples q) (λ q. get_or-eq_default (replicate 6 no_samples) no_samples q) (below_or j 6)

  between_none : {n m : ℕ} {l : List ChannelStats} → Tallied conv r n l → Between conv r n m 0 l
  between_none t = record { six = t.six; done = λ j h. absurd (omega arith); rest = λ j h. t.each j }

  module _ {n m c : ℕ} {l : List ChannelStats} {t : ChannelStats} (f : Between conv r n m c l) (h : c < conv.channels) (g : t ≡ tally (unclamped conv r c) n m) where
    sum_so_far : get_or l c no_samples ≡ tally (unclamped conv r c) 0 n
    sum_so_far = f.rest c (le_refl c) ∙ tally_in conv r n c h

    between_more : {both : ChannelStats} (d : ChannelStats) → c < 6 → n + m < 2 ^ 64 → both ≡ joined_channel (get_or l c d) t → Between conv r n m (c + 1) (set l c both)
    between_more {both} d b s j =
        record {
          six = length-set l c both ∙ f.six;
          done = λ i q. ⊎_elim (λ p. get_or-set_other l c i both no_samples (λ e. omega arith) ∙ f.done i p) (λ p.
              let e : i ≡ c = omega arith in
              rw e (get_or-set_same l c both no_samples (omega (arith, f.six)) ∙ whole)) (below_or i c);
          rest = λ i q. get_or-set_other l c i both no_samples (λ e. omega arith) ∙ f.rest i (omega arith);
        }
      where
        whole : both ≡ channel_tally conv r (n + m) c
        whole =
            let z : 0 + n ≡ n = omega arith in
            j ∙ rw (get_d_any l c d no_samples (omega (arith, f.six)), sum_so_far, g)
            (ap (λ (k : ℕ). joined_channel (tally (unclamped conv r c) 0 n) (tally (unclamped conv r c) k m)) (sym z) ∙ tally_join (unclamped conv r c) 0 n m s)
            ∙ sym (tally_in conv r (n + m) c h)

  -- all the channels
  pub between_all : {n m : ℕ} {l : List ChannelStats} → Between conv r n m conv.channels l → Tallied conv r (n + m) l
  between_all {n} {m} t =
      record {
        six = t.six;
        each = λ j. ⊎_elim (λ p. t.done j p) (λ p. t.rest j p ∙ tally_out conv r n j p ∙ sym (tally_out conv r (n + m) j p)) (below_or j conv.channels);
      }

-- m samples of the channels below c are done
pub record Columns {A : Type 0} (o : Layout A) (conv : Converter) (r : Run) (n m c clips : ℕ) (x y : List A) (l : List ChannelStats) : Type 0 where
  pub box : Drawn o (sample conv r) conv.channels n (n + m) 0 c x y
  pub between : Between conv r n m c l
  pub sum : clips ≡ clips_below conv r n m c

module _ {A : Type 0} {o : Layout A} {conv : Converter} {r : Run} {n m : ℕ} {x : List A} where
  pub columns_none : {l : List ChannelStats} → Tallied conv r n l → Columns o conv r n m 0 0 x x l
  columns_none t = record { box = no_cols; between = between_none t; sum = sym (clips_none conv r n m) }

  module _ {c clips : ℕ} {y : List A} {l : List ChannelStats} (f : Columns o conv r n m c clips x y l) where
    pub columns_more : {z : List A} {more both : ChannelStats} (d : ChannelStats) → c < conv.channels → conv.channels ≤ 6 → n + m < 2 ^ 64
        → Made o conv r c n m more y z → both ≡ joined_channel (get_or l c d) more → Columns o conv r n m (c + 1) (clips + more.clipped) x z (set l c both)
    columns_more d h b s g j =
        record {
          box = cols f.box (made_drawn g);
          between = between_more f.between h g.is_told d (omega arith) s j;
          sum = omega (arith, f.sum, clips_more conv r n m c g.is_told);
        }

    pub columns_few : c ≤ 6 → clips ≤ 6 * m
    columns_few h = omega (arith, f.sum, clips_few conv r n m c, mul-le-mul_right m h)

-- ---- batches
module _ {A : Type 0} {o : Layout A} {conv : Converter} {r : Run} {x : List A} where
  pub covered_none : {n : ℕ} {l : List ChannelStats} → Tallied conv r n l → Covered o conv r n n x x l
  covered_none t = record { box = no_rows (omega arith); tallied = t }

  -- one more
  pub covered_more : {n mid end : ℕ} {y z : List A} {l k : List ChannelStats} → Covered o conv r n mid x y l → Covered o conv r mid end y z k → Covered o conv r n end x z k
  covered_more f g = record { box = rows f.box g.box; tallied = g.tallied }

-- frames from frame f on are in a run of `count`, from an even sample on
pub frames_fit : (rate : PcmRate) (f frames count : ℕ) → f + frames ≤ count
    → (f * samples_per_frame rate + frames * samples_per_frame rate ≤ count * samples_per_frame rate) × ((f * samples_per_frame rate) % 2 ≡ 0)
frames_fit rate f frames count h = (omega (arith, mul-le-mul_right (samples_per_frame rate) h), even_frames f rate)

-- the clips of frame k
pub frame_told : (conv : Converter) (r : Run) (k : ℕ) → clips_below conv r (k * samples_per_frame conv.rate) (1 * samples_per_frame conv.rate) conv.channels ≡ frame_clips conv r k
unfolding frame_clips clips_below
frame_told conv r k =
    let one : 1 * samples_per_frame conv.rate ≡ samples_per_frame conv.rate = omega arith in
    rw one refl

-- ---- the whole run

module _ {A : Type 0} {o : Layout A} (some : 0 < o.width) (j : Job) {x y : List A} {l : List ChannelStats} {s t : List ℕ} where
  pub run_done : {told : ConvertStats} → Room o (in_run j * j.conv.channels) x → Covered o j.conv (job_run j) 0 (in_run j) x y l
      → t ≡ tabulate (frame_clips j.conv (job_run j)) 0 (length s) → told.channels ≡ l → Ran o j.conv (job_run j) told y s t
  unfolding samples item run_all stats
  run_done room f counted e =
      let slices = (ready_of j).slices in
      let n = run_samples j.conv slices in
      record {
        places = rw n (whole some (sample j.conv (job_run j)) slices.some room f.box);
        counted = counted;
        is_stats = rw (e ∙ is_tabulate (channel_stats j.conv (job_run j)) 0 6 no_samples l f.tallied.six (λ i m.
            let z : 0 + i ≡ i = omega arith in
            rw z (f.tallied.each i ∙ tally_is j.conv (job_run j) (in_run j) i n))) refl;
      }
    where
      whole : 0 < o.width → (S : ℕ → ℕ → ℤ) → 0 < j.conv.channels → Room o (in_run j * j.conv.channels) x → Drawn o S j.conv.channels 0 (in_run j) 0 j.conv.channels x y
          → y ≡ parts_of o (tabulate (λ i. S (i % j.conv.channels) (i / j.conv.channels)) 0 (in_run j * j.conv.channels))
      whole p S q = all_samples o p S q
