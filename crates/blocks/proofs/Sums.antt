-- Samples to blocks, blocks to a channel of some frames: what the loops add up.
use Rattle.std.proofs.Common.{◌≡◌, refl, sym, ap, ◌∙◌, subst, Bool, true, false, List, ℕ, ◌+◌, ◌*◌, ◌/◌, ◌%◌, ◌^◌, ◌≤◌, ◌<◌, mul_assoc, mul-le-mul, arith}
use Rattle.std.proofs.Common.{ne_eqb, eqb, get_or-take, ℤ, pos, nat_abs, length, take, length-take}
use lib.Arith.{digits_div}
use Rattle.numbers.specs.Sums.{at0}
use Rattle.numbers.specs.inner.Lists.{Held}
use Rattle.reference.specs.Frames.{Run, frame_length, frame_count}
use Rattle.reference.specs.Scaling.{scaled, clamp}
use Rattle.reference.specs.Stages.{taps_of, M, y}
use Rattle.reference.specs.Statistics.{no_samples, joined_channel}
use Rattle.reference.specs.Output.{samples_per_frame, unclamped, sample, channel_samples}
use Rattle.reference.specs.declared.PcmRate.{PcmRate}
use Rattle.reference.specs.declared.PcmRate.TheVariants.{Hz88200, Hz176400, Hz352800}
use Rattle.reference.specs.declared.Converter.{Converter}
use Rattle.reference.specs.declared.ChannelStats.{ChannelStats}
use Rattle.reference.proofs.Frames.{frame_samples}
use Rattle.channel_bytes.specs.inner.Lent.{Lent, lent_run, byte_at}
use Rattle.routes.specs.declared.Route.{Route}
use Rattle.routes.specs.declared.Route.TheVariants.{Narrow88, Narrow176, Narrow352, Wide176, Wide352}
use Rattle.routes.specs.inner.Routes.{Routed, last_of, y_of, stride, around, first_byte, block_length, fresh, history_from, Kept, State}
use Rattle.routes.proofs.Routes.{a_frame, y_of_is, y_of_size}
use Rattle.gain.specs.Tallies.{tally}
use Rattle.gain.proofs.Tallies.{tally_none, tally_join, tally_same, tally_few}
use Rattle.output.specs.inner.Fills.{Layout, Drawn}
use Rattle.output.proofs.Boxes.{no_rows, rows}
use Rattle.kernel.proofs.Blocks.{HistoryHeld, Blocked}
use Rattle.blocks.proofs.Places.{whole_blocks, few_taps, last_place, first_byte_more, history_low, block_byte_near, block_byte_next}
use Rattle.blocks.specs.inner.Blocks.{Ready, Made}
use Rattle.blocks.specs.declared.job.Job.{Job}

-- ---- numbers of a rate

-- a frame is an even number of samples, and so are more of them
pub even_frame : (rate : PcmRate) → samples_per_frame rate % 2 ≡ 0
unfolding samples_per_frame
even_frame Hz88200 = refl
even_frame Hz176400 = refl
even_frame Hz352800 = refl

pub even_frames : (f : ℕ) (rate : PcmRate) → (f * samples_per_frame rate) % 2 ≡ 0
unfolding samples_per_frame
even_frames f Hz88200 = omega arith
even_frames f Hz176400 = omega arith
even_frames f Hz352800 = omega arith

-- the samples of a channel of a run
pub few_samples : (rate : PcmRate) (n : ℕ) → n ≤ 540000 → n * samples_per_frame rate ≤ 540000 * 4704
few_samples rate n l = mul-le-mul l (frame_samples rate)

module _ (conv : Converter) {count : ℕ} {b f a : List ℕ} (slices : Lent conv.channels count b f a) where
  -- the slices of a run of `count` frames hold so many
  counted : frame_count conv.channels f ≡ count
  unfolding frame_count
  counted =
      let z : count * frame_length conv.channels ≡ count * frame_length conv.channels + 0 = omega arith in
      rw (slices.whole, z) (digits_div count (omega (arith, slices.some)))

  pub run_samples : channel_samples conv (lent_run b f a) ≡ count * samples_per_frame conv.rate
  unfolding channel_samples lent_run
  run_samples = ap (λ z. z * samples_per_frame conv.rate) counted

  pub run_few : count * samples_per_frame conv.rate ≤ 540000 * 4704
  run_few = few_samples conv.rate count slices.limit

-- ---- a block of y, from sample k of channel c on

module _ {conv : Converter} {count : ℕ} {b f a : List ℕ} {tables taps : List ℤ} {route : Route} (ready : Ready conv route count b f a tables taps) (c k m : ℕ) {ys : List ℤ}
    (held : Held (pos 0) (y_of route (last_of conv) (byte_at conv.channels b f a c)) (samples_per_frame conv.rate + k) m ys) where
  pub values_small : (i : ℕ) → i < m → nat_abs (at0 ys i) < 2 ^ 31
  values_small i l =
      let e = held.is i l in
      rw e (omega (arith, y_of_size route (last_of conv) ready.last.last (byte_at conv.channels b f a c) (samples_per_frame conv.rate + k + i)))

  value_is : (i : ℕ) → i < m → scaled conv.gain.linear (at0 ys i) ≡ unclamped conv (lent_run b f a) c (k + i)
  unfolding unclamped byte_at
  value_is i l =
      let e : samples_per_frame conv.rate + k + i ≡ samples_per_frame conv.rate + (k + i) = omega arith in
      let y_is = rw (← ready.routed.is) at (y_of_is conv.rate conv.cutoff (taps_of conv.filter) ready.routed.supported) in
      ap (scaled conv.gain.linear) (held.is i l ∙ y_is (byte_at conv.channels b f a c) (samples_per_frame conv.rate + k + i)
      ∙ ap (y conv.rate conv.cutoff (taps_of conv.filter) (byte_at conv.channels b f a c)) e)

  -- scaled and stored
  pub block_made : {A : Type 0} {o : Layout A} {l : List ℤ} {told : ChannelStats} {x x' : List A} → ((i : ℕ) → i < m → at0 l i ≡ clamp (scaled conv.gain.linear (at0 ys i)))
      → told ≡ tally (λ i. scaled conv.gain.linear (at0 ys i)) 0 m
      → ((S : ℕ → ℕ → ℤ) → Held (pos 0) (S c) k m l → Drawn o S conv.channels k (k + m) c (c + 1) x x')
      → Made o conv (lent_run b f a) c k m told x x'
  unfolding sample
  block_made s t d =
      record {
        box = λ S same. d S (record { is = λ i l. s i l ∙ ap clamp (value_is i l) ∙ sym (same i l) });
        is_told = t ∙ tally_same _ (unclamped conv (lent_run b f a) c) 0 k m (λ i l. let z : 0 + i ≡ i = omega arith in rw z (value_is i l));
      }

module _ {A : Type 0} {o : Layout A} {conv : Converter} {r : Run} {c n : ℕ} where
  -- ---- blocks of a channel

  pub made_none : {told : ChannelStats} {x : List A} → told ≡ no_samples → Made o conv r c n 0 told x x
  made_none t =
      record {
        box = λ S h. no_rows (omega arith);
        is_told = t ∙ sym (tally_none (unclamped conv r c) n);
      }

  pub made_drawn : {m : ℕ} {told : ChannelStats} {x y : List A} → Made o conv r c n m told x y → Drawn o (sample conv r) conv.channels n (n + m) c (c + 1) x y
  made_drawn f = f.box (sample conv r) (λ k l. refl)

  pub made_few : {m : ℕ} {told : ChannelStats} {x y : List A} → Made o conv r c n m told x y → told.clipped ≤ m
  made_few {m} f = rw f.is_told (tally_few (unclamped conv r c) n m)

  pub made_join : {a b : ℕ} {s t both : ChannelStats} {x y z : List A} → Made o conv r c n a s x y → Made o conv r c (n + a) b t y z → a + b < 2 ^ 64 → both ≡ joined_channel s t
      → Made o conv r c n (a + b) both x z
  made_join {a} {b} {x = x} {z = z} f g l j =
      record {
        box = λ S h.
            let e : n + a + b ≡ n + (a + b) = omega arith in
            subst (λ (hi : ℕ). Drawn o S conv.channels n hi c (c + 1) x z) e
            (rows (f.box S (λ k l. h k (omega arith))) (g.box S (λ k l. let i : n + a + k ≡ n + (a + k) = omega arith in rw i (h (a + k) (omega arith)))));
        is_told = j ∙ rw (f.is_told, g.is_told) (tally_join (unclamped conv r c) n a b l);
      }

-- ---- the loop over the blocks

-- the arrays and the position before the block at sample n of channel c; the kernel counts from the frame before the
-- run
pub record Staged (conv : Converter) (route : Route) (β : ℕ → ℕ) (first : Bool) (n at : ℕ) (x kept : List ℤ) : Type 0 where
  pub position : at ≡ first_byte route (history_from route (M (last_of conv)) first (samples_per_frame conv.rate + n) + 2 * M (last_of conv))
  pub state : State route (last_of conv) first β (samples_per_frame conv.rate + n) x kept

-- b blocks of m samples of a channel are done
pub record Blocks {A : Type 0} (o : Layout A) (conv : Converter) (route : Route) (r : Run) (β : ℕ → ℕ) (c n b m at : ℕ) (told : ChannelStats) (x kept : List ℤ) (out out' : List A) : Type 0 where
  pub staged : Staged conv route β (eqb b 0) (n + b * m) at x kept
  pub made : Made o conv r c n (b * m) told out out'

kept_none : (route : Route) (F : List ℤ) (β : ℕ → ℕ) (n : ℕ) (l : List ℤ) → n % 2 ≡ 0 → Kept route F true β n l
unfolding Kept
kept_none Narrow88 F β n l e = tt
kept_none Narrow176 F β n l e = tt
kept_none Narrow352 F β n l e = e
kept_none Wide176 F β n l e = tt
kept_none Wide352 F β n l e = tt

module _ {conv : Converter} {count : ℕ} {b f a : List ℕ} {tables taps : List ℤ} {route : Route} (ready : Ready conv route count b f a tables taps) (β : ℕ → ℕ) (n : ℕ) where
  abbrev rate : PcmRate
  rate = conv.rate

  few : M (last_of conv) ≤ 116
  few = omega (arith, few_taps ready.last, last_place ready.last)

  late : 1000 ≤ samples_per_frame rate + n
  late = omega (arith, a_frame rate)

  -- the history is filled
  pub staged_begins : {start at : ℕ} {bytes : List ℕ} {x kept : List ℤ} (last : ℕ) → last ≡ M taps
      → n % 2 ≡ 0 → start ≡ first_byte route (history_from route last true (samples_per_frame rate + n))
      → at ≡ start + stride route * (2 * last) → Held 0 β start (stride route * (2 * last) + around route) bytes → HistoryHeld route (2 * last) bytes x
      → Staged conv route β true n at x kept
  staged_begins {kept = kept} last is even from next held gives =
      let e : last ≡ M (last_of conv) = omega (arith, is, last_place ready.last) in
      let i = history_from route (M (last_of conv)) true (samples_per_frame rate + n) in
      let low = history_low (M (last_of conv)) (samples_per_frame rate + n) few late route true in
      let from' = rw e at from in
      record {
        position = rw e at next ∙ ap (λ z. z + stride route * (2 * M (last_of conv))) from' ∙ sym (first_byte_more route i (2 * M (last_of conv)) low);
        state = record {
          history = (rw e at gives) β i low (rw from' at (rw e at held));
          w_kept =
              kept_none route (last_of conv) β (samples_per_frame rate + n) kept (omega (arith, even_frame rate));
        };
      }

  -- a block is worked out
  pub staged_gives : {first : Bool} {at at' new : ℕ} {bytes : List ℕ} {x kept x' kept' ys : List ℤ} → Staged conv route β first n at x kept → new ≡ fresh route first
      → Held 0 β at (stride route * new + around route) bytes → at' ≡ at + stride route * new → Blocked route first taps bytes x kept x' kept' ys
      → Held (pos 0) (y_of route (last_of conv) β) (samples_per_frame rate + n) (block_length route) ys × Staged conv route β false (n + block_length route) at' x' kept'
  staged_gives {first} s is held next gives =
      let r = gives (last_of conv) β (samples_per_frame rate + n) ready.last late (rw s.position at (rw is at held)) s.state in
      let e : samples_per_frame rate + n + block_length route ≡ samples_per_frame rate + (n + block_length route) = omega arith in (
        r.0,
        record {
          position = rw is at next ∙ ap (λ z. z + stride route * fresh route first) s.position
              ∙ rw e at (sym (block_byte_next (M (last_of conv)) (samples_per_frame rate + n) few late route first));
          state = rw e at r.1;
        },
      )

  pub staged_near : {first : Bool} {at : ℕ} {x kept : List ℤ} → Staged conv route β first n at x kept → samples_per_frame rate + n < 2 ^ 50 → at < 2 ^ 62
  staged_near {first} s l = rw s.position (block_byte_near (M (last_of conv)) (samples_per_frame rate + n) few late route first l)

-- ---- a job

-- what it goes by
pub ready_of : (j : Job) → Ready j.conv j.route j.slices.count j.slices.before.now j.slices.frames.now j.slices.after.now j.tables.now j.taps.now
ready_of j = record { slices = rw j.same at j.slices.lent; routed = j.routed; first = j.first; last = j.last; factor = j.factor }

-- ---- blocks of a channel

module _ {A : Type 0} {o : Layout A} {conv : Converter} {route : Route} {r : Run} {β : ℕ → ℕ} {c n m : ℕ} {x kept : List ℤ} {out : List A} where
  pub blocks_none : {at : ℕ} {told : ChannelStats} → Staged conv route β true n at x kept → told ≡ no_samples → Blocks o conv route r β c n 0 m at told x kept out out
  blocks_none s e =
      let z : 0 * m ≡ 0 = omega arith in
      let i : n + 0 ≡ n = omega arith in
      record { staged = rw (z, i) s; made = rw z (made_none e) }

  -- one more
  pub blocks_more : {b at at' : ℕ} {told more both : ChannelStats} {x' kept' : List ℤ} {out' out'' : List A}
      → Blocks o conv route r β c n b m at told x kept out out' → m ≡ block_length route
      → Staged conv route β false (n + b * m + block_length route) at' x' kept'
      → Made o conv r c (n + b * m) m more out' out'' → b * m + m < 2 ^ 64 → both ≡ joined_channel told more → Blocks o conv route r β c n (b + 1) m at' both x' kept' out out''
  blocks_more {b} d is s g l j =
      let next : b * m + m ≡ (b + 1) * m = omega arith in
      let i : n + b * m + block_length route ≡ n + (b + 1) * m = omega arith in
      let later : eqb (b + 1) 0 ≡ false = ne_eqb (b + 1) 0 (λ z. omega arith) in
      record { staged = rw later (rw i at s); made = rw next at (made_join d.made g l j) }

-- the front of what is held
pub front_of : {f : ℕ → ℤ} {a n : ℕ} {l : List ℤ} (m : ℕ) → m ≤ n → Held (pos 0) f a n l → Held (pos 0) f a (length (take m l)) (take m l)
front_of {l = l} m s held = record { is = λ k q. get_or-take m l k (pos 0) (omega (arith, length-take m l)) ∙ held.is k (omega (arith, length-take m l)) }

-- samples that are stored, their number by another name
pub stored : {A : Type 0} (o : Layout A) (ch : ℕ) {n c : ℕ} {l : List ℤ} {x z : List A} (a b : ℕ) → a ≡ b → ((S : ℕ → ℕ → ℤ) → Held (pos 0) (S c) n a l → Drawn o S ch n (n + a) c (c + 1) x z)
    → (S : ℕ → ℕ → ℤ) → Held (pos 0) (S c) n b l → Drawn o S ch n (n + b) c (c + 1) x z
stored o ch {n} {c} {l} {x} {z} a b e = subst (λ (m : ℕ). (S : ℕ → ℕ → ℤ) → Held (pos 0) (S c) n m l → Drawn o S ch n (n + m) c (c + 1) x z) e

-- blocks up to the end of so many frames
pub at_end : {conv : Converter} {route : Route} → Routed conv route → (frames : ℕ) {b spf m : ℕ} → spf ≡ samples_per_frame conv.rate → m ≡ block_length route
    → b ≡ frames * (spf / m) → b * m ≡ frames * samples_per_frame conv.rate
at_end r frames e f h = rw (h, e, f) (mul_assoc frames _ _ ∙ ap (λ z. frames * z) (whole_blocks r))
