-- A block of each route, from what its function ensures to what `block` does; and what the functions ask of the taps.
use Rattle.std.proofs.Common.{◌≡◌, sym, ◌∙◌, ap, Bool, true, false, List, ◌++◌, ℕ, ◌+◌, ◌-◌, ◌*◌, ◌/◌, ◌%◌, ◌≤◌, arith, lit≤, ℤ, pos, length, take, get_or-take}
use lib.ListN.{get_or-append}
use Rattle.numbers.specs.inner.Lists.{Held}
use Rattle.numbers.proofs.Lists.{held_none}
use Rattle.reference.specs.Taps.{S1_WIDE, F40, F80}
use Rattle.reference.specs.Stages.{M, u, v, w, y_narrow, y_wide}
use Rattle.reference.specs.declared.PcmRate.TheVariants.{Hz88200, Hz176400, Hz352800}
use Rattle.reference.proofs.Locality.{F40_last, F80_last}
use Rattle.routes.specs.declared.Route.{Route}
use Rattle.routes.specs.declared.Route.TheVariants.{Narrow88, Narrow176, Narrow352, Wide176, Wide352}
use Rattle.routes.specs.inner.Routes.{LowPass, HalvedFilter, halves_of, LastFilter, lent_taps, RouteTaps, SomeTaps, filter_input}
use Rattle.routes.specs.inner.Routes.{stride, around, first_byte, fresh, history_from, block_length, y_of, Kept, State, Brought}
use Rattle.routes.proofs.Arrays.{held_at}
use Rattle.routes.proofs.Filters.{halves_length}

-- ---- parts

module _ {A : Type 0} {d : A} {f : ℕ → A} {a n : ℕ} {l : List A} (held : Held d f a n l) where
  -- the front of a list, and a list in front of another
  pub front_held : (m : ℕ) → m ≤ n → Held d f a m (take m l)
  front_held m s = record { is = λ k q. get_or-take m l k d q ∙ held.is k (omega arith) }

  pub first_held : (rest : List A) → n ≤ length l → Held d f a n (l ++ rest)
  first_held rest s = record { is = λ k q. get_or-append l rest d k (omega arith) ∙ held.is k q }

-- ---- what `history` ensures
abbrev pub HistoryHeld : Route → ℕ → List ℕ → List ℤ → Type 0
HistoryHeld route n bytes x = (β : ℕ → ℕ) (i : ℕ) → 10 ≤ i → Held 0 β (first_byte route i) (stride route * n + around route) bytes → Held (pos 0) (filter_input route β) i n x

-- ---- places at 352,800, for a filter whose last tap is at place m
first_byte_352 : (n m : ℕ) → 1000 ≤ n → m ≤ 116 → 2 * (n / 2 - 8 - m + 2 * m) - 19 ≡ 2 * (n / 2 + 176 - 184 + m) - 19
first_byte_352 n m l h = omega arith

first_history_352 : (n m : ℕ) → 1000 ≤ n → n / 2 - 8 - m ≡ n / 2 + 176 - 184 - m
first_history_352 n m l = omega arith

next_byte_352 : (n m : ℕ) → 1000 ≤ n → m ≤ 116 → 2 * (n / 2 + 8 - m + 2 * m) - 19 ≡ 2 * (n / 2 + 176 - 168 + m) - 19
next_byte_352 n m l h = omega arith

held_history_352 : (n m : ℕ) → n / 2 + 8 - m ≡ n / 2 + 176 - 168 - m
held_history_352 n m = omega arith

next_history_352 : (n m : ℕ) → n / 2 + 176 - m ≡ (n + 336) / 2 + 8 - m
next_history_352 n m = omega arith

next_kept_352 : (n : ℕ) → 1000 ≤ n → n / 2 + 160 ≡ (n + 336) / 2 - 8
next_kept_352 n l = omega arith

-- ---- what `block` ensures of a route
abbrev pub Blocked : Route → Bool → List ℤ → List ℕ → List ℤ → List ℤ → List ℤ → List ℤ → List ℤ → Type 0
Blocked route first h bytes x kept x' kept' y =
    (F : List ℤ) (β : ℕ → ℕ) (n : ℕ) → RouteTaps route F h → 1000 ≤ n → Brought route F first β n bytes → State route F first β n x kept
    → Held (pos 0) (y_of route F β) n (block_length route) y × State route F false β (n + block_length route) x' kept'

module _ {h : List ℤ} {bytes : List ℕ} {x kept x' kept' y : List ℤ} where
  -- y in front of what its array held
  pub blocked_front : (route : Route) (first : Bool) (rest : List ℤ) → block_length route ≤ length y
      → Blocked route first h bytes x kept x' kept' y → Blocked route first h bytes x kept x' kept' (y ++ rest)
  blocked_front route first rest l g F β n t m b s =
      let r = g F β n t m b s in
      (first_held r.0 rest l, r.1)

  pub blocked_88 : (first : Bool)
      → ((F : List ℤ) (β : ℕ → ℕ) (n : ℕ) → LowPass F → h ≡ halves_of F → 1000 ≤ n → Held 0 β (2 * (2 * n + M F) - 19) 372 (take 372 bytes) → Held (pos 0) (v β) (2 * n - M F) (2 * M F) x
      → Held (pos 0) (y_narrow Hz88200 F β) n 84 y × Held (pos 0) (v β) (2 * (n + 84) - M F) (2 * M F) x')
      → Blocked Narrow88 first h bytes x kept x' kept' y
  unfolding LastFilter lent_taps filter_input stride around first_byte fresh history_from block_length y_of Kept
  blocked_88 first g F β n t m b s =
      let few = t.last.few in
      let r = g F β n t.last t.lent m (held_at _ (omega arith) (front_held b 372 (omega arith))) s.history in
      (r.0, record { history = r.1; w_kept = tt })

  pub blocked_176 : (first : Bool)
      → ((β : ℕ → ℕ) (n : ℕ) → 1000 ≤ n → Held 0 β (2 * (n + M h) - 19) 372 (take 372 bytes) → Held (pos 0) (v β) (n - M h) (2 * M h) x
      → Held (pos 0) (y_narrow Hz176400 h β) n 168 y × Held (pos 0) (v β) (n + 168 - M h) (2 * M h) x')
      → Blocked Narrow176 first h bytes x kept x' kept' y
  unfolding LastFilter lent_taps filter_input stride around first_byte fresh history_from block_length y_of Kept
  blocked_176 first g F β n t m b s =
      let few = t.last.few in
      let e : F ≡ h = sym t.lent in
      let r = g β n m (held_at _ (omega (arith, ap length e)) (front_held b 372 (omega arith))) (rw e at s.history) in
      rw e (r.0, record { history = r.1; w_kept = tt })

  -- k values of w are new
  pub blocked_352 : (first : Bool) (k : ℕ) → k ≡ fresh Narrow352 first
      → ((β : ℕ → ℕ) (n : ℕ) → 1000 ≤ n → n % 2 ≡ 0 → Held 0 β (2 * (n / 2 + 176 - k + M h) - 19) (2 * k + 36) (take (2 * k + 36 - 0) bytes) → Held (pos 0) (v β) (n / 2 + 176 - k - M h) (2 * M h) x
      → Held (pos 0) (w h β) (n / 2 - 8) (184 - k) kept
      → Held (pos 0) (y_narrow Hz352800 h β) n 336 y × Held (pos 0) (v β) (n / 2 + 176 - M h) (2 * M h) x' × Held (pos 0) (w h β) (n / 2 + 160) 16 kept')
      → Blocked Narrow352 first h bytes x kept x' kept' y
  unfolding LastFilter lent_taps filter_input stride around first_byte fresh history_from block_length y_of Kept
  blocked_352 true k is g F β n t m b s =
      let e : F ≡ h = sym t.lent in
      let l : M h ≤ 116 = omega (arith, t.last.few, ap length e) in
      let bytes = held_at _ (first_byte_352 n (M h) m l) (rw e at (front_held b 404 (omega arith))) in
      let r = g β n m s.w_kept (rw is bytes) (rw is (held_at _ (first_history_352 n (M h) m) (rw e at s.history))) (rw is held_none) in
      rw e (r.0, record { history = held_at _ (next_history_352 n (M h)) r.1; w_kept = (omega arith, held_at _ (next_kept_352 n m) r.2) })
  blocked_352 false k is g F β n t m b s =
      let e : F ≡ h = sym t.lent in
      let l : M h ≤ 116 = omega (arith, t.last.few, ap length e) in
      let bytes = held_at _ (next_byte_352 n (M h) m l) (rw e at (front_held b 372 (omega arith))) in
      let r = g β n m s.w_kept.0 (rw is bytes) (rw is (held_at _ (held_history_352 n (M h)) (rw e at s.history))) (rw is (rw e at s.w_kept.1)) in
      rw e (r.0, record { history = held_at _ (next_history_352 n (M h)) r.1; w_kept = (omega arith, held_at _ (next_kept_352 n m) r.2) })

  pub blocked_wide176 : (first : Bool)
      → ((β : ℕ → ℕ) (n : ℕ) → 1000 ≤ n → Held 0 β (2 * n + 110) 179 (take 179 bytes) → Held (pos 0) (u S1_WIDE β) (2 * n - 116) 232 x
      → Held (pos 0) (y_wide Hz176400 β) n 84 y × Held (pos 0) (u S1_WIDE β) (2 * (n + 84) - 116) 232 x')
      → Blocked Wide176 first h bytes x kept x' kept' y
  unfolding LastFilter lent_taps filter_input stride around first_byte fresh history_from block_length y_of Kept
  blocked_wide176 first g F β n t m b s =
      let e : M F ≡ 116 = rw t.last F80_last in
      let r = g β n m (held_at _ (omega arith) (front_held b 179 (omega arith))) (rw e at s.history) in
      (r.0, record { history = rw e r.1; w_kept = tt })

  pub blocked_wide352 : (first : Bool)
      → ((β : ℕ → ℕ) (n : ℕ) → 1000 ≤ n → Held 0 β (n + 54) 347 (take 347 bytes) → Held (pos 0) (u S1_WIDE β) (n - 60) 120 x
      → Held (pos 0) (y_wide Hz352800 β) n 336 y × Held (pos 0) (u S1_WIDE β) (n + 336 - 60) 120 x')
      → Blocked Wide352 first h bytes x kept x' kept' y
  unfolding LastFilter lent_taps filter_input stride around first_byte fresh history_from block_length y_of Kept
  blocked_wide352 first g F β n t m b s =
      let e : M F ≡ 60 = rw t.last F40_last in
      let r = g β n m (held_at _ (omega arith) (front_held b 347 (omega arith))) (rw e at s.history) in
      (r.0, record { history = rw e r.1; w_kept = tt })

pub fresh_few : (first : Bool) → (168 ≤ fresh Narrow352 first) × (fresh Narrow352 first ≤ 184)
unfolding fresh
fresh_few true = (lit≤ tt, lit≤ tt)
fresh_few false = (lit≤ tt, lit≤ tt)

-- ---- what the functions ask of the taps

module _ {h : List ℤ} where
  pub halved_taps : SomeTaps Narrow88 h → HalvedFilter h
  unfolding LastFilter lent_taps
  halved_taps t =
      let f = t.taps.last in
      let long = halves_length t.F t.taps.lent in
      record { some = omega (arith, f.some, long); few = omega (arith, f.few, long); F = t.F; halved = t.taps.lent; keeps = f.keeps; small = omega (arith, f.small) }

  pub plain_176 : SomeTaps Narrow176 h → LowPass h
  unfolding LastFilter lent_taps
  plain_176 t = rw t.taps.lent t.taps.last

  pub plain_352 : SomeTaps Narrow352 h → LowPass h
  unfolding LastFilter lent_taps
  plain_352 t = rw t.taps.lent t.taps.last

  pub wide_176 : SomeTaps Wide176 h → h ≡ halves_of F80
  unfolding LastFilter lent_taps
  wide_176 t = t.taps.lent ∙ ap halves_of t.taps.last

  pub wide_352 : SomeTaps Wide352 h → h ≡ F40
  unfolding LastFilter lent_taps
  wide_352 t = t.taps.lent ∙ t.taps.last
