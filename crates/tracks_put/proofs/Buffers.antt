-- A stretch from its channels.
use Rattle.std.proofs.Common.{◌≡◌, refl, sym, ap, ◌∙◌, ⊎_elim, List, ◌++◌, ℕ, ◌+◌, ◌*◌, ◌-◌, ◌/◌, ◌%◌, ◌^◌, ◌≤◌, ◌<◌, add-mul, mul-le-mul_right, mod-lt}
use Rattle.std.proofs.Common.{div-add-mod', div-lt_iff_lt-mul, arith, length, get_or, take, drop, length-append, length-drop, get_or-take, get_or-drop}
use Rattle.std.proofs.Common.{get_or-append-add, length-take-le, ext_get_or, lt-ltb}
use lib.ListN.{get_or-append}
use Rattle.numbers.specs.Lists.{tabulate}
use Rattle.numbers.specs.inner.Lists.{Written}
use Rattle.numbers.proofs.Lists.{below_or, length_tabulate, get_d_tabulate}
use Rattle.text.specs.Text.{with_text}
use Rattle.text.specs.Bytes.{Bytes}
use Rattle.dsf.specs.Dsf.{data_place, sample_byte, turn_byte}
use Rattle.dsf.specs.inner.Orders.{bit_order}
use Rattle.dsf_frames.specs.Reading.{window_data}
use Rattle.dsf_columns.specs.inner.Columns.{Ordering}
use Rattle.dsf_columns.proofs.Blocks.{quotient, remainder}
use Rattle.dsf_columns.proofs.Strides.{other}
use Rattle.dsf_columns.proofs.Turned.{ordered_is}
use Rattle.tracks_put.specs.declared.Part.{Part}
use Rattle.tracks_put.specs.inner.Putting.{table_byte, stretch, Placed, PutArgs, ChannelArgs}

-- ---- a list with a text in it, by its places
pub is_with_text : (old new t : List ℕ) (a : ℕ) → a + length t ≤ length old → length new ≡ length old → ((j : ℕ) → j < a → get_or new j 0 ≡ get_or old j 0)
    → ((k : ℕ) → k < length t → get_or new (a + k) 0 ≡ get_or t k 0) → ((j : ℕ) → a + length t ≤ j → get_or new j 0 ≡ get_or old j 0) → new ≡ with_text old a t
unfolding with_text
is_with_text old new t a fits same before inside behind =
    ext_get_or 0 new (take a old ++ (t ++ drop (a + length t) old)) (same ∙ sym long) (λ j h. ⊎_elim (front j) (λ l. ⊎_elim (middle j l) (back j l) (below_or (j - a) (length t))) (below_or j a))
  where
    lead : length (take a old) ≡ a
    lead = length-take-le a old (omega arith)

    long : length (take a old ++ (t ++ drop (a + length t) old)) ≡ length old
    long = length-append (take a old) (t ++ drop (a + length t) old) ∙ omega (arith, lead, length-append t (drop (a + length t) old), length-drop (a + length t) old)

    front : (j : ℕ) → j < a → get_or new j 0 ≡ get_or (take a old ++ (t ++ drop (a + length t) old)) j 0
    front j h = before j h ∙ sym (get_or-append (take a old) (t ++ drop (a + length t) old) 0 j (omega (arith, lead)) ∙ get_or-take a old j 0 h)

    middle : (j : ℕ) → a ≤ j → j - a < length t → get_or new j 0 ≡ get_or (take a old ++ (t ++ drop (a + length t) old)) j 0
    middle j l h =
        let e : a + (j - a) ≡ j = omega arith in
        let g : length (take a old) + (j - a) ≡ j = omega (arith, lead) in
        ap (λ (x : ℕ). get_or new x 0) (sym e) ∙ inside (j - a) h
        ∙ sym (ap (λ (x : ℕ). get_or (take a old ++ (t ++ drop (a + length t) old)) x 0) (sym g)
        ∙ get_or-append-add (take a old) (t ++ drop (a + length t) old) (j - a) 0 ∙ get_or-append t (drop (a + length t) old) 0 (j - a) h)

    back : (j : ℕ) → a ≤ j → length t ≤ j - a → get_or new j 0 ≡ get_or (take a old ++ (t ++ drop (a + length t) old)) j 0
    back j l h =
        let k = j - a - length t in
        let e : a + length t + k ≡ j = omega arith in
        let g : length (take a old) + (length t + k) ≡ j = omega (arith, lead) in
        behind j (omega arith)
        ∙ sym
        (ap (λ (x : ℕ). get_or (take a old ++ (t ++ drop (a + length t) old)) x 0) (sym g) ∙ get_or-append-add (take a old) (t ++ drop (a + length t) old) (length t + k) 0
        ∙ get_or-append-add t (drop (a + length t) old) k 0 ∙ get_or-drop (a + length t) old k 0 ∙ ap (λ (x : ℕ). get_or old x 0) e)

-- ---- one channel more
module _ {n at m : ℕ} {f : ℕ → ℕ → ℕ} {old : List ℕ} where
  pub placed_none : Placed n at m 0 f old old
  placed_none = record { same = refl; done = λ d i h l. absurd (omega arith); before = λ j h. refl; behind = λ j h. refl }

  pub placed_more : {c : ℕ} {mid new : List ℕ} → c < n → Placed n at m c f old mid → Written 0 (λ i. at * n + c + i * n) (f c) m mid new → Placed n at m (c + 1) f old new
  placed_more {c} {mid} {new} l w p =
      record {
        same = p.same ∙ w.same;
        done = λ d i h t. ⊎_elim (λ b. p.kept ((at + i) * n + d) (λ k s z. other (at + i) (at + k) l (omega arith) (omega arith) (z ∙ omega (arith, add-mul at k n))) ∙ w.done d i b t) (λ b.
            let e : d ≡ c = omega arith in
            let here : at * n + c + i * n ≡ (at + i) * n + c = omega (arith, add-mul at i n) in
            rw e (rw here at (p.done i t))) (below_or d c);
        before = λ j h. p.kept j (λ k s. omega arith) ∙ w.before j h;
        behind = λ j h. p.kept j (λ k s. omega (arith, mul-le-mul_right n s, add-mul at m n)) ∙ w.behind j h;
      }

-- ---- all channels
module _ {n samples : ℕ} {part : Part} {start size out : ℕ} (a : PutArgs n samples part start size out) where
  pub channel_args : (c : ℕ) → c < n → samples < 2 ^ 64 → ChannelArgs n c part.from part.to start size (part.at * n + c) out
  channel_args c h s =
      record {
        six = a.six;
        channel = h;
        order = a.order;
        small = omega (arith, a.there);
        begins = a.begins;
        covers = a.covers;
        lent = omega (arith, a.lent, add-mul part.at (part.to - part.from) n);
        room = omega (arith, a.small, a.six);
      }

  module _ (bits : ℕ) (window table old new : List ℕ) (each : Bytes window) (o : Ordering (bit_order bits) table) (lent : length old ≡ out) where
    abbrev byte : ℕ → ℕ
    byte = turn_byte (window_data window start) n bits samples

    abbrev m : ℕ
    m = part.to - part.from

    abbrev cells : List ℕ
    cells = tabulate byte (part.from * n) (m * n)

    data_cell : (c i : ℕ) → c < n → i < m → table_byte window table n start c part.from i ≡ byte ((part.from + i) * n + c)
    unfolding table_byte turn_byte sample_byte
    data_cell c i h l =
        let at = data_place n c (part.from + i) - start in
        rw (quotient (part.from + i) n c h, remainder (part.from + i) n c h, lt-ltb (part.from + i) (samples / 8) (omega (arith, a.there)))
        (o.is (get_or window at 0) (each.each at) ∙ ordered_is bits (get_or window at 0))

    pub stretch_is : Placed n part.at m n (λ d. table_byte window table n start d part.from) old new
        → new ≡ with_text old (part.at * n) (stretch (window_data window start) n bits samples part.from part.to)
    unfolding stretch
    stretch_is w =
        let long : length cells ≡ m * n = length_tabulate byte (part.from * n) (m * n) in
        let ends : part.at * n + m * n ≡ (part.at + m) * n = sym (add-mul part.at m n) in
        is_with_text old new cells (part.at * n) (omega (arith, long, ends, a.lent)) w.same w.before
        (λ k h. inside k (omega (arith, long))) (λ j h. w.behind j (omega (arith, long, ends)))
      where
        inside : (k : ℕ) → k < m * n → get_or new (part.at * n + k) 0 ≡ get_or cells k 0
        inside k h =
            let some : 0 < n = a.one in
            let c : k % n < n = mod-lt k some in
            let i : k / n < m = (div-lt_iff_lt-mul some).1 h in
            let here : (part.at + k / n) * n + k % n ≡ part.at * n + k = omega (arith, add-mul part.at (k / n) n, div-add-mod' k n) in
            let there : (part.from + k / n) * n + k % n ≡ part.from * n + k = omega (arith, add-mul part.from (k / n) n, div-add-mod' k n) in
            ap (λ (x : ℕ). get_or new x 0) (sym here) ∙ w.done (k % n) (k / n) c i ∙ data_cell (k % n) (k / n) c i ∙ ap byte there
            ∙ sym (get_d_tabulate byte (part.from * n) (m * n) k 0 h)
