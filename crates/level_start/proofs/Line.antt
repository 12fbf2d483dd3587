-- What an input sets, out of its line.
use Rattle.std.proofs.Common.{◌≡◌, refl, sym, ap, ◌∙◌, Bool, true, ◌&&◌, List, [], ◌∷◌, ◌++◌, append_assoc, ⊎_elim, ℕ, zero, suc, ◌≤◌, ◌<◌, arith, ltb-true}
use Rattle.std.proofs.Common.{ltb, leb→le, ℤ, pos, negsuc, length, take, drop, get_or, length-append, get_or-take, length-take-le, take_at, drop_at, take-suc}
use Rattle.std.proofs.Common.{◌≤ℤ◌, Option, Some, None, IfSome}
use mathlib.Core.Bool.{and-eq-true_iff}
use lib.ListN.{get_or-append}
use Rattle.std.specs.Io.KnownBytes.{Appends}
use Rattle.std.proofs.lemmas.List.{get_or_at}
use Rattle.numbers.proofs.Lists.{below_or}
use Rattle.reference.specs.declared.PcmRate.{PcmRate}
use Rattle.reference.specs.declared.PcmRate.TheVariants.{Hz88200, Hz176400, Hz352800}
use Rattle.reference.specs.declared.Cutoff.{Cutoff}
use Rattle.reference.specs.declared.Cutoff.TheVariants.{Standard, Low, Wide}
use Rattle.reference.specs.declared.Converter.{Converter}
use Rattle.text.specs.Text.{text, joined, decimal, signed_decimal}
use Rattle.text.proofs.Numerals.{places, all_digits}
use Rattle.level_settings.specs.Settings.{blank, rate_text, cutoff_text, settings_line, InRange, LineRead}
use Rattle.level_settings.specs.declared.LineSettings.{LineSettings}
use Rattle.text.proofs.Options.{no_some}
use Rattle.level_input.specs.inner.Lines.{NoNewline, Newline, Unended}
use Rattle.level_start.specs.Begun.{after_line, refused_settings}
use Rattle.level_start.specs.inner.Begun.{Begun, InputRead, Starts, leads_to, said}

-- ---- the line of settings in range holds no newline, and is at most 22 bytes long

-- bytes above the newline
abbrev pub High : List ℕ → Type 0
High l = (k : ℕ) → k < length l → 10 < get_or l k 0

high_join : (l m : List ℕ) → High l → High m → High (l ++ m)
high_join [] m h g k j = g k j
high_join (x ∷ l) m h g zero j = h zero (omega arith)
high_join (x ∷ l) m h g (suc k) j = high_join l m (λ i q. h (suc i) (omega arith)) g k (omega arith)

-- the same as a test, for texts that are given
all_high : List ℕ → Bool
all_high [] = true
all_high (x ∷ l) = ltb 10 x && all_high l

high_text : (l : List ℕ) → all_high l ≡ true → High l
unfolding all_high
high_text [] e k j = absurd (omega arith)
high_text (x ∷ l) e zero j = ltb-true 10 x (((and-eq-true_iff (ltb 10 x) (all_high l)).0 e).0)
high_text (x ∷ l) e (suc k) j = high_text l (((and-eq-true_iff (ltb 10 x) (all_high l)).0 e).1) k (omega arith)

high_rate : (r : PcmRate) → High (rate_text r)
unfolding rate_text text all_high
high_rate Hz88200 = high_text (rate_text Hz88200) refl
high_rate Hz176400 = high_text (rate_text Hz176400) refl
high_rate Hz352800 = high_text (rate_text Hz352800) refl

high_cutoff : (c : Cutoff) → High (cutoff_text c)
unfolding cutoff_text text all_high
high_cutoff Standard = high_text (cutoff_text Standard) refl
high_cutoff Low = high_text (cutoff_text Low) refl
high_cutoff Wide = high_text (cutoff_text Wide) refl

high_blank : High blank
unfolding all_high
high_blank = high_text blank refl

high_decimal : (n : ℕ) → High (decimal n)
high_decimal n k j = omega (arith, all_digits n k j)

high_signed : (z : ℤ) → High (signed_decimal z)
unfolding signed_decimal all_high
high_signed (pos n) = high_decimal n
high_signed (negsuc n) = high_join (45 ∷ []) (decimal (suc n)) (high_text (45 ∷ []) refl) (high_decimal (suc n))

pub high_line : (s : LineSettings) → High (settings_line s)
unfolding settings_line joined
high_line s =
    let gain = signed_decimal (s.db) ++ [] in
    let channels = decimal (s.channels) ++ (blank ++ gain) in
    let cutoff = cutoff_text (s.cutoff) ++ (blank ++ channels) in
    let high_gain : High gain = high_join (signed_decimal (s.db)) [] (high_signed (s.db)) (λ k j. absurd (omega arith)) in
    let high_channels : High channels = high_join (decimal (s.channels)) (blank ++ gain) (high_decimal (s.channels)) (high_join blank gain high_blank high_gain) in
    let high_rest : High cutoff = high_join (cutoff_text (s.cutoff)) (blank ++ channels) (high_cutoff (s.cutoff)) (high_join blank channels high_blank high_channels) in
    high_join (rate_text (s.rate)) (blank ++ cutoff) (high_rate (s.rate)) (high_join blank cutoff high_blank high_rest)

rate_long : (r : PcmRate) → length (rate_text r) ≤ 6
unfolding rate_text text
rate_long Hz88200 = omega arith
rate_long Hz176400 = omega arith
rate_long Hz352800 = omega arith

cutoff_long : (c : Cutoff) → length (cutoff_text c) ≤ 8
unfolding cutoff_text text
cutoff_long Standard = omega arith
cutoff_long Low = omega arith
cutoff_long Wide = omega arith

signed_long : (z : ℤ) → negsuc 119 ≤ℤ z → z ≤ℤ pos 24 → length (signed_decimal z) ≤ 4
unfolding signed_decimal
signed_long (pos n) l h = omega (arith, places 1 n (omega (arith, leb→le n 24 (h.le))))
signed_long (negsuc n) l h = omega (arith, places 2 (suc n) (omega (arith, leb→le n 119 (l.le))))

line_long : (s : LineSettings) → InRange s → length (settings_line s) ≤ 22
unfolding settings_line joined
line_long s r =
    let a = length-append (rate_text (s.rate)) (blank ++ (cutoff_text (s.cutoff) ++ (blank ++ (decimal (s.channels) ++ (blank ++ (signed_decimal (s.db) ++ [])))))) in
    let b = length-append (cutoff_text (s.cutoff)) (blank ++ (decimal (s.channels) ++ (blank ++ (signed_decimal (s.db) ++ [])))) in
    let c = length-append (decimal (s.channels)) (blank ++ (signed_decimal (s.db) ++ [])) in
    let d = length-append (signed_decimal (s.db)) [] in
    omega (arith, a, b, c, d, rate_long (s.rate), cutoff_long (s.cutoff), places 0 (s.channels) (omega (arith, r.two)), signed_long (s.db) (r.lowest) (r.highest))

-- ---- the first newline parts an input in one way
pub parted : (l m x y : List ℕ) → ((k : ℕ) → k < length l → get_or l k 0 ≡ 10 → ⊥) → High m → l ++ (10 ∷ x) ≡ m ++ (10 ∷ y) → (l ≡ m) × (x ≡ y)
parted l m x y none high e =
    let at_l : get_or (l ++ (10 ∷ x)) (length l) 0 ≡ 10 = get_or_at l 10 x 0 (length l) refl in
    let at_m : get_or (m ++ (10 ∷ y)) (length m) 0 ≡ 10 = get_or_at m 10 y 0 (length m) refl in
    let not_less : length l < length m → ⊥ = λ j.
    omega (arith, high (length l) j, sym (get_or-append m (10 ∷ y) 0 (length l) j) ∙ ap (λ z. get_or z (length l) 0) (sym e) ∙ at_l) in
    let not_more : length m < length l → ⊥ = λ j.
    none (length m) j (sym (get_or-append l (10 ∷ x) 0 (length m) j) ∙ ap (λ z. get_or z (length m) 0) e ∙ at_m) in
    let same : length l ≡ length m = omega (arith, not_less, not_more) in (
      sym (take_at l (10 ∷ x) (length m) same) ∙ ap (take (length m)) e ∙ take_at m (10 ∷ y) (length m) refl,
      ap (drop 1) (sym (drop_at l (10 ∷ x) (length m) same) ∙ ap (drop (length m)) e ∙ drop_at m (10 ∷ y) (length m) refl),
    )

-- ---- what an input sets, out of its line

-- a line with its newline
module _ (t rest input : List ℕ) (none : (k : ℕ) → k < length t → get_or t k 0 ≡ 10 → ⊥) (is : input ≡ t ++ (10 ∷ rest)) where
  one_line : (s : LineSettings) (more : List ℕ) → input ≡ after_line s more → (t ≡ settings_line s) × (rest ≡ more)
  one_line s more e = parted t (settings_line s) rest more none (high_line s) (sym is ∙ e)

  input_read : (first : Option LineSettings) → LineRead t first → InputRead input first
  input_read first r = record {
    takes = λ s more i e. r.takes s i (one_line s more e).0;
    takes_only = λ s e. let own = r.takes_only s e in (own.0, (rest, is ∙ ap (λ l. l ++ (10 ∷ rest)) own.1));
  }

no_newline : (line : List ℕ) (n : ℕ) → n ≤ length line → NoNewline line n → (k : ℕ) → k < length (take n line) → get_or (take n line) k 0 ≡ 10 → ⊥
no_newline line n inside before k j q =
    let l : k < n = omega (arith, j, length-take-le n line inside) in
    before k l (sym (get_or-take n line k 0 l) ∙ q)

-- a line without its newline
module _ (input line rest : List ℕ) (n : ℕ) (inside : n ≤ length line) (room : length line ≡ 23) (before : NoNewline line n) (is : input ≡ take n line ++ rest)
    (end : n < length line → rest ≡ []) where
  no_line : (s : LineSettings) (more : List ℕ) → InRange s → input ≡ after_line s more → ⊥
  no_line s more r q =
      let p = length (settings_line s) in
      let front_long : length (take n line) ≡ n = length-take-le n line inside in
      let input_long = ap length is ∙ length-append (take n line) rest in
      let line_in = ap length q ∙ length-append (settings_line s) (10 ∷ more) in
      let within : p < n =
      ⊎_elim
      (λ (j : n < 23). omega (arith, front_long, input_long, line_in, ap length (end (omega (arith, j, room)))))
      (λ (j : 23 ≤ n). omega (arith, j, line_long s r))
      (below_or n 23) in
      let front : p < length (take n line) = omega (arith, within, front_long) in
      before p within
      (sym (get_or-take n line p 0 within) ∙ sym (get_or-append (take n line) rest 0 p front) ∙ ap (λ l. get_or l p 0) (sym is ∙ q) ∙ get_or_at (settings_line s) 10 more 0 p refl)

  nothing_set : InputRead input None
  nothing_set = record { takes = λ s more i e. absurd (no_line s more i e); takes_only = λ s e. no_some e }

module _ {answer : Option Converter} (held held' : Option (List ℕ)) where
  pub begun_not : (t : List ℕ) → LineRead t None → (answer ≡ None) × Appends held held' refused_settings → Begun t answer held held'
  unfolding leads_to said
  begun_not t r b = record { first = None; read = r; leads = b.0; wrote = b.1 }

  pub starts : (line : List ℕ) (old new : Option (List ℕ)) (n : ℕ) → Newline line old new n → Begun (take n line) answer held held'
      → IfSome old (λ input. Starts input answer held held')
  starts line None new n l b = tt
  starts line (Some input) None n l b = absurd l.read
  starts line (Some input) (Some rest) n l b =
      let is : input ≡ take n line ++ (10 ∷ rest) =
      l.read ∙ ap (λ z. z ++ rest) (take-suc line n 0 l.inside ∙ ap (λ x. take n line ++ (x ∷ [])) l.newline) ∙ append_assoc (take n line) (10 ∷ []) rest in
      record {
        first = b.first;
        read = input_read (take n line) rest input (no_newline line n (omega (arith, l.inside)) l.before) is b.first b.read;
        leads = b.leads;
        wrote = b.wrote;
      }

  pub starts_not : (line : List ℕ) (old new : Option (List ℕ)) → length line ≡ 23 → Unended line old new → (answer ≡ None) × Appends held held' refused_settings
      → IfSome old (λ input. Starts input answer held held')
  unfolding leads_to said
  starts_not line None new room l b = tt
  starts_not line (Some input) None room l b = absurd l.read
  starts_not line (Some input) (Some rest) room l b =
      record { first = None; read = nothing_set input line rest l.n l.inside room l.before l.read l.end; leads = b.0; wrote = b.1 }
