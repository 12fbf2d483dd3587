-- Laws of cutting the first line at its blanks.
use Rattle.std.proofs.Common.{◌≡◌, refl, sym, ap, ◌∙◌, subst, Bool, true, false, cond, List, ◌∷◌, ◌++◌, append-nil, ℕ, arith, Some, None}
use Rattle.std.specs.Str.{bytes_eq}
use Rattle.reference.specs.declared.PcmRate.{PcmRate}
use Rattle.reference.specs.declared.PcmRate.TheVariants.{Hz88200, Hz176400, Hz352800}
use Rattle.reference.specs.declared.Cutoff.{Cutoff}
use Rattle.reference.specs.declared.Cutoff.TheVariants.{Standard, Low, Wide}
use Rattle.text.specs.Text.{text, joined, decimal, signed_decimal}
use Rattle.text.proofs.Numerals.{all_digits}
use Rattle.level_settings.specs.Settings.{rate_text, cutoff_text, settings_line, InRange, LineRead}
use Rattle.level_settings.specs.inner.Settings.{rate_named, cutoff_named}
use Rattle.level_settings.specs.inner.Reading.{ChannelsRead, DecibelsRead}
use Rattle.text.specs.inner.Lists.{Without}
use Rattle.text.proofs.Cuts.{without, cut, uncut}
use Rattle.level_settings.specs.declared.LineSettings.{LineSettings}
use Rattle.text.proofs.Options.{no_some, some_is}
use Rattle.level_settings.proofs.Words.{word_is}

-- ---- texts without a blank

rate_plain : (r : PcmRate) → Without 32 (rate_text r)
unfolding rate_text text
rate_plain Hz88200 = without 32 _ refl
rate_plain Hz176400 = without 32 _ refl
rate_plain Hz352800 = without 32 _ refl

cutoff_plain : (c : Cutoff) → Without 32 (cutoff_text c)
unfolding cutoff_text text
cutoff_plain Standard = without 32 _ refl
cutoff_plain Low = without 32 _ refl
cutoff_plain Wide = without 32 _ refl

number_plain : (n : ℕ) → Without 32 (decimal n)
number_plain n = record { none = λ k h q. omega (arith, all_digits n k h) }

-- ---- names

pub rate_is : (w : List ℕ) (r : PcmRate) → Some r ≡ rate_named w → w ≡ rate_text r
unfolding rate_named
rate_is w r e = go (bytes_eq w (rate_text Hz88200)) (bytes_eq w (rate_text Hz176400)) (bytes_eq w (rate_text Hz352800)) refl refl refl e
  where
    go : (a b c : Bool) → bytes_eq w (rate_text Hz88200) ≡ a → bytes_eq w (rate_text Hz176400) ≡ b → bytes_eq w (rate_text Hz352800) ≡ c
        → Some r ≡ cond a (Some Hz88200) (cond b (Some Hz176400) (cond c (Some Hz352800) None)) → w ≡ rate_text r
    go true b c p q s e = rw (some_is e) (word_is refl (sym p))
    go false true c p q s e = rw (some_is e) (word_is refl (sym q))
    go false false true p q s e = rw (some_is e) (word_is refl (sym s))
    go false false false p q s e = no_some (sym e)

pub rate_back : (r : PcmRate) → rate_named (rate_text r) ≡ Some r
unfolding rate_named rate_text text
rate_back Hz88200 = refl
rate_back Hz176400 = refl
rate_back Hz352800 = refl

pub cutoff_is : (w : List ℕ) (r : Cutoff) → Some r ≡ cutoff_named w → w ≡ cutoff_text r
unfolding cutoff_named
cutoff_is w r e = go (bytes_eq w (cutoff_text Standard)) (bytes_eq w (cutoff_text Low)) (bytes_eq w (cutoff_text Wide)) refl refl refl e
  where
    go : (a b c : Bool) → bytes_eq w (cutoff_text Standard) ≡ a → bytes_eq w (cutoff_text Low) ≡ b → bytes_eq w (cutoff_text Wide) ≡ c
        → Some r ≡ cond a (Some Standard) (cond b (Some Low) (cond c (Some Wide) None)) → w ≡ cutoff_text r
    go true b c p q s e = rw (some_is e) (word_is refl (sym p))
    go false true c p q s e = rw (some_is e) (word_is refl (sym q))
    go false false true p q s e = rw (some_is e) (word_is refl (sym s))
    go false false false p q s e = no_some (sym e)

pub cutoff_back : (c : Cutoff) → cutoff_named (cutoff_text c) ≡ Some c
unfolding cutoff_named cutoff_text text
cutoff_back Standard = refl
cutoff_back Low = refl
cutoff_back Wide = refl

-- ---- a line's fields

after_cutoff : LineSettings → List ℕ
after_cutoff s = decimal s.channels ++ (32 ∷ signed_decimal s.db)

after_rate : LineSettings → List ℕ
after_rate s = cutoff_text s.cutoff ++ (32 ∷ after_cutoff s)

by_fields : (s : LineSettings) → settings_line s ≡ rate_text s.rate ++ (32 ∷ after_rate s)
unfolding settings_line joined after_rate after_cutoff
by_fields s = rw append-nil

refused : {line : List ℕ} → ((s : LineSettings) → InRange s → line ≡ settings_line s → ⊥) → LineRead line None
refused never = record { takes = λ s o e. absurd (never s o e); takes_only = λ s e. no_some e }

pub no_first : {line : List ℕ} → Without 32 line → LineRead line None
no_first p = refused (λ s o e. uncut 32 _ _ _ p (e ∙ by_fields s))

module _ {line : List ℕ} (w rest : List ℕ) (p : Without 32 w × (line ≡ w ++ (32 ∷ rest))) where
  first : (s : LineSettings) → line ≡ settings_line s → (w ≡ rate_text s.rate) × (rest ≡ after_rate s)
  first s e = cut 32 w (rate_text s.rate) rest (after_rate s) p.0 (rate_plain s.rate) (sym p.1 ∙ e ∙ by_fields s)

  pub no_rate : None ≡ rate_named w → LineRead line None
  no_rate n = refused (λ s o e. no_some (n ∙ ap rate_named (first s e).0 ∙ rate_back s.rate))

  pub no_second : Without 32 rest → LineRead line None
  unfolding after_rate
  no_second q = refused (λ s o e. uncut 32 _ _ _ q (first s e).1)

  module _ (v rest' : List ℕ) (q : Without 32 v × (rest ≡ v ++ (32 ∷ rest'))) where
    second : (s : LineSettings) → line ≡ settings_line s → (v ≡ cutoff_text s.cutoff) × (rest' ≡ after_cutoff s)
    unfolding after_rate
    second s e = cut 32 v (cutoff_text s.cutoff) rest' (after_cutoff s) q.0 (cutoff_plain s.cutoff) (sym q.1 ∙ (first s e).1)

    pub no_cutoff : None ≡ cutoff_named v → LineRead line None
    no_cutoff n = refused (λ s o e. no_some (n ∙ ap cutoff_named (second s e).0 ∙ cutoff_back s.cutoff))

    pub no_third : Without 32 rest' → LineRead line None
    unfolding after_cutoff
    no_third t = refused (λ s o e. uncut 32 _ _ _ t (second s e).1)

    module _ (u last : List ℕ) (t : Without 32 u × (rest' ≡ u ++ (32 ∷ last))) where
      third : (s : LineSettings) → line ≡ settings_line s → (u ≡ decimal s.channels) × (last ≡ signed_decimal s.db)
      unfolding after_cutoff
      third s e = cut 32 u (decimal s.channels) last (signed_decimal s.db) t.0 (number_plain s.channels) (sym t.1 ∙ (second s e).1)

      pub no_channels : ChannelsRead u None → LineRead line None
      no_channels r = refused (λ s o e. no_some (r.takes s.channels o.one o.two (third s e).0))

      pub no_gain : DecibelsRead last None → LineRead line None
      no_gain r = refused (λ s o e. no_some (r.takes s.db o.lowest o.highest (third s e).1))

      pub taken : (s : LineSettings) → Some s.rate ≡ rate_named w → Some s.cutoff ≡ cutoff_named v → ChannelsRead u (Some s.channels) → DecibelsRead last (Some s.db)
          → LineRead line (Some s)
      unfolding after_rate after_cutoff
      taken s a b c d =
          let one = c.takes_only s.channels refl in
          let db = d.takes_only s.db refl in
          record {
            takes = λ x o e.
                let f : s.rate ≡ x.rate = some_is (a ∙ ap rate_named (first x e).0 ∙ rate_back x.rate) in
                let g : s.cutoff ≡ x.cutoff = some_is (b ∙ ap cutoff_named (second x e).0 ∙ cutoff_back x.cutoff) in
                let h : s.channels ≡ x.channels = some_is (c.takes x.channels o.one o.two (third x e).0) in
                let i : s.db ≡ x.db = some_is (d.takes x.db o.lowest o.highest (third x e).1) in
                ap Some (λ j. record { rate = f j; cutoff = g j; channels = h j; db = i j });
            takes_only = λ x e.
                let same : s ≡ x = some_is e in
                subst (λ (y : LineSettings). InRange y × (line ≡ settings_line y)) same (
                  record { one = one.0; two = one.1; lowest = db.0; highest = db.1 },
                  p.1 ∙ rw (q.1, t.1, rate_is w s.rate a, cutoff_is v s.cutoff b, one.2, db.2, by_fields) refl,
                );
          }
