-- The text of an input, out of what its first line sets; and the theorems about it.
use Rattle.std.proofs.Common.{◌≡◌, refl, sym, ap, ap₂, subst, ◌∙◌, Bool, true, false, true≢false, not, ◌&&◌, List, [], ◌∷◌, ◌++◌, ℕ, arith, le-leb, leb, Some}
use Rattle.std.proofs.Common.{None}
use Rattle.std.specs.Str.{bytes_eq}
use Rattle.std.proofs.lemmas.Slice.Eq.{bytes_eq-Decides}
use Rattle.reference.specs.Refusals.{Decision, Datum, rate, cutoff, refused, decide, is_accepted, refusal_number, unsupported, opening_places}
use Rattle.reference.proofs.Promises.{exit_refused}
use Rattle.reference.proofs.Refusals.{at_first, at_next}
use Rattle.level_lines.specs.Lines.{refused_line}
use Rattle.level_settings.specs.Settings.{settings_line, InRange}
use Rattle.level_settings.specs.declared.LineSettings.{LineSettings}
use Rattle.text.proofs.Options.{no_some, some_is}
use Rattle.level_start.specs.Begun.{read_settings, after_line, refused_settings}
use Rattle.level_start.specs.inner.Begun.{InputRead}
use Rattle.level_start.proofs.Line.{high_line, parted}
use Rattle.level_stream.specs.Printed.{report_text, PrintsReport, PrintsApart, OneInput, OneText, WideRefused}

-- ---- a refusal of the table stands alone
pub refused_alone : (s : LineSettings) (rest : List ℕ) {n : ℕ} {x : List Datum} → decide (opening_places (read_settings s)) ≡ refused n x → report_text s rest ≡ refused_line n
unfolding report_text is_accepted
refused_alone s rest e = exit_refused _ _ _ (ap is_accepted e) ∙ ap (λ (d : Decision). refused_line (refusal_number d)) e

-- ---- the text

-- of settings that the first reader's line sets
module _ (first : List ℕ) (s : LineSettings) (rest : List ℕ) (read : InputRead first (Some s)) where
  own_text : PrintsReport (after_line s rest) (report_text s rest)
  own_text =
      let own = read.takes_only s refl in
      record {
        settings = λ s' more i e.
            let one = parted (settings_line s) (settings_line s') rest more (λ k j q. omega (arith, high_line s k j, q)) (high_line s') e in
            let same : s ≡ s' = some_is (read.takes s' own.1.0 i (own.1.1 ∙ ap (λ l. l ++ (10 ∷ own.1.0)) one.0)) in
            ap₂ report_text same one.1;
        other = λ never. absurd (never s rest own.0 refl);
      }

  pub text_of : (printed : List ℕ) → printed ≡ report_text s rest → PrintsApart first rest printed
  text_of printed e = record {
    settings = λ s' more i q.
        let same : s ≡ s' = some_is (read.takes s' more i q) in
        subst (λ x. PrintsReport (after_line x rest) printed) same (subst (PrintsReport (after_line s rest)) (sym e) own_text);
    other = λ never. let own = read.takes_only s refl in absurd (never s own.1.0 own.0 own.1.1);
  }

pub text_of_none : (first rest : List ℕ) → InputRead first None → PrintsApart first rest refused_settings
text_of_none first rest read = record {
  settings = λ s more i e. no_some (read.takes s more i e);
  other = λ never. record { settings = λ s more i e. absurd (never s more i e); other = λ _. refl };
}

-- ---- the theorems

pub one_input : OneInput
one_input input rest printed follows p = record {
  settings = λ s more i e. (p.settings s more i e).settings s rest i refl ∙ ap (report_text s) (sym (follows s more i e));
  other = λ never. (p.other never).other never;
}

pub one_text : OneText
one_text input a b p q = go (bytes_eq a b) refl
  where
    go : (same : Bool) → bytes_eq a b ≡ same → a ≡ b
    go true e = (bytes_eq-Decides a b).0 e
    go false e =
        let differ : a ≡ b → ⊥ = λ r. let t = (bytes_eq-Decides a b).1 r in let z : ◌≡◌ {A = Bool} true false = sym t ∙ e in absurd (true≢false z) in
        let never : (s : LineSettings) (rest : List ℕ) → InRange s → input ≡ after_line s rest → ⊥ =
        λ s rest i r. differ (p.settings s rest i r ∙ sym (q.settings s rest i r)) in
        absurd (differ (p.other never ∙ sym (q.other never)))

pub wide_refused : WideRefused
unfolding opening_places unsupported read_settings
wide_refused s r e f rest printed p =
    let channels : not (leb 1 s.channels && leb s.channels 6) ≡ false = rw (le-leb 1 s.channels r.one, le-leb s.channels 6 (omega (arith, r.two))) refl in
    let wide : unsupported s.rate s.cutoff ≡ true = rw (e, f) refl in
    let refuses : decide (opening_places (read_settings s)) ≡ refused 2 (rate s.rate ∷ cutoff s.cutoff ∷ []) = at_next _ _ channels ∙ at_first _ _ wide in
    p.settings s rest r refl ∙ refused_alone s rest refuses
