use Rattle.std.proofs.Common.{rules, sym, ap, ◌≡◌, ◌∙◌, length, Err}
use Rattle.reference.specs.Refusals.{accepted, is_accepted, error_decision, decide, decision}
use Rattle.reference.proofs.Refusals.{error_refuses}
use Rattle.reference.proofs.Promises.{exit_accepted, exit_refused}
use Rattle.sheet.specs.Promises.{sheet_places}
use Rattle.sheet.proofs.Places.{few, long, fits}
use Rattle.sheet.proofs.level_sheet.Goals as goal

pub returns-in_err-fits : goal.returns-in_err-fits
returns-in_err-fits c =
    let e : decide (sheet_places c.args.channels c.args.stats (length c.args.out.now)) ≡ error_decision c.in_err-fits.field-0.0 = search rules in
    let r : c.from_residual.result ≡ Err c.in_err-fits.field-0.0 = search rules in
    record { decided = ap decision r ∙ sym e; written = sym (exit_refused _ _ _ (ap is_accepted e ∙ error_refuses c.in_err-fits.field-0.0)) }

pub fill-requires : goal.fill-requires
fill-requires c =
    let e : decide (sheet_places c.args.channels c.args.stats (length c.args.out.now)) ≡ accepted = search rules in
    (few _ _ _ e, fits _ _ _ e, long _ _ _ e)

pub returns : goal.returns
returns c =
    let e : decide (sheet_places c.args.channels c.args.stats (length c.args.out.now)) ≡ accepted = search rules in
    record { decided = sym e; written = c.fill.ensures ∙ sym (exit_accepted _ _ _ e) }
