use Rattle.std.proofs.Common.{◌∙◌, sym, refl}
use Rattle.dsf_why.proofs.Fields.{found_here, passed, readable_here, readable_later, none_left}
use Rattle.dsf_why.proofs.unfit.Goals as goal

pub told-requires : goal.told-requires
told-requires c = readable_here c.args.fields.now c.loop-field.field-index _ c.loop-field-test.true c.loop-field.invariant.1

pub returns-then-not-fits : goal.returns-then-not-fits
returns-then-not-fits c =
    rw (c.told.ensures, c.loop-field.invariant.0, found_here c.args.head.now c.args.fields.now c.loop-field.field-index _ c.loop-field-test.true (sym c.fits.ensures ∙ c.if-not-fits.true)) refl

pub loop-field-preserved : goal.loop-field-preserved
loop-field-preserved c =
    let i = c.loop-field.invariant in
    let m = c.loop-field-test.true in (
      i.0 ∙ passed c.args.head.now c.args.fields.now c.loop-field.field-index _ m (sym c.fits.ensures ∙ c.if-not-fits.false),
      readable_later c.args.fields.now c.loop-field.field-index i.1,
    )

pub returns : goal.returns
returns c = rw (c.loop-field.invariant.0, none_left c.args.head.now c.args.fields.now c.loop-field.field-index c.loop-field-test.false) refl
