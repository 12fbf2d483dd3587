use Rattle.std.proofs.Common.{◌∙◌, refl}
use Rattle.dsf_why.proofs.Fields.{first_is, whole_number}
use Rattle.dsf_why.proofs.told.Goals as goal

pub returns : goal.returns
returns c =
    c.wrong.ensures ∙ rw (c.number-value.ensures, c.number.ensures, whole_number, first_is c.args.field.now.values.now _ c.requires.1) refl
