use Rattle.std.proofs.Common.{refl, length}
use Rattle.dsf.specs.Reading.{HeadOf}
use Rattle.dsf_upload.proofs.Beginnings.{seen}
use Rattle.dsf_upload.proofs.give_up.Goals as goal

pub returns : goal.returns
returns c =
    let file = c.args.file.now in
    let own : HeadOf file file (length file) = record { begins = refl; long = refl } in
    c.give_up_header.ensures file (record { each = λ i. (c.type_inv.file i).fits }) (seen file file (length file) own)
