use Rattle.std.proofs.Common.{rules, ◌∙◌, List, ℕ, Bor}
use Rattle.std.proofs.lemmas.Iterator.{YieldsList-from_slice}
use Rattle.std.proofs.lemmas.Iterator.Search.{any_from_yields_List}
use Rattle.dsf.specs.Dsf.{fixed, fits}
use Rattle.dsf_why.proofs.Fields.{any_held}
use Rattle.dsf_why.proofs.table.fits.Goals as goal

pub returns : goal.returns
unfolding fits
returns c =
    let field = c.args.field.now in
    any_from_yields_List (λ (v : Bor (List ℕ)). fits c.args.file.now (fixed field.start v.now)) c.any.new.self _ _ c.any.ensures.ran
    (YieldsList-from_slice field.values.now cc) (λ x b q k. search rules)
    ∙ any_held c.args.file.now field.start field.values.now
