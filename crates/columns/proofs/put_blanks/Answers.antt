-- `put_blanks`: the part that is filled is as many blanks.
use Rattle.std.proofs.Common.{◌≡◌, ◌+◌, ◌-◌, ℕ, refl, arith, rules, length, replicate}
use lib.ListN.{length-replicate}
use Rattle.text.proofs.Printing.{overwritten}
use Rattle.columns.proofs.put_blanks.Goals as goal

pub returns : goal.returns
returns c =
    let size : length c.fill.new.self ≡ c.args.n = search rules in
    let filled : c.fill.new.self ≡ replicate {A = ℕ} c.args.n 32 = search rules in
    let part = overwritten c.args.text.now.out.now c.args.text.now.at (c.args.text.now.at + c.args.n - c.args.text.now.at) filled (omega (arith, length-replicate {A = ℕ} c.args.n 32)) in
    record { same_reference = refl; same_length = search rules; printed = rw (length-replicate {A = ℕ} c.args.n 32) at part }
