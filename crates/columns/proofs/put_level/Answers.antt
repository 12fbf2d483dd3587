-- `put_level`: as many blanks as are left, and the text.
use Rattle.std.proofs.Common.{◌≡◌, ◌∙◌, ap, arith, rules, length, ℕ, ◌-◌, w64, to_z, of_z}
use lib.ListN.{length-replicate}
use Rattle.columns.specs.Columns.{level_text}
use Rattle.columns.proofs.Widths.{in_column, column_end, no_level, some_level}
use Rattle.columns.proofs.put_level.Goals as goal

pub put-requires : goal.put-requires
put-requires c =
    let e = ap (λ x. length (level_text x)) c.in-None.is ∙ ap length no_level in
    let b = c.put_blanks.ensures in
    omega (arith, length-replicate {A = ℕ} (12 - c.width_of.result) 32)

pub signed-requires : goal.signed-requires
signed-requires c =
    let own : to_z w64 (of_z w64 c.in-Some.z) ≡ c.in-Some.z = search rules in
    let e = ap (λ x. length (level_text x)) c.in-Some.is ∙ ap length (some_level c.in-Some.z) in
    let b = c.put_blanks.ensures in
    rw own (omega (arith, length-replicate {A = ℕ} (12 - c.width_of.result) 32))

pub returns-in-None-clause-printed : goal.returns-in-None-clause-printed
returns-in-None-clause-printed c =
    let e = c.in-None.is in
    in_column c.width_of.ensures c.requires.0 c.put_blanks.ensures (rw (e, no_level) c.put.ensures)

pub returns-in-None-clause-value : goal.returns-in-None-clause-value
returns-in-None-clause-value c = column_end _ (returns-in-None-clause-printed c) c.requires.0

pub returns-in-Some-clause-printed : goal.returns-in-Some-clause-printed
returns-in-Some-clause-printed c =
    let own : to_z w64 (of_z w64 c.in-Some.z) ≡ c.in-Some.z = search rules in
    let t = rw own at c.signed.ensures in
    in_column c.width_of.ensures c.requires.0 c.put_blanks.ensures (rw (c.in-Some.is, some_level) t)

pub returns-in-Some-clause-value : goal.returns-in-Some-clause-value
returns-in-Some-clause-value c = column_end _ (returns-in-Some-clause-printed c) c.requires.0
