use Rattle.std.proofs.Common.{rules, arith, ◌≡◌, ◌+◌, ◌-◌, ◌*◌, take, drop, ap, ◌∙◌}
use Rattle.numbers.proofs.Machine.{val}
use Rattle.first_stage.proofs.Windows.{window_is}
use Rattle.first_stage.proofs.window.Goals as goal

pub returns : goal.returns
returns g c =
    let k = c.args in
    let n : k.at + 2 * g.row.H - k.at ≡ 2 * g.row.H = omega arith in
    let sum : c.from.result ≡ c.table_sum.result = search rules in
    val _ _ c.from.type_inv
    (sum ∙ c.table_sum.ensures ∙ window_is k.tables.now g.row.H k.bytes.now k.at _ (ap (λ m. take m (drop k.at k.bytes.now)) n) (omega arith))
