-- `read_line` meets its contract.
use Rattle.std.proofs.Common.{arith}
use Rattle.level_input.proofs.Coming.{nothing_came, none_came, newline_came, byte_came, full}
use Rattle.level_input.proofs.read_line.Goals as goal

pub loop-n-init : goal.loop-n-init
loop-n-init g c = nothing_came _ _

pub returns-then-got-eq0-clause-line : goal.returns-then-got-eq0-clause-line
returns-then-got-eq0-clause-line g c =
    none_came c.loop-n.line _ _ _ _ c.loop-n.n _ c.in_ok-got.got c.loop-n.invariant (omega arith) (omega arith) c.fill.auto.bytes c.in_ok-got.ensures.bytes
    c.if-got-eq0.true (c.in_ok-got.ensures.end (omega arith))

pub returns-then-line-n-eq10-clause-line : goal.returns-then-line-n-eq10-clause-line
returns-then-line-n-eq10-clause-line g c =
    newline_came c.loop-n.line _ _ _ _ c.loop-n.n _ c.in_ok-got.got c.loop-n.invariant (omega arith) (omega arith) c.fill.auto.bytes c.in_ok-got.ensures.bytes
    c.if-got-eq0.false c.if-line-n-eq10.true

pub loop-n-preserved : goal.loop-n-preserved
loop-n-preserved g c =
    byte_came c.loop-n.line _ _ _ _ c.loop-n.n _ c.in_ok-got.got c.loop-n.invariant (omega arith) (omega arith) c.fill.auto.bytes c.in_ok-got.ensures.bytes
    c.if-got-eq0.false c.if-line-n-eq10.false

pub returns-clause-line : goal.returns-clause-line
returns-clause-line g c = full _ _ _ c.loop-n.n c.loop-n.invariant (omega arith)
