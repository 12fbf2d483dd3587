-- `turns` meets its contract.
use Rattle.std.proofs.Common.{refl, sym, ap, ◌∙◌, replicate, arith}
use Rattle.level_turns.specs.inner.Turns.{moment}
use Rattle.level_turns.proofs.Buffer.{first_read, first_end}
use Rattle.level_turns.proofs.Whole.{begins, goes_on, all_told}
use Rattle.level_turns.proofs.turns.Goals as goal

pub loop-init : goal.loop-init
loop-init g c =
    let size = c.size-size.result in (
      c.size-size.ensures.size,
      refl,
      refl,
      omega (arith, c.requires.0),
      begins c.args.report.now.of.conv c.args.report.now.of.opened size c.size-size.ensures.size _ _ _ _ refl c.requires.0 c.requires.1 (omega (arith, c.in_ok-left.ensures.fits)) (omega arith)
          (first_read size c.in_ok-left.left (replicate 28224 0) c.fill.new.bytes (omega (arith, c.size-size.ensures.upper_bound)) c.fill.auto.bytes _ _ c.in_ok-left.ensures.bytes)
          (first_end size c.in_ok-left.left (replicate 28224 0) c.fill.new.bytes (omega (arith, c.size-size.ensures.upper_bound)) c.fill.auto.bytes _ (rw c.fill.auto.bytes c.in_ok-left.ensures.end)),
    )

pub returns-then-window-size : goal.returns-then-window-size
returns-then-window-size g c =
    all_told c.args.report.now.of.conv c.args.report.now.of.opened _ _ _ _ c.loop.invariant.4 (λ e. absurd (c.if-window-size.true (e ∙ sym c.size-size.ensures.size)))

pub loop-preserved : goal.loop-preserved
loop-preserved g c =
    let t = c.in_ok-turn.ensures in
    let i = c.loop.invariant in (
      t.same.0 ∙ i.0,
      omega (arith, i.1, t.turned.frames),
      t.same.1 ∙ i.2,
      t.same.2,
      goes_on c.args.report.now.of.conv c.loop.report.of.conv c.loop.window.size c.args.report.now.of.opened (ap (λ f. f.conv) i.2) i.0
          {m = moment c.loop.window.came.frames c.loop.report.clipped c.loop.report.states c.loop.window.came.left c.loop.window.three.now}
          {next = moment c.turn.new.self.came.frames c.turn.new.report.clipped c.turn.new.report.states c.turn.new.self.came.left c.turn.new.self.three.now}
          (g.R.Read.remaining c.args.from.now) (g.R.Read.remaining c.loop.from) (g.R.Read.remaining c.turn.new.from)
          (g.W.Write.contents c.args.to.now) (g.W.Write.contents c.loop.to) (g.W.Write.contents c.turn.new.to) i.4 t.turned,
    )

pub returns : goal.returns
returns g c =
    all_told c.args.report.now.of.conv c.args.report.now.of.opened _ _ _ _ c.loop.invariant.4
    (λ e. omega (arith, c.loop.invariant.1, c.loop-test.false, c.loop.auto.counter-end))
