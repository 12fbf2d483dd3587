-- `albums_in_range`: one album out of range is enough.
use Rattle.std.proofs.Common.{refl, sym, ◌∙◌}
use Rattle.numbers.specs.Tests.{each_below}
use Rattle.boards.specs.Boards.{board}
use Rattle.boards.proofs.Ranges.{each, one_out, one_more}
use Rattle.boards.proofs.albums_in_range.Goals as goal

pub loop-a-init : goal.loop-a-init
unfolding each_below
loop-a-init c = refl

pub returns-then-not-album_in_range : goal.returns-then-not-album_in_range
returns-then-not-album_in_range c =
    one_out (each (board c.args.frames.now c.args.dues.now 0)) _ c.loop-a.a c.loop-a-test.true (sym c.album_in_range.ensures ∙ c.if-not-album_in_range.true)

pub loop-a-preserved : goal.loop-a-preserved
loop-a-preserved c =
    one_more (each (board c.args.frames.now c.args.dues.now 0)) c.loop-a.a c.loop-a.invariant (sym c.album_in_range.ensures ∙ c.if-not-album_in_range.false)
