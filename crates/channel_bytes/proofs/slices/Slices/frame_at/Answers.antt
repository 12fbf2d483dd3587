use Rattle.std.proofs.Common.{◌≡◌, ◌+◌, ◌-◌, ◌*◌, ◌/◌, refl, arith, eq-eqb, ne_eqb, le-leb}
use borrow.Author.Tests.{lt-leb}
use Rattle.reference.specs.Frames.{frame}
use Rattle.channel_bytes.specs.inner.Lent.{frame_part}
use Rattle.channel_bytes.proofs.slices.Slices.frame_at.Goals as goal

pub returns-then-q-eq0 : goal.returns-then-q-eq0
unfolding frame_part
returns-then-q-eq0 c = rw (eq-eqb _ _ c.if-q-eq0.true) refl

pub returns-then-q-self : goal.returns-then-q-self
unfolding frame_part frame
returns-then-q-self c =
    let s = c.args.self.now in
    let start = (c.args.position / 4704 - 1) * (4704 * s.channels) in
    let e : start + 4704 * s.channels - start ≡ 4704 * s.channels = omega arith in
    rw (e, ne_eqb _ _ c.if-q-eq0.false, le-leb _ _ c.if-q-self.true) refl

pub returns-then-q-self-2 : goal.returns-then-q-self-2
unfolding frame_part
returns-then-q-self-2 c = rw (ne_eqb _ _ c.if-q-eq0.false, lt-leb _ _ c.if-q-self.false, eq-eqb _ _ c.if-q-self-2.true) refl

pub returns : goal.returns
unfolding frame_part
returns c = rw (ne_eqb _ _ c.if-q-eq0.false, lt-leb _ _ c.if-q-self.false, ne_eqb _ _ c.if-q-self-2.false) refl
