use Rattle.std.proofs.Common.{arith}
use Rattle.tracks_plan.proofs.reading.reads.Goals as goal

pub overflow_mul-to : goal.overflow_mul-to
overflow_mul-to c = record { fits = omega (arith, c.requires.fits.most, c.last.ensures) }

pub between-requires : goal.between-requires
between-requires c = record { sized = c.requires.sized; few = c.requires.fits.few; most = omega (arith, c.requires.fits.most, c.last.ensures); lent = c.requires.lent }

pub returns : goal.returns
returns c = rw (c.saturating_sub.ensures, c.last.ensures, c.requires.frames) at c.between.ensures
