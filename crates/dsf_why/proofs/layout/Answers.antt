use Rattle.text.specs.Text.{text}
use Rattle.text.specs.Bytes.{bytes}
use Rattle.dsf.specs.Dsf.{pairs, orders, layout}
use Rattle.dsf_why.proofs.layout.Goals as goal

pub returns : goal.returns
unfolding text bytes layout pairs orders
returns c = c.unfit.ensures
