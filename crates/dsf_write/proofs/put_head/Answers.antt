use Rattle.std.proofs.Common.{◌≡◌, ◌*◌, ◌/◌}
use Rattle.dsf.specs.Dsf.{data_bytes}
use Rattle.dsf_write.specs.Written.{head}
use Rattle.dsf_write.proofs.put_head.Goals as goal

pub returns : goal.returns
unfolding head
returns c =
    let e : c.data_bytes-need.result ≡ data_bytes (8 * (c.args.bytes / (4704 * c.args.channels) * 4704)) c.args.channels = c.data_bytes-need.ensures.0 in
    rw e at c.put_header.ensures
