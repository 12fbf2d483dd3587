use Rattle.std.proofs.Common.{◌+◌, ◌-◌, ◌/◌, ◌≡◌, arith}
use Rattle.channel_bytes.proofs.Frames.{part_length, gathered}
use Rattle.channel_bytes.proofs.slices.Slices.gather.Goals as goal

pub copy-requires : goal.copy-requires
copy-requires c =
    (omega arith, omega arith, omega arith, part_length c.args.self.now.lent ((c.args.position + c.loop-k.k) / 4704) c.frame_at-part.ensures)

pub loop-k-preserved : goal.loop-k-preserved
loop-k-preserved c =
    let e : c.loop-k.k + c.min.result - c.loop-k.k ≡ c.min.result = omega arith in (
      omega arith,
      rw e (gathered c.args.self.now.lent c.args.channel c.args.position c.loop-k.k c.min.result (omega arith) (omega arith)
          (omega arith) (omega arith) c.frame_at-part.ensures c.loop-k.invariant.1 (record { is = λ j l. c.copy.ensures.is j (omega arith) })),
    )
