-- `items` meets its contract: the samples of a frame of one or two channels have room.
use Rattle.std.proofs.Common.{◌≡◌, ℕ, ◌*◌, ◌≤◌, mul-le-mul, arith}
use Rattle.reference.specs.Output.{samples_per_frame}
use Rattle.reference.specs.declared.PcmRate.{PcmRate}
use Rattle.reference.proofs.Frames.{frame_samples}
use Rattle.level_frames.proofs.few.FewChannels.items.Goals as goal

items_fit : (n : ℕ) (rate : PcmRate) (ch : ℕ) → n ≡ samples_per_frame rate → ch ≤ 2 → n * ch ≤ 9408
items_fit n rate ch e few = rw e (mul-le-mul (frame_samples rate) few)

pub overflow_mul-result : goal.overflow_mul-result
overflow_mul-result c =
    let n = c.samples_per_frame in
    record { fits = omega (arith, items_fit n.result _ c.args.self.conv.channels n.ensures c.args.self.few) }

pub returns-clause-upper_bound : goal.returns-clause-upper_bound
returns-clause-upper_bound c =
    let n = c.samples_per_frame in
    items_fit n.result _ c.args.self.conv.channels n.ensures c.args.self.few
