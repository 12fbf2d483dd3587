-- `half_band`: `out` holds u at even places and `odd` at odd ones, whatever signal the bytes are of, so that `half`
-- gives v.
use Rattle.std.proofs.Common.{arith}
use Rattle.numbers.proofs.Lists.{held_some}
use Rattle.stages.proofs.Arrays.{around, some_signal, asks, v_held, v_small}
use Rattle.stages.proofs.half_band.Goals as goal

pub half-requires : goal.half-requires
half-requires c =
    let at = around c.requires.byte_tables (λ j. (c.type_inv.bytes j).fits) (omega arith) c.first_stage.auto.out
    (omega (arith, c.first_stage-2.auto.out)) c.first_stage.ensures (held_some _ (omega arith) c.first_stage-2.ensures) in
    let a = asks (some_signal at) in
    record {
      lent = c.requires.lent;
      y_in_bounds = (omega (arith, c.first_stage-2.auto.out), omega (arith, c.first_stage-2.auto.out), omega arith);
      low = c.requires.low;
      small = a.0;
      small_2 = a.1.0;
      fit = a.1.1;
    }

pub returns : goal.returns
returns c =
    let at = around c.requires.byte_tables (λ j. (c.type_inv.bytes j).fits) (omega arith) c.first_stage.auto.out
    (omega (arith, c.first_stage-2.auto.out)) c.first_stage.ensures (held_some _ (omega arith) c.first_stage-2.ensures) in
    record {
      still_low = c.half.ensures.still_low;
      small = v_small _ 10 (omega (arith, c.half.auto.y)) (v_held (some_signal at) c.half.ensures.filled);
      by_index = λ β i l held. v_held (at β i l held) c.half.ensures.filled;
    }
