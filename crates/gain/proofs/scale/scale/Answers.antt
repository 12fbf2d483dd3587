use Rattle.std.proofs.Common.{◌≡◌, refl, ◌∙◌, ap, w32, w64, to_z, of_z, to_z-of_z}
use Rattle.reference.specs.Scaling.{scaled, clamp, clips}
use Rattle.gain.proofs.Scaling.{clamp_fits}
use Rattle.gain.proofs.scale.scale.Goals as goal

-- the number before the clamp, and the sample
abbrev number : (c : goal.After-clip-s) → to_z w64 (of_z w64 c.before_clamp-z.result) ≡ scaled c.args.factor c.args.y
number c = to_z-of_z {w = w64} (record { sfits = c.before_clamp-z.type_inv }) ∙ c.before_clamp-z.ensures ∙ ap (scaled c.args.factor) (to_z-of_z c.ranges.y)

abbrev sample : (c : goal.After-clip-s) → to_z w64 (of_z w64 c.clip-s.result) ≡ clamp (scaled c.args.factor c.args.y)
sample c = to_z-of_z {w = w64} (record { sfits = c.clip-s.type_inv }) ∙ c.clip-s.ensures ∙ ap clamp (number c)

pub overflow_cast-result : goal.overflow_cast-result
overflow_cast-result c = rw (sample c) (clamp_fits (scaled c.args.factor c.args.y))

pub returns : goal.returns
unfolding clips
returns c =
    let z = scaled c.args.factor c.args.y in
    rw (sample c, number c) (record { is_sample = to_z-of_z {w = w32} (clamp_fits z); is_clipped = refl })
