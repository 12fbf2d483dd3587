-- The fields so far have a value.
use Rattle.std.proofs.Common.{◌≡◌, true, map, drop}
use Rattle.dsf_why.specs.inner.Fields.{field_of}
use Rattle.dsf_why.specs.Why.{first_unfit}
use Rattle.dsf_why.specs.inner.Why.{all_readable}
use Rattle.dsf_why.proofs.unfit.Given as goal

abbrev pub invariant-loop-field : goal.invariant-loop-field
invariant-loop-field l =
    (first_unfit l.head (map field_of l.fields) ≡ first_unfit l.head (map field_of (drop l.field-index l.fields)))
    × (all_readable (map field_of (drop l.field-index l.fields)) ≡ true)
