-- A field of the code's table, as the definition has fields.
use Rattle.std.specs.Prelude.{map}
use Rattle.dsf.specs.Dsf.{Field}
use Rattle.dsf_why.specs.declared.table.Field as code

abbrev pub field_of : code.Field → Field
field_of f = record { start = f.start; values = map (λ v. v.now) f.values.now }
