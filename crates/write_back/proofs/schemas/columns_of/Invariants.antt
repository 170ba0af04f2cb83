use Rattle.std.proofs.Common.{◌≡◌, take}
use Rattle.std.specs.List.{flat_map}
use Rattle.write_back.specs.Schemas.{field_columns}
use Rattle.write_back.proofs.schemas.columns_of.Given as goal

-- the columns of the fields so far
abbrev pub invariant-loop-field : goal.invariant-loop-field
invariant-loop-field l = l.columns ≡ flat_map field_columns (take l.field-index l.fields)
