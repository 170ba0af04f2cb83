-- The schema of a set's table.
use Rattle.std.specs.Prelude.{ℕ, List, [], ◌∷◌, ◌++◌, map, codes, decimal, slice_get}
use Rattle.std.specs.List.{flat_map, range_with_len}
use Rattle.std.specs.Option.{option_map, unwrap_or}
use Rattle.type_rules.specs.declared.types.BlockShape.{BlockShape}
use Rattle.type_rules.specs.declared.types.BlockShape.TheVariants.{Number, Vector, Matrix}
use Rattle.typed_tree.specs.declared.program.TypedField.{TypedField}
use Rattle.typed_tree.specs.declared.program.TypedProgram.{TypedProgram}
use Rattle.typed_tree.specs.Names.{Name}
use Rattle.block_types.specs.Readings.{set_fields}
use Rattle.block_types.specs.WellDeclared.{arity}
use Rattle.set_tables.specs.declared.schema.Column.{Column}
use Rattle.set_tables.specs.declared.schema.Schema.{Schema}

-- the heading of an entry: that of what it belongs to, a point, and its index in decimal
abbrev pub entry_heading : Name → ℕ → Name
entry_heading heading index = heading ++ codes "." ++ decimal index

abbrev pub column : ℕ → Name → Column
column scale heading = record { heading = heading; scale = scale }

-- the columns of so many entries
abbrev pub entry_columns : ℕ → Name → ℕ → List Column
entry_columns scale heading count = map (λ index. column scale (entry_heading heading index)) (range_with_len 0 count)

-- the columns of a block: one for a number, and otherwise one for each entry, those of a matrix row by row
abbrev pub block_columns : ℕ → Name → BlockShape → List Column
block_columns scale name Number = column scale name ∷ []
block_columns scale name (Vector side) = entry_columns scale name side
block_columns scale name (Matrix rows columns) = flat_map (λ row. entry_columns scale (entry_heading name row) columns) (range_with_len 0 rows)

abbrev pub field_columns : TypedField → List Column
field_columns field = block_columns field.scale field.name field.block

-- the name of a set; empty where there is no such set
abbrev pub set_name : TypedProgram → ℕ → Name
set_name program set = unwrap_or (option_map (λ s. s.name) (slice_get program.sets set)) []

-- a set's name, how many endpoints its elements have, and the columns of its fields
unfoldable pub schema_of : TypedProgram → ℕ → Schema
schema_of program set = record {
  name = set_name program set;
  arity = arity program set;
  columns = flat_map field_columns (set_fields program set);
}
