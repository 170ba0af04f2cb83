-- What is asked of a typed program.
use Rattle.std.specs.Prelude.{ℕ, ◌<◌, ◌^◌, List, [], length, take, position, slice_get, Option, Some, None}
use Rattle.std.specs.Option.{option_and_then}
use Rattle.std.specs.Str.{bytes_eq}
use Rattle.type_rules.specs.declared.types.BlockShape.{BlockShape}
use Rattle.type_rules.specs.declared.types.BlockShape.TheVariants.{Number, Vector, Matrix}
use Rattle.typed_tree.specs.declared.program.ElementType.{ElementType}
use Rattle.typed_tree.specs.declared.program.TypedField.{TypedField}
use Rattle.typed_tree.specs.declared.program.TypedProgram.{TypedProgram}
use Rattle.typed_tree.specs.declared.program.TypedSet.{TypedSet}
use Rattle.typed_tree.specs.Names.{Name}
use Rattle.typed_tree.specs.Declarations.{columns_of}
use Rattle.block_types.specs.declared.readings.FieldShape.{FieldShape}

-- by their names: a set, a function, and the first variable of the main procedure
abbrev pub find_set : TypedProgram → Name → Option ℕ
find_set program name = position (λ set. bytes_eq set.name name) program.sets

abbrev pub find_function : TypedProgram → Name → Option ℕ
find_function program name = position (λ function. bytes_eq function.name name) program.functions

abbrev pub find_variable : TypedProgram → Name → Option ℕ
find_variable program name = position (λ variable. bytes_eq variable.name name) program.variables

-- the set in which the endpoints of a set lie
abbrev pub over : TypedProgram → ℕ → Option ℕ
over program set = option_and_then (λ s. s.shape.over) (slice_get program.sets set)

abbrev pub fields_at : Option ElementType → List TypedField
fields_at None = []
fields_at (Some element) = element.fields

abbrev pub fields_in : TypedProgram → Option TypedSet → List TypedField
fields_in program None = []
fields_in program (Some set) = fields_at (slice_get program.elements set.shape.element)

-- the fields of the elements of a set
abbrev pub set_fields : TypedProgram → ℕ → List TypedField
set_fields program set = fields_in program (slice_get program.sets set)

-- the rows and the columns of a block
abbrev pub high : BlockShape → ℕ
high Number = 1
high (Vector side) = side
high (Matrix rows columns) = rows

abbrev pub wide : BlockShape → ℕ
wide Number = 1
wide (Vector side) = 1
wide (Matrix rows columns) = columns

-- a field's first column comes after those of the fields before it
abbrev pub field_shape : ℕ → List TypedField → ℕ → TypedField → FieldShape
field_shape set fields number field = record {
  set = set;
  column = columns_of (take number fields);
  high = high field.block;
  wide = wide field.block;
  scale = field.scale;
}

-- numbers are stated in 32 bits
pub record Countable (program : TypedProgram) : Type 0 where
  pub sets : length program.sets < 2 ^ 32
  pub functions : length program.functions < 2 ^ 32
  pub variables : length program.variables < 2 ^ 32
