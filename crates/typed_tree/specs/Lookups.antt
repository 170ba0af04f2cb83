-- What is declared, by its number or by its name.
use Rattle.std.specs.Prelude.{ℕ, List, [], position, slice_get, Option, Some, None}
use Rattle.std.specs.Option.{option_map, option_map_or, option_and_then}
use Rattle.std.specs.Str.{bytes_eq}
use Rattle.type_rules.specs.declared.types.NodeType.{NodeType}
use Rattle.type_rules.specs.declared.types.NodeType.TheVariants as type
use Rattle.typed_tree.specs.declared.environment.Declarations.{Declarations}
use Rattle.typed_tree.specs.declared.environment.Environment.{Environment}
use Rattle.typed_tree.specs.declared.function.TypedFunction.{TypedFunction}
use Rattle.typed_tree.specs.declared.names.Meaning.{Meaning}
use Rattle.typed_tree.specs.declared.names.Meaning.TheVariants as meaning
use Rattle.typed_tree.specs.declared.program.ElementType.{ElementType}
use Rattle.typed_tree.specs.declared.program.SetShape.{SetShape}
use Rattle.typed_tree.specs.declared.program.TypedField.{TypedField}
use Rattle.typed_tree.specs.Names.{Name, meaning_of}

-- ---- fields

abbrev pub fields_at : Option ElementType → List TypedField
fields_at None = []
fields_at (Some element) = element.fields

-- the fields of an element type
abbrev pub fields_of : Declarations → ℕ → List TypedField
fields_of declarations element = fields_at (slice_get declarations.elements element)

-- the type of the elements of a set
abbrev pub element_in : Declarations → ℕ → ℕ
element_in declarations set = option_map_or (λ s. s.shape.element) (slice_get declarations.sets set) 0

-- the type of a field of one element
abbrev pub field_type : TypedField → NodeType
field_type field = type.Local field.block field.scale

-- a field by its name: its number and its type
abbrev pub find_field : List TypedField → Name → Option (ℕ × NodeType)
find_field fields name =
    option_and_then (λ number. option_map (λ field. (number, field_type field)) (slice_get fields number)) (position (λ f. bytes_eq f.name name) fields)

-- a value of each element of a set
abbrev pub over_set : ℕ → NodeType → NodeType
over_set set (type.Local block scale) = type.SystemVector set block scale
over_set set value_type = value_type

-- ---- what names stand for

abbrev pub element_meant : Option Meaning → Option ℕ
element_meant (Some (meaning.Element number)) = Some number
element_meant other = None

abbrev pub function_meant : Declarations → Option Meaning → Option (ℕ × TypedFunction)
function_meant declarations (Some (meaning.Function number)) = option_map (λ function. (number, function)) (slice_get declarations.functions number)
function_meant declarations other = None

abbrev pub set_meant : Declarations → Option Meaning → Option (ℕ × SetShape)
set_meant declarations (Some (meaning.Set number)) = option_map (λ set. (number, set.shape)) (slice_get declarations.sets number)
set_meant declarations other = None

-- an element type, a function or a set by its name: its number, and what it is
abbrev pub element_named : Environment → Name → Option ℕ
element_named env name = element_meant (meaning_of env.names name)

abbrev pub function_named : Environment → Name → Option (ℕ × TypedFunction)
function_named env name = function_meant env.declarations (meaning_of env.names name)

abbrev pub set_named : Environment → Name → Option (ℕ × SetShape)
set_named env name = set_meant env.declarations (meaning_of env.names name)
