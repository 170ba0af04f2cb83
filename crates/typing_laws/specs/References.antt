-- What a reference stands for, and the type of its value: a line for each sort of name.
use Rattle.std.specs.Prelude.{◌≡◌, ℕ, List, [], Option, Some, None, Ok}
use Rattle.type_rules.specs.Rules.{part_rule, rank_rule}
use Rattle.type_rules.specs.declared.types.BlockShape.TheVariants.{Number}
use Rattle.type_rules.specs.declared.types.IndexRange.{IndexRange}
use Rattle.type_rules.specs.declared.types.NodeType.{NodeType}
use Rattle.type_rules.specs.declared.types.NodeType.TheVariants.{Local}
use Rattle.typed_tree.specs.declared.environment.Environment.{Environment}
use Rattle.typed_tree.specs.declared.environment.Level.TheVariants.{Main}
use Rattle.typed_tree.specs.declared.expression.Referent.{Referent}
use Rattle.typed_tree.specs.declared.expression.Referent.TheVariants as referent
use Rattle.typed_tree.specs.declared.names.Meaning.{Meaning}
use Rattle.typed_tree.specs.declared.names.Meaning.TheVariants as meaning
use Rattle.typed_tree.specs.Names.{Name, meaning_of}
use Rattle.typed_tree.specs.Lookups.{element_in, fields_of, find_field, over_set}

-- a visible name means this
abbrev pub Means : Environment → Name → Meaning → Type 0
Means env name what = meaning_of env.names name ≡ Some what

-- an element type has a field of this name
abbrev pub HasField : Environment → ℕ → Name → ℕ → NodeType → Type 0
HasField env element name number field = find_field (fields_of env.declarations element) name ≡ Some (number, field)

-- A reference is a name with indices, then maybe a field with indices. The main procedure names whole values alone; in a
-- function the indices name an entry, and before a field an endpoint.
pub data StandsFor (env : Environment) : Name → List IndexRange → Option Name → List IndexRange → Referent → NodeType → Type 0 where
  parameter : (name : Name) (local scale : ℕ) (entry : List IndexRange) (type : NodeType)
      → Means env name (meaning.Parameter local scale) → part_rule None (Local Number scale) [] entry ≡ Ok type
      → StandsFor env name entry None [] (referent.Local local) type
  local_variable : (name : Name) (local : ℕ) (whole : NodeType) (entry : List IndexRange) (type : NodeType)
      → Means env name (meaning.Local local whole) → part_rule None whole [] entry ≡ Ok type
      → StandsFor env name entry None [] (referent.Local local) type
  turn : (name : Name) (local : ℕ) (range : IndexRange) (entry : List IndexRange) (type : NodeType)
      → Means env name (meaning.Turn local range) → part_rule None (Local Number 0) [] entry ≡ Ok type
      → StandsFor env name entry None [] (referent.Turn local range) type
  own_field : (name : Name) (element : ℕ) (places : List IndexRange) (field : Name) (number : ℕ) (f : NodeType) (entry : List IndexRange) (type : NodeType)
      → Means env name (meaning.Own element) → HasField env element field number f → part_rule None f places entry ≡ Ok type
      → StandsFor env name places (Some field) entry (referent.Own number) type
  endpoint_field : (name : Name) (element count : ℕ) (places : List IndexRange) (field : Name) (number : ℕ) (f : NodeType) (entry : List IndexRange) (type : NodeType)
      → Means env name (meaning.Ends element count) → HasField env element field number f → part_rule (Some count) f places entry ≡ Ok type
      → StandsFor env name places (Some field) entry (referent.End number) type
  variable : (name : Name) (number : ℕ) (type : NodeType)
      → Means env name (meaning.Variable number type) → StandsFor env name [] None [] (referent.Variable number) type
  counter : (name : Name) (local : ℕ)
      → Means env name (meaning.Counter local) → StandsFor env name [] None [] (referent.Local local) (Local Number 0)
  set_field : (name : Name) (set : ℕ) (field : Name) (number : ℕ) (f : NodeType)
      → Means env name (meaning.Set set) → env.level ≡ Main → HasField env (element_in env.declarations set) field number f
      → StandsFor env name [] (Some field) [] (referent.Field set number) (over_set set f)

-- a reference that was made of an index expression has as many indices as its view
pub data IsRanked : Option ℕ → NodeType → NodeType → Type 0 where
  no_rank : (type : NodeType) → IsRanked None type type
  has_rank : (rank : ℕ) (view type : NodeType) → rank_rule view rank ≡ Ok type → IsRanked (Some rank) view type
