-- What the calls inside this crate know of a program's sets and their tables.
use Rattle.std.specs.Prelude.{◌≡◌, ◌<◌, ◌≤◌, ◌+◌, ℕ, List, All, Option, IfSome, length}
use Rattle.vocabulary.specs.declared.limits.TheConstants.{MOST_COLUMNS}
use Rattle.hypergraph.specs.SetValue.{SetValue, EndpointsBelow}
use Rattle.hypergraph.specs.Sets.{endpoint_bound, set_at}
use Rattle.typed_tree.specs.Declarations.{columns_of}
use Rattle.typed_tree.specs.declared.program.TypedProgram.{TypedProgram}
use Rattle.block_types.specs.Readings.{over, set_fields}
use Rattle.block_types.specs.WellDeclared.{WellDeclared, arity}
use Rattle.set_tables.specs.Output.{table_text}
use Rattle.set_tables.specs.Schema.{Fits, IsSchema}
use Rattle.set_tables.specs.declared.schema.Schema.{Schema}
use Rattle.write_back.specs.Schemas.{schema_of}
use Rattle.simit_run.specs.Schemas.{schema_at}

-- a declared set whose table can be read
pub record IsReadable (program : TypedProgram) (number : ℕ) : Type 0 where
  pub schema : IsSchema (schema_of program number)
  pub few_columns : (schema_of program number).arity + length (schema_of program number).columns ≤ MOST_COLUMNS
  pub columns : length (schema_of program number).columns ≡ columns_of (set_fields program number)

-- a program whose tables can be read, and that can be run on their sets
pub record IsRunnable (program : TypedProgram) : Type 0 where
  pub declared : WellDeclared program
  pub readable : (number : ℕ) → number < length program.sets → IsReadable program number

-- a set is as the one of a number is declared
pub record IsAsDeclared (program : TypedProgram) (number : ℕ) (set : SetValue) : Type 0 where
  pub same_arity : set.arity ≡ arity program number
  pub same_over : set.over ≡ over program number
  pub columns : length set.columns ≡ columns_of (set_fields program number)

-- a set that was read: it is as declared, and its endpoints are elements of a set that was read
pub record IsRead (program : TypedProgram) (sets : List SetValue) (number : ℕ) : Type 0 where
  pub declared : IsAsDeclared program number (set_at sets number)
  pub endpoints_below : EndpointsBelow (set_at sets number) (endpoint_bound sets number)

-- the sets that were read so far are the first ones of the program
pub record AreRead (program : TypedProgram) (sets : List SetValue) : Type 0 where
  pub few : length sets ≤ length program.sets
  pub each : (number : ℕ) → number < length sets → IsRead program sets number

-- sets are those of a program: as many, each as it is declared
pub record SetsFit (program : TypedProgram) (sets : List SetValue) : Type 0 where
  pub as_many : length sets ≡ length program.sets
  pub each : (number : ℕ) → number < length sets → IsAsDeclared program number (set_at sets number)

-- sets have tables of these schemas
pub record HaveTables (schemas : List Schema) (sets : List SetValue) : Type 0 where
  pub as_many : length schemas ≡ length sets
  pub readable : All IsSchema schemas
  pub fit : (number : ℕ) → number < length sets → Fits (schema_at schemas number) (set_at sets number)

-- no text of the sets is longer
abbrev pub IsLongest : List Schema → List SetValue → ℕ → Type 0
IsLongest schemas sets capacity =
    (number : ℕ) → number < length sets → length (table_text (schema_at schemas number) (set_at sets number)) ≤ capacity

-- what an output keeps: it can be put as it stands, within that capacity, and a chosen set is one of its own
pub record IsWritable (chosen : Option ℕ) (schemas : List Schema) (sets : List SetValue) (capacity : ℕ) : Type 0 where
  pub tables : HaveTables schemas sets
  pub longest : IsLongest schemas sets capacity
  pub within : IfSome chosen (λ number. number < length sets)
