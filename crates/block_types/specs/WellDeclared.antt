-- What the declarations of a typed program keep.
use Rattle.std.specs.Prelude.{◌≡◌, ℕ, ◌+◌, ◌<◌, ◌≤◌, ◌↔◌, List, length, All, slice_get, Option, Some, None, IsNone, IfSome, Ok}
use Rattle.vocabulary.specs.declared.limits.TheConstants.{MOST_COLUMNS, MOST_ENDPOINTS, MOST_FIELD_SCALE, MOST_SETS}
use Rattle.host_table.specs.declared.table.HostName.{HostName}
use Rattle.sim_syntax.specs.declared.program.Program.{Program}
use Rattle.typed_tree.specs.declared.program.TypedProgram.{TypedProgram}
use Rattle.typed_tree.specs.declared.program.TypedSet.{TypedSet}
use Rattle.typed_tree.specs.Declarations.{columns_of}
use Rattle.typed_tree.specs.Typed.{typed}
use Rattle.block_types.specs.Readings.{over, set_fields}

abbrev pub arity_in : Option TypedSet → ℕ
arity_in None = 0
arity_in (Some set) = set.shape.arity

-- how many endpoints each element of a set has; 0 where there is no such set
abbrev pub arity : TypedProgram → ℕ → ℕ
arity program set = arity_in (slice_get program.sets set)

-- a set has endpoints exactly where it lies over another, which is an earlier one without; and its table is within the limits
pub record IsWellDeclared (program : TypedProgram) (set : ℕ) : Type 0 where
  pub few_endpoints : arity program set ≤ MOST_ENDPOINTS
  pub over_none : IsNone (over program set) ↔ (arity program set ≡ 0)
  pub over_earlier : IfSome (over program set) (λ earlier. (earlier < set) × (arity program earlier ≡ 0))
  pub few_columns : arity program set + columns_of (set_fields program set) ≤ MOST_COLUMNS
  pub scales : All (λ field. field.scale ≤ MOST_FIELD_SCALE) (set_fields program set)

-- the sets are few, and each is declared so
pub record WellDeclared (program : TypedProgram) : Type 0 where
  pub few_sets : length program.sets ≤ MOST_SETS
  pub each : (set : ℕ) → set < length program.sets → IsWellDeclared program set

-- what is typed is well declared
abbrev pub WellDeclaredLaw : Type 0
WellDeclaredLaw = (hosts : List HostName) (tree : Program) (program : TypedProgram) → typed hosts tree ≡ Ok program → WellDeclared program
