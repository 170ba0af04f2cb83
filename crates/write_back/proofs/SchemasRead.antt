-- The schema of a set can be read.
use Rattle.std.proofs.Common.{◌≡◌, ℕ, ◌+◌, ◌^◌, ◌<◌, ◌≤◌, List, length, sym, ap, subst, ◌∙◌}
use Rattle.std.specs.Prelude.{All}
use Rattle.std.specs.List.{flat_map}
use Rattle.vocabulary.specs.declared.limits.TheConstants.{MOST_COLUMNS, MOST_ENDPOINTS, MOST_FIELD_SCALE}
use Rattle.typed_tree.specs.declared.program.TypedProgram.{TypedProgram}
use Rattle.typed_tree.specs.Declarations.{columns_of}
use Rattle.typed_tree.specs.Names.{Name}
use Rattle.block_types.specs.Readings.{set_fields}
use Rattle.block_types.specs.WellDeclared.{IsWellDeclared, arity}
use Rattle.set_tables.specs.Schema.{IsSchema}
use Rattle.set_tables.specs.declared.schema.Column.{Column}
use Rattle.set_tables.specs.declared.schema.Schema.{Schema}
use Rattle.write_back.specs.Schemas.{field_columns, schema_of, set_name}
use Rattle.write_back.proofs.Columns.{count_is, scales_small}

-- a schema of these parts
pub made : (program : TypedProgram) (set : ℕ) (name : Name) (ends : ℕ) (columns : List Column) → name ≡ set_name program set → ends ≡ arity program set
    → columns ≡ flat_map field_columns (set_fields program set) → record { name = name; arity = ends; columns = columns } ≡ schema_of program set
unfolding schema_of
made program set name ends columns name_is ends_is columns_is = λ i. record { name = name_is i; arity = ends_is i; columns = columns_is i }

pub count : (program : TypedProgram) (set : ℕ) (schema : Schema) → schema ≡ schema_of program set → length schema.columns ≡ columns_of (set_fields program set)
unfolding schema_of
count program set schema is = ap (λ (s : Schema). length s.columns) is ∙ count_is (set_fields program set)

pub few : (program : TypedProgram) (set : ℕ) (schema : Schema) → schema ≡ schema_of program set → IsWellDeclared program set
    → schema.arity + length schema.columns ≤ MOST_COLUMNS
unfolding schema_of
few program set schema is declared =
    subst (λ (s : Schema). s.arity + length s.columns ≤ MOST_COLUMNS) (sym is)
    (subst (λ n. arity program set + n ≤ MOST_COLUMNS) (sym (count_is (set_fields program set))) declared.few_columns)

pub readable : (program : TypedProgram) (set : ℕ) (schema : Schema) → schema ≡ schema_of program set → IsWellDeclared program set
    → length schema.name < 2 ^ 32 → All (λ column. length column.heading < 2 ^ 32) schema.columns → IsSchema schema
unfolding schema_of
readable program set schema is declared short_name short_headings = record {
  few_endpoints = subst (λ (s : Schema). s.arity ≤ MOST_ENDPOINTS) (sym is) declared.few_endpoints;
  scales = subst (λ (s : Schema). All (λ (c : Column). c.scale ≤ MOST_FIELD_SCALE) s.columns) (sym is) (scales_small (set_fields program set) declared.scales);
  short_name = short_name;
  short_headings = short_headings;
}
