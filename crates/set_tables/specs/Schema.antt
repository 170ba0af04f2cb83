-- What a set's table has to look like, and which sets have such a table.
use Rattle.std.specs.Prelude.{◌≡◌, ◌≤◌, ◌<◌, ◌^◌, ℕ, List, ◌++◌, map, length, All, codes, decimal}
use Rattle.std.specs.List.{range_with_len}
use Rattle.vocabulary.specs.declared.limits.TheConstants.{MOST_ENDPOINTS, MOST_FIELD_SCALE}
use Rattle.hypergraph.specs.SetValue.{SetValue}
use Rattle.set_tables.specs.declared.schema.Column.{Column}
use Rattle.set_tables.specs.declared.schema.Schema.{Schema}

-- the heading of the endpoints at a position: `p` and the position in decimal
abbrev pub endpoint_heading : ℕ → List ℕ
endpoint_heading position = codes "p" ++ decimal position

-- the headings of the endpoints by their positions, and those of columns
abbrev pub endpoint_headings : ℕ → List (List ℕ)
endpoint_headings arity = map endpoint_heading (range_with_len 0 arity)

abbrev pub column_headings : List Column → List (List ℕ)
column_headings columns = map (λ column. column.heading) columns

-- the headings in order: those of the endpoints, and after them the columns' own
abbrev pub headings : Schema → List (List ℕ)
headings schema = endpoint_headings schema.arity ++ column_headings schema.columns

-- the schemas that can be read and written: scales that a field may have, and texts shorter than 2^32 bytes
pub record IsSchema (schema : Schema) : Type 0 where
  pub few_endpoints : schema.arity ≤ MOST_ENDPOINTS
  pub scales : All (λ column. column.scale ≤ MOST_FIELD_SCALE) schema.columns
  pub short_name : length schema.name < 2 ^ 32
  pub short_headings : All (λ column. length column.heading < 2 ^ 32) schema.columns

-- the set has the endpoints and the columns of the schema
pub record Fits (schema : Schema) (set : SetValue) : Type 0 where
  pub same_arity : set.arity ≡ schema.arity
  pub as_many : length set.columns ≡ length schema.columns
