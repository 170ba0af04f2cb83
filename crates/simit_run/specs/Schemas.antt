-- The schema of a set's number among those of a program.
use Rattle.std.specs.Prelude.{ℕ, List, [], slice_index_or}
use Rattle.set_tables.specs.declared.schema.Schema.{Schema}

-- one without columns where there is none
abbrev pub schema_at : List Schema → ℕ → Schema
schema_at schemas number = slice_index_or schemas number (record { name = []; arity = 0; columns = [] })
