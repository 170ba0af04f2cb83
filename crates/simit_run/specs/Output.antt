-- What a typed program puts out of the sets that its tables state.
use Rattle.std.specs.Prelude.{ℕ, List, map, length, Option, None, Some, option_map, Result, Ok}
use Rattle.std.specs.List.{flat_map, range_with_len, zip}
use Rattle.std.specs.Option.{ok_or}
use Rattle.vocabulary.specs.Answers.{◌>>=◌}
use Rattle.hypergraph.specs.SetValue.{SetValue}
use Rattle.hypergraph.specs.Sets.{set_at}
use Rattle.typed_tree.specs.declared.program.TypedProgram.{TypedProgram}
use Rattle.algebra_meaning.specs.Linked.{LinkedProgram}
use Rattle.block_types.specs.Readings.{find_set}
use Rattle.set_tables.specs.Output.{table_text}
use Rattle.set_tables.specs.declared.schema.Schema.{Schema}
use Rattle.write_back.specs.Schemas.{schema_of}
use Rattle.simit_run.specs.Running.{sets_after}
use Rattle.simit_run.specs.Schemas.{schema_at}
use Rattle.run_notes.specs.declared.failure.Refusal.{Refusal}
use Rattle.run_notes.specs.declared.failure.Refusal.TheVariants.{NoSuchSet}

-- the schemas of a program's sets, in the order of their declarations
unfoldable pub schemas_of : TypedProgram → List Schema
schemas_of program = map (schema_of program) (range_with_len 0 (length program.sets))

-- the tables of sets, one after another
abbrev pub texts_of : List Schema → List SetValue → List ℕ
texts_of schemas sets = flat_map (λ p. table_text p.0 p.1) (zip schemas sets)

-- the set to which the output is limited: none, or the one of a name
unfoldable pub chosen_in : TypedProgram → Option (List ℕ) → Result (Option ℕ) Refusal
chosen_in program None = Ok None
chosen_in program (Some name) = ok_or (option_map Some (find_set program name)) NoSuchSet

-- the tables of all sets, or of the one that is chosen
abbrev pub chosen_texts : Option ℕ → List Schema → List SetValue → List ℕ
chosen_texts None schemas sets = texts_of schemas sets
chosen_texts (Some number) schemas sets = table_text (schema_at schemas number) (set_at sets number)

-- the text that is put out: the tables of the sets after the program, in the order of their declarations, or of the one that is chosen;
-- or why there is none
unfoldable pub output_of : LinkedProgram → ℕ → Option ℕ → List SetValue → Result (List ℕ) Refusal
output_of program turns chosen sets = sets_after program turns sets >>= λ after. Ok (chosen_texts chosen (schemas_of program.typed) after)
