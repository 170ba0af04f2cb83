-- What the program answers to its command words and to the files that they name.
use Rattle.std.specs.Prelude.{ℕ, ◌==◌, List, [], ◌∷◌, ◌++◌, length, Option, Result, Ok, Err, if◌then◌else◌}
use Rattle.std.specs.Result.{result_map_both}
use Rattle.hypergraph.specs.SetValue.{SetValue}
use Rattle.hypergraph.specs.Sets.{count_over}
use Rattle.typed_tree.specs.declared.program.TypedProgram.{TypedProgram}
use Rattle.block_types.specs.Readings.{over}
use Rattle.host_table.specs.declared.table.HostName.{HostName}
use Rattle.algebra_meaning.specs.Linked.{LinkedProgram, linked}
use Rattle.set_tables.specs.Table.{table_set}
use Rattle.set_tables.specs.declared.faults.TableFault.{TableFault}
use Rattle.write_back.specs.Schemas.{schema_of}
use Rattle.command_words.specs.Commands.{words_of}
use Rattle.command_words.specs.declared.command.Words.{Words}
use Rattle.command_words.specs.declared.command.Words.TheVariants.{Run, Plan, Plain, Make}
use Rattle.command_words.specs.declared.command.WordsFault.{WordsFault}
use Rattle.simit_run.specs.Hosts.{Hosts}
use Rattle.simit_run.specs.MadeJob.{made_line}
use Rattle.simit_run.specs.Output.{chosen_in, output_of}
use Rattle.simit_run.specs.ProgramText.{typed_of}
use Rattle.simit_run.specs.Stage.{Stage, decided, file, fold_stages, ◌>>=◌}
use Rattle.run_notes.specs.declared.role.FileRole.TheVariants as role
use Rattle.run_notes.specs.declared.failure.Refusal.{Refusal}
use Rattle.run_notes.specs.declared.failure.Refusal.TheVariants as refusal
use Rattle.run_notes.specs.declared.failure.Refusal.TheVariants.{NotYet, FileCount, Table}

-- the typed program that the file of a name states, by the names of the host functions
unfoldable pub program_stage : List HostName → List ℕ → Stage TypedProgram
program_stage hosts name = file role.Program name >>= λ source. decided (typed_of hosts source)

-- the names of the tables' files, where there are as many as sets
unfoldable pub names_for : TypedProgram → List (List ℕ) → Result (List (List ℕ)) Refusal
names_for program tables =
    if length tables == length program.sets then Ok tables
    else Err (FileCount (length tables) (length program.sets))

-- the fault of the table of a set's number, as a refusal
abbrev pub table_answer : {A : Type 0} → ℕ → Result A TableFault → Result A Refusal
table_answer number result = result_map_both (λ x. x) (λ fault. Table number fault) result

-- the set of a number that a table's bytes state, among the sets before it
abbrev pub set_of_number : TypedProgram → List SetValue → ℕ → List ℕ → Result SetValue Refusal
set_of_number program sets number bytes =
    table_answer number (table_set (schema_of program number) (over program number) (count_over sets (over program number)) bytes)

-- the set that a table's bytes state, after the sets that were read before it
abbrev pub set_in : TypedProgram → List SetValue → List ℕ → Result SetValue Refusal
set_in program sets bytes = set_of_number program sets (length sets) bytes

-- the set that the next table's file states, after the sets that were read before it
unfoldable pub set_stage : TypedProgram → List SetValue → List ℕ → Stage SetValue
set_stage program sets name = file (role.Table (length sets)) name >>= λ bytes. decided (set_in program sets bytes)

-- the sets that were read before it, and that set
abbrev pub with_set : TypedProgram → List SetValue → List ℕ → Stage (List SetValue)
with_set program sets name = set_stage program sets name >>= λ set. decided (Ok (sets ++ set ∷ []))

-- the output of a program with so many turns, of all sets or of the chosen one, from the files of its tables
unfoldable pub tables_stage : LinkedProgram → ℕ → Option ℕ → List (List ℕ) → Stage (List ℕ)
tables_stage program turns chosen tables = do
  names ← decided (names_for program.typed tables)
  sets ← fold_stages (with_set program.typed) [] names
  decided (output_of program turns chosen sets)

-- the same, where the set is chosen by its name
unfoldable pub typed_stage : LinkedProgram → ℕ → Option (List ℕ) → List (List ℕ) → Stage (List ℕ)
typed_stage program turns only tables = decided (chosen_in program.typed only) >>= λ chosen. tables_stage program turns chosen tables

-- the same of the program that a file states
unfoldable pub files_stage : Hosts → List ℕ → ℕ → Option (List ℕ) → List (List ℕ) → Stage (List ℕ)
files_stage hosts name turns only tables = program_stage hosts.names name >>= λ program. typed_stage (linked hosts.answer program) turns only tables

-- the output of a command; by how many workers it runs, how many words they may hold, and whether it runs plainly makes no difference to it
unfoldable pub command_stage : Hosts → Words → Stage (List ℕ)
command_stage hosts (Run program tables workers turns held only) = files_stage hosts program turns only tables
command_stage hosts (Plan program tables held) = decided (Err NotYet)
command_stage hosts (Plain program tables turns only) = files_stage hosts program turns only tables
command_stage hosts (Make seed points workers) = decided (made_line hosts seed points)

-- the command that the words state; no definition runs out of memory
abbrev pub stated : Result Words WordsFault → Result Words Refusal
stated result = result_map_both (λ x. x) (λ fault. refusal.Words) result

-- the program's answer to its words, with what the host brings: its output, or why there is none
unfoldable pub answer_of : Hosts → List (List ℕ) → Stage (List ℕ)
answer_of hosts words = decided (stated (words_of words)) >>= command_stage hosts
