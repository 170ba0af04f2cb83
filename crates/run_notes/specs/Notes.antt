-- The note lines, and what is put of one.
use Rattle.std.specs.Prelude.{◌⊎◌, ℕ, List, [], ◌∷◌, Option, None, Some, codes, decimal}
use Rattle.std.specs.List.{concat}
use Rattle.simit_io.specs.Sink.{Puts, PutsPrefix}
use Rattle.vocabulary.specs.declared.limits.TheConstants.{MOST_ELEMENTS}
use Rattle.ring_words.specs.declared.trap.TrapKind.{TrapKind}
use Rattle.ring_words.specs.declared.trap.TrapKind.TheVariants as trap
use Rattle.algebra_meaning.specs.declared.stopped.Stop.{Stop}
use Rattle.algebra_meaning.specs.declared.stopped.Stop.TheVariants as stop
use Rattle.ring_words.specs.declared.cells.CellFault.{CellFault}
use Rattle.ring_words.specs.declared.cells.CellFault.TheVariants as cell
use Rattle.set_tables.specs.declared.faults.TableFault.{TableFault}
use Rattle.set_tables.specs.declared.faults.TableFault.TheVariants as table
use Rattle.sim_lexer.specs.declared.token.LexFault.{LexFault}
use Rattle.sim_lexer.specs.declared.token.LexFault.TheVariants as fault
use Rattle.type_rules.specs.declared.types.TypeKind.{TypeKind}
use Rattle.type_rules.specs.declared.types.TypeKind.TheVariants as kind
use Rattle.dense_sizes.specs.declared.limit.TheConstants.{MOST_DENSE_WORDS}
use Rattle.run_notes.specs.Limits.{limit_of}
use Rattle.run_notes.specs.Named.{Named}
use Rattle.run_notes.specs.declared.role.FileRole.TheVariants as role
use Rattle.run_notes.specs.declared.failure.Refusal.{Refusal}
use Rattle.run_notes.specs.declared.failure.Refusal.TheVariants as refusal
use Rattle.run_notes.specs.declared.failure.Failure.{Failure}
use Rattle.run_notes.specs.declared.failure.Failure.TheVariants.{Memory, ReadFault, Refused}

abbrev pub usage_note : List ℕ
usage_note = codes "usage: simit run|plan|plain PROGRAM SETS.. or simit make SEED N\n"

abbrev pub memory_note : List ℕ
memory_note = codes "no memory\n"

abbrev pub write_fault_note : List ℕ
write_fault_note = codes "write fault\n"

-- the offset that a lexical fault names
abbrev pub offset_of : LexFault → ℕ
offset_of (fault.BadByte at) = at
offset_of (fault.LongName at) = at
offset_of (fault.TooMany at) = at
offset_of (fault.TooDeep at) = at
offset_of fault.Memory = 0

-- what is wrong at a byte of a program's text
abbrev pub lexical_words : LexFault → List ℕ
lexical_words (fault.BadByte at) = codes ": bad byte\n"
lexical_words (fault.LongName at) = codes ": long name\n"
lexical_words (fault.TooMany at) = codes ": too many tokens\n"
lexical_words (fault.TooDeep at) = codes ": too deep\n"
lexical_words fault.Memory = codes ": no memory\n"

-- the note line of a place in a program's text: its line, and the byte or token
abbrev pub place_note : ℕ → List ℕ → ℕ → List ℕ → List ℕ
place_note line unit place words = concat (codes "refused: line " ∷ decimal line ∷ unit ∷ decimal place ∷ words ∷ [])

-- why a node has no type
abbrev pub kind_words : TypeKind → List ℕ
kind_words kind.Unknown = codes ": unknown name\n"
kind_words kind.Twice = codes ": declared twice\n"
kind_words kind.NotConstant = codes ": not a constant\n"
kind_words kind.NotAPlace = codes ": not a place\n"
kind_words kind.Shape = codes ": shape\n"
kind_words kind.Set = codes ": set\n"
kind_words kind.Scale = codes ": scale\n"
kind_words kind.TooLarge = codes ": too large\n"

-- the note line of a line of a program's text
abbrev pub line_note : ℕ → List ℕ → List ℕ
line_note line words = concat (codes "refused: line " ∷ decimal line ∷ words ∷ [])

-- what is wrong with a cell of a table
abbrev pub cell_words : CellFault → List (List ℕ)
cell_words cell.Empty = codes ": empty cell\n" ∷ []
cell_words (cell.BadByte at) = codes ": bad byte at " ∷ decimal at ∷ codes "\n" ∷ []
cell_words cell.TooFine = codes ": too many decimals\n" ∷ []
cell_words cell.TooLarge = codes ": too large\n" ∷ []

-- the note line of a whole table, of one of its rows, and of a cell; the header is row 0
abbrev pub file_note : List ℕ → List (List ℕ) → List ℕ
file_note file words = concat (codes "refused: " ∷ file ∷ words)

abbrev pub row_note : List ℕ → ℕ → List (List ℕ) → List ℕ
row_note file row words = file_note file (codes " row " ∷ decimal row ∷ words)

abbrev pub cell_note : List ℕ → ℕ → ℕ → List (List ℕ) → List ℕ
cell_note file row column words = row_note file row (codes ", column " ∷ decimal column ∷ words)

-- the note line of a table's fault, by the name of its file
abbrev pub table_note : List ℕ → TableFault → List ℕ
table_note file table.NoHeader = file_note file (codes ": no header\n" ∷ [])
table_note file (table.Header column) = cell_note file 0 column (codes ": header\n" ∷ [])
table_note file (table.Width row) = row_note file row (codes ": width\n" ∷ [])
table_note file (table.Cell row column fault) = cell_note file row column (cell_words fault)
table_note file (table.Endpoint row column) = cell_note file row column (codes ": no such endpoint\n" ∷ [])
table_note file table.TooManyRows = file_note file (codes ": more than " ∷ decimal MOST_ELEMENTS ∷ codes " rows\n" ∷ [])
table_note file table.Memory = file_note file (codes ": no memory\n" ∷ [])

-- why a run traps
abbrev pub trap_words : TrapKind → List ℕ
trap_words trap.DivisionByZero = codes ": division by zero\n"
trap_words trap.NegativeRoot = codes ": root of a negative number\n"
trap_words trap.Assertion = codes ": assertion failed\n"

-- the note line of a trap, by the line of its statement and, in a map, the element
abbrev pub trap_note : ℕ → Option ℕ → TrapKind → List ℕ
trap_note line None kind = concat (codes "trap at line " ∷ decimal line ∷ trap_words kind ∷ [])
trap_note line (Some element) kind = concat (codes "trap at line " ∷ decimal line ∷ codes ", element " ∷ decimal element ∷ trap_words kind ∷ [])

-- the note line of a run that stops before its end, by the turns that it had
abbrev pub stop_note : ℕ → Stop → List ℕ
stop_note turns (stop.Trap line element kind) = trap_note line element kind
stop_note turns stop.Spent = concat (codes "spent: " ∷ decimal turns ∷ codes " turns\n" ∷ [])

-- the note line of a refusal, by what the command names
abbrev pub refusal_note : Named → Refusal → List ℕ
refusal_note names refusal.Words = usage_note
refusal_note names refusal.NotYet = codes "refused: not yet\n"
refusal_note names (refusal.FileLimit role) =
    concat (codes "limit: " ∷ names.file role ∷ codes " is over " ∷ decimal (limit_of role) ∷ codes " bytes\n" ∷ [])
refusal_note names (refusal.Lexical line fault) = place_note line (codes ", byte ") (offset_of fault) (lexical_words fault)
refusal_note names (refusal.Syntax line token) = place_note line (codes ", token ") token (codes ": syntax\n")
refusal_note names (refusal.NotAChain line) = line_note line (codes ": not a chain\n")
refusal_note names (refusal.IllTyped line kind) = line_note line (kind_words kind)
refusal_note names refusal.NoSuchSet = concat (codes "refused: no set " ∷ names.only ∷ codes "\n" ∷ [])
refusal_note names (refusal.FileCount files sets) =
    concat (codes "refused: " ∷ decimal files ∷ codes " files for " ∷ decimal sets ∷ codes " sets\n" ∷ [])
refusal_note names (refusal.Table number fault) = table_note (names.file (role.Table number)) fault
refusal_note names refusal.DenseWords = concat (codes "limit: dense words over " ∷ decimal MOST_DENSE_WORDS ∷ codes "\n" ∷ [])
refusal_note names (refusal.Stopped stop) = stop_note names.turns stop

-- the note line of an answer that is no output
abbrev pub note_of : Named → Failure → List ℕ
note_of names Memory = memory_note
note_of names (ReadFault role) = concat (codes "read fault: " ∷ names.file role ∷ codes "\n" ∷ [])
note_of names (Refused refusal) = refusal_note names refusal

-- A note line was put: whole, or a prefix of it where a fault of the notes was counted.
abbrev pub PutsNote : Option (List ℕ) → Option (List ℕ) → Type 0 → List ℕ → Type 0
PutsNote old new rose note = Puts old new note ⊎ (rose × PutsPrefix old new note)
