-- The records of a table's bytes, read one after the other. Only private contracts cite these words.
use Rattle.std.specs.Prelude.{◌≡◌, ◌^◌, ◌<◌, ◌+◌, ℕ, List, [], ◌∷◌, length, All, Bool, true, false, Option, Some, None, Result, Ok, Err}
use Rattle.std.specs.Borrow.{Bor}
use Rattle.csv.specs.Reading.{Ready, default_config, is_flexible, reader_config, reader_state, reader_trim, records_from, source_of}
use Rattle.csv.specs.declared.parser.State.{State}
use Rattle.csv.specs.declared.reader.Reader.{Reader}
use Rattle.csv.specs.declared.reader.Trim.TheVariants as trim
use Rattle.set_tables.specs.declared.faults.TableFault.{TableFault}
use Rattle.set_tables.specs.declared.faults.TableFault.TheVariants.{Memory}

-- each cell is shorter than 2^32 bytes
abbrev pub AreShort : List (List ℕ) → Type 0
AreShort cells = All (λ cell. length cell < 2 ^ 32) cells

-- the bytes that a reader over a slice has left, unless it has failed
abbrev pub unread : Reader (Bor (List ℕ)) → Option (List ℕ)
unread reader = source_of (λ bytes. Some bytes.now) reader

-- the records of the bytes that are left
abbrev pub records_left : State → Option (List ℕ) → List (List (List ℕ))
records_left state None = []
records_left state (Some bytes) = records_from default_config (length bytes + 1) state bytes

abbrev pub left_of : Reader (Bor (List ℕ)) → List (List (List ℕ))
left_of reader = records_left (reader_state reader) (unread reader)

-- a reader reads as a table is read: records of any width, nothing trimmed, no header row and the default marks
pub record ReadsTable (reader : Reader (Bor (List ℕ))) : Type 0 where
  pub trims_nothing : reader_trim reader ≡ trim.None
  pub ready : Ready reader
  pub flexible : is_flexible reader ≡ true
  pub marks : reader_config reader ≡ default_config

-- what reading a record does to the records that are left, and that it refuses only out of memory
abbrev pub ReadsRow : List (List (List ℕ)) → List (List ℕ) → List (List (List ℕ)) → Result Bool TableFault → Type 0
ReadsRow old row new (Ok true) = old ≡ row ∷ new
ReadsRow old row new (Ok false) = old ≡ []
ReadsRow old row new (Err fault) = fault ≡ Memory
