-- How a call of the program may end, and what shows it: the status, the bytes that are put out, and the
-- line that is put to the notes.
use Rattle.std.specs.Prelude.{◌≡◌, ◌⊎◌, ℕ, List, [], Option, None, Some, Result, Ok, Err, Contains}
use Rattle.simit_io.specs.Inputs.{Files}
use Rattle.simit_io.specs.Sink.{Puts, IsPrefixOf}
use Rattle.algebra_meaning.specs.declared.stopped.Stop.{Stop}
use Rattle.algebra_meaning.specs.declared.stopped.Stop.TheVariants as stop
use Rattle.command_words.specs.Commands.{words_of}
use Rattle.command_words.specs.declared.command.Words.{Words}
use Rattle.command_words.specs.declared.command.Words.TheVariants.{Run, Plain}
use Rattle.command_words.specs.declared.command.WordsFault.{WordsFault}
use Rattle.run_notes.specs.Named.{Named, named_by, nothing_named}
use Rattle.run_notes.specs.Notes.{PutsNote, note_of, write_fault_note}
use Rattle.run_notes.specs.declared.role.FileRole.{FileRole}
use Rattle.run_notes.specs.declared.failure.Refusal.{Refusal}
use Rattle.run_notes.specs.declared.failure.Refusal.TheVariants as refusal
use Rattle.run_notes.specs.declared.failure.Failure.{Failure}
use Rattle.run_notes.specs.declared.failure.Failure.TheVariants.{Memory, ReadFault, Refused}
use Rattle.simit_run.specs.Answer.{answer_of}
use Rattle.simit_run.specs.Hosts.{Hosts}
use Rattle.simit_run.specs.declared.status.Status.{Status}
use Rattle.simit_run.specs.declared.status.Status.TheVariants as status

pub record Ending : Type 0 where
  pub status : Status
  pub out : List ℕ
  pub note : List ℕ

-- what the words name; words that are no command name nothing
abbrev pub names_of : Result Words WordsFault → Named
names_of (Ok words) = named_by words
names_of (Err fault) = nothing_named

-- the program's file of a command that reads one, the first that it reads
abbrev pub first_file : Result Words WordsFault → Option (List ℕ)
first_file (Ok (Run program tables workers turns held only)) = Some program
first_file (Ok (Plain program tables turns only)) = Some program
first_file other = None

-- ---- statuses

abbrev pub stop_status : Stop → Status
stop_status (stop.Trap line element kind) = status.Trap
stop_status stop.Spent = status.Spent

abbrev pub refusal_status : Refusal → Status
refusal_status refusal.Words = status.Refused
refusal_status refusal.NotYet = status.Refused
refusal_status (refusal.FileLimit role) = status.Limit
refusal_status (refusal.Lexical line fault) = status.Refused
refusal_status (refusal.Syntax line token) = status.Refused
refusal_status (refusal.NotAChain line) = status.Refused
refusal_status (refusal.IllTyped line kind) = status.Refused
refusal_status refusal.NoSuchSet = status.Refused
refusal_status (refusal.FileCount files sets) = status.Refused
refusal_status (refusal.Table number fault) = status.Refused
refusal_status refusal.DenseWords = status.Limit
refusal_status (refusal.Stopped stop) = stop_status stop

abbrev pub status_of : Failure → Status
status_of Memory = status.Memory
status_of (ReadFault role) = status.ReadFault
status_of (Refused refusal) = refusal_status refusal

-- ---- endings

-- the ending of an answer: an output is put whole and without a note; without one nothing is put out
abbrev pub ending_of : List (List ℕ) → Result (List ℕ) Failure → Ending
ending_of words (Ok text) = record { status = status.Done; out = text; note = [] }
ending_of words (Err failure) = record { status = status_of failure; out = []; note = note_of (names_of (words_of words)) failure }

-- the ending of an output of which only a prefix could be put
abbrev pub cut_off : List ℕ → Ending
cut_off prefix = record { status = status.WriteFault; out = prefix; note = write_fault_note }

-- The endings that are allowed, where the inputs hold these files: the answer's own; out of memory; a counted fault at
-- one of the files that the answer comes to read; or, where the answer is an output, a counted fault of the sink.
abbrev pub MayEnd : Hosts → List (List ℕ) → Files → Type 0 → Type 0 → Ending → Type 0
MayEnd hosts words files inputs_rose out_rose ending =
    (ending ≡ ending_of words ((answer_of hosts words).answer files))
    ⊎ (ending ≡ ending_of words (Err Memory))
    ⊎ ((role : FileRole) × inputs_rose × Contains ((answer_of hosts words).reads files) role × (ending ≡ ending_of words (Err (ReadFault role))))
    ⊎ ((text prefix : List ℕ) × out_rose × ((answer_of hosts words).answer files ≡ Ok text) × IsPrefixOf prefix text × (ending ≡ cut_off prefix))

-- what shows an ending: the status that is answered, and what was put to the two sinks
pub record IsShown (ending : Ending) (answered : Status) (out_before out_after notes_before notes_after : Option (List ℕ)) (notes_rose : Type 0) : Type 0 where
  pub status : answered ≡ ending.status
  pub out : Puts out_before out_after ending.out
  pub note : PutsNote notes_before notes_after notes_rose ending.note
