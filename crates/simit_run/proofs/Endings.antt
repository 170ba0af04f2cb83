-- The endings of the top call.
use Rattle.std.proofs.Common.{◌≡◌, ℕ, List, [], Option, None, Some, Result, Ok, Err, refl, sym, ap, ◌∙◌}
use Rattle.std.specs.Prelude.{◌⊎◌, IfSome}
use mathlib.Core.Logic.{inl, inr}
use Rattle.simit_io.specs.Inputs.{Files}
use Rattle.simit_io.specs.Sink.{Puts, PutsPrefix}
use Rattle.simit_run.specs.Answer.{answer_of, command_stage}
use Rattle.simit_run.specs.Hosts.{Hosts}
use Rattle.command_words.specs.Commands.{words_of}
use Rattle.command_words.specs.declared.command.Words.{Words}
use Rattle.command_words.specs.declared.command.WordsFault.{WordsFault}
use Rattle.command_words.specs.declared.command.WordsFault.TheVariants as fault
use Rattle.run_notes.specs.Notes.{PutsNote, memory_note, note_of, usage_note}
use Rattle.simit_run.specs.Ending.{Ending, IsShown, MayEnd, cut_off, ending_of, names_of, status_of}
use Rattle.simit_run.specs.Shown.{ShowsFailure}
use Rattle.simit_run.specs.declared.status.Status.{Status}
use Rattle.simit_run.specs.declared.status.Status.TheVariants as status
use Rattle.run_notes.specs.declared.failure.Refusal.TheVariants as refusal
use Rattle.run_notes.specs.declared.failure.Failure.{Failure}
use Rattle.run_notes.specs.declared.failure.Failure.TheVariants.{Memory, ReadFault, Refused}

-- the answer of words that are no command, and of a command
answer_none : (hosts : Hosts) (words : List (List ℕ)) (files : Files) → words_of words ≡ Err fault.Refused → (answer_of hosts words).answer files ≡ Err (Refused refusal.Words)
unfolding answer_of
answer_none hosts words files none = rw none refl

pub answer_command : (hosts : Hosts) (words : List (List ℕ)) (command : Words) (files : Files) → words_of words ≡ Ok command → (answer_of hosts words).answer files ≡ (command_stage hosts command).answer files
unfolding answer_of
answer_command hosts words command files is = rw is refl

reads_command : (hosts : Hosts) (words : List (List ℕ)) (command : Words) (files : Files) → words_of words ≡ Ok command → (answer_of hosts words).reads files ≡ (command_stage hosts command).reads files
unfolding answer_of
reads_command hosts words command files is = rw is refl

-- a way to end that is shown
abbrev pub Ends : Hosts → List (List ℕ) → Type 0 → Type 0 → Type 0 → Option (List ℕ) → Option (List ℕ) → Option (List ℕ) → Option (List ℕ) → Status → Files → Type 0
Ends hosts words inputs_rose out_rose notes_rose out out' notes notes' answered files =
    (ending : Ending) × MayEnd hosts words files inputs_rose out_rose ending × IsShown ending answered out out' notes notes' notes_rose

-- nothing was put
abbrev NothingPut : Type 0
NothingPut = (old : Option (List ℕ)) → Puts old old []

module _ (hosts : Hosts) (nothing : NothingPut) (known : Option Files) (words : List (List ℕ)) (inputs_rose out_rose notes_rose : Type 0) (out out' notes notes' : Option (List ℕ)) where
  -- the words are no command
  pub ends_without_command : words_of words ≡ Err fault.Refused → out' ≡ out → PutsNote notes notes' notes_rose usage_note
      → IfSome known (Ends hosts words inputs_rose out_rose notes_rose out out' notes notes' status.Refused)
  ends_without_command none same note = at known
    where
      shown : (files : Files) → IsShown (ending_of words ((answer_of hosts words).answer files)) status.Refused out out' notes notes' notes_rose
      shown files = rw (answer_none hosts words files none) (record { status = refl; out = rw same (nothing out); note = note })

      at : (known : Option Files) → IfSome known (Ends hosts words inputs_rose out_rose notes_rose out out' notes notes' status.Refused)
      at None = tt
      at (Some files) = (ending_of words ((answer_of hosts words).answer files), inl refl, shown files)

  -- reading the words ran out of memory
  pub ends_without_memory : out' ≡ out → PutsNote notes notes' notes_rose memory_note
      → IfSome known (Ends hosts words inputs_rose out_rose notes_rose out out' notes notes' status.Memory)
  ends_without_memory same note = at known
    where
      at : (known : Option Files) → IfSome known (Ends hosts words inputs_rose out_rose notes_rose out out' notes notes' status.Memory)
      at None = tt
      at (Some files) = (ending_of words (Err Memory), inr (inl refl), record { status = refl; out = rw same (nothing out); note = note })

  module _ (command : Words) (is : words_of words ≡ Ok command) where
    -- the output was put whole
    pub ends_done : (text : List ℕ) → IfSome known (λ files. (command_stage hosts command).answer files ≡ Ok text) → Puts out out' text → notes' ≡ notes
        → IfSome known (Ends hosts words inputs_rose out_rose notes_rose out out' notes notes' status.Done)
    ends_done text given put same = at known given
      where
        at : (known : Option Files) → IfSome known (λ files. (command_stage hosts command).answer files ≡ Ok text) → IfSome known (Ends hosts words inputs_rose out_rose notes_rose out out' notes notes' status.Done)
        at None h = tt
        at (Some files) h = (ending_of words (Ok text), inl (ap (ending_of words) (sym (answer_command hosts words command files is ∙ h))), record { status = refl; out = put; note = inl (rw same (nothing notes)) })

    -- a prefix of the output was put
    pub ends_cut : (text : List ℕ) → IfSome known (λ files. (command_stage hosts command).answer files ≡ Ok text) → out_rose → PutsPrefix out out' text → PutsNote notes notes' notes_rose (cut_off []).note
        → IfSome known (Ends hosts words inputs_rose out_rose notes_rose out out' notes notes' status.WriteFault)
    ends_cut text given rose put note = at known given
      where
        at : (known : Option Files) → IfSome known (λ files. (command_stage hosts command).answer files ≡ Ok text) → IfSome known (Ends hosts words inputs_rose out_rose notes_rose out out' notes notes' status.WriteFault)
        at None h = tt
        at (Some files) h = (cut_off put.0, inr (inr (inr (text, put.0, rose, answer_command hosts words command files is ∙ h, put.1, refl))), record { status = refl; out = put.2; note = note })

    -- there is no output
    pub ends_failed : (failure : Failure) → ShowsFailure known inputs_rose (command_stage hosts command) failure → out' ≡ out → PutsNote notes notes' notes_rose (note_of (names_of (Ok command)) failure)
        → IfSome known (Ends hosts words inputs_rose out_rose notes_rose out out' notes notes' (status_of failure))
    ends_failed failure given same note = at known failure given note
      where
        shown : (failure : Failure) → PutsNote notes notes' notes_rose (note_of (names_of (Ok command)) failure) → IsShown (ending_of words (Err failure)) (status_of failure) out out' notes notes' notes_rose
        shown failure note = record { status = refl; out = rw same (nothing out); note = rw is note }

        at : (known : Option Files) (failure : Failure) → ShowsFailure known inputs_rose (command_stage hosts command) failure → PutsNote notes notes' notes_rose (note_of (names_of (Ok command)) failure)
            → IfSome known (Ends hosts words inputs_rose out_rose notes_rose out out' notes notes' (status_of failure))
        at None failure h note = tt
        at (Some files) failure (inl e) note = (ending_of words (Err failure), inl (ap (ending_of words) (sym (answer_command hosts words command files is ∙ e))), shown failure note)
        at (Some files) Memory (inr free) note = (ending_of words (Err Memory), inr (inl refl), shown Memory note)
        at (Some files) (ReadFault role) (inr free) note =
            (ending_of words (Err (ReadFault role)), inr (inr (inl (role, free.0, rw (reads_command hosts words command files is) free.1, refl))), shown (ReadFault role) note)
        at (Some files) (Refused refusal) (inr free) note = absurd free

-- words are refused where no memory was short
pub refused_words : {A : Type 0} (stated : Result A WordsFault) (found : WordsFault) → found ≡ fault.Refused → (found ≡ fault.Memory) ⊎ (stated ≡ Err found) → stated ≡ Err fault.Refused
refused_words stated found is (inl memory) = let differs : fault.Refused ≡ fault.Memory = sym is ∙ memory in cc differs
refused_words stated found is (inr same) = same ∙ ap Err is
