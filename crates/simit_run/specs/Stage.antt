-- Stages of the answer: what each gives of the files that are there, and which files it reads.
use Rattle.std.specs.Prelude.{ℕ, nat_lt, List, [], ◌∷◌, ◌++◌, length, Option, Some, None, Result, Ok, Err, if◌then◌else◌}
use Rattle.vocabulary.specs.Answers as answers
use Rattle.simit_io.specs.Inputs.{Files}
use Rattle.run_notes.specs.Limits.{limit_of}
use Rattle.run_notes.specs.declared.role.FileRole.{FileRole}
use Rattle.run_notes.specs.declared.failure.Failure.{Failure}
use Rattle.run_notes.specs.declared.failure.Failure.TheVariants.{ReadFault, Refused}
use Rattle.run_notes.specs.declared.failure.Refusal.{Refusal}
use Rattle.run_notes.specs.declared.failure.Refusal.TheVariants.{FileLimit}

pub record Stage (A : Type 0) : Type 0 where
  -- a value, or why there is none
  pub answer : Files → Result A Failure
  -- the files that it comes to read, in order
  pub reads : Files → List FileRole

-- what is refused, as an answer
abbrev pub refused : {A : Type 0} → Result A Refusal → Result A Failure
refused (Ok x) = Ok x
refused (Err refusal) = Err (Refused refusal)

-- a stage that needs no file
abbrev pub decided : {A : Type 0} → Result A Refusal → Stage A
decided result = record { answer = λ files. refused result; reads = λ files. [] }

-- what is read after a first stage: nothing where that fails
abbrev pub reads_after : {A B : Type 0} → Result A Failure → (A → Stage B) → Files → List FileRole
reads_after (Ok x) next files = (next x).reads files
reads_after (Err failure) next files = []

-- one stage after another
infixl 10 ◌>>=◌
abbrev pub ◌>>=◌ : {A B : Type 0} → Stage A → (A → Stage B) → Stage B
first >>= next = record {
  answer = λ files. answers.◌>>=◌ (first.answer files) (λ x. (next x).answer files);
  reads = λ files. first.reads files ++ reads_after (first.answer files) next files;
}

-- stages for the elements of a list, one after another
unfoldable pub fold_stages : {A B : Type 0} → (A → B → Stage A) → A → List B → Stage A
fold_stages step start [] = decided (Ok start)
fold_stages step start (x ∷ xs) = step start x >>= λ next. fold_stages step next xs

-- what becomes of reading a file, from what is held under its name
abbrev pub file_answer : FileRole → Option (List ℕ) → Result (List ℕ) Failure
file_answer role None = Err (ReadFault role)
file_answer role (Some bytes) = if nat_lt (limit_of role) (length bytes) then Err (Refused (FileLimit role)) else Ok bytes

-- the bytes of the file of a name
abbrev pub file : FileRole → List ℕ → Stage (List ℕ)
file role name = record { answer = λ files. file_answer role (files name); reads = λ files. role ∷ [] }
