-- What a call shows of a stage of the answer: words of the contracts inside this crate alone.
use Rattle.std.specs.Prelude.{◌≡◌, ⊤, ◌⊎◌, List, Option, None, Some, IfSome, Result, Ok, Err, Contains}
use Rattle.simit_io.specs.Inputs.{Files}
use Rattle.simit_run.specs.Stage.{Stage}
use Rattle.run_notes.specs.declared.role.FileRole.{FileRole}
use Rattle.run_notes.specs.declared.failure.Failure.{Failure}
use Rattle.run_notes.specs.declared.failure.Failure.TheVariants.{Memory, ReadFault, Refused}

-- a failure that needn't come of the files: out of memory, or a fault that was counted at one of the files that are read
abbrev pub IsFree : Type 0 → List FileRole → Failure → Type 0
IsFree rose reads Memory = ⊤
IsFree rose reads (ReadFault role) = rose × Contains reads role
IsFree rose reads (Refused refusal) = ⊥

-- what is left to say of a failure where the inputs' files are unknown: a read fault was counted
abbrev pub IsCounted : Type 0 → Failure → Type 0
IsCounted rose Memory = ⊤
IsCounted rose (ReadFault role) = rose
IsCounted rose (Refused refusal) = ⊤

abbrev pub ShowsFailure : {Y : Type 0} → Option Files → Type 0 → Stage Y → Failure → Type 0
ShowsFailure None rose stage failure = IsCounted rose failure
ShowsFailure (Some files) rose stage failure = (stage.answer files ≡ Err failure) ⊎ IsFree rose (stage.reads files) failure

-- what a call returned, seen by view, is what the stage gives of the files that are known, or it fails so
abbrev pub Shows : {X Y : Type 0} → (X → Y) → Option Files → Type 0 → Stage Y → Result X Failure → Type 0
Shows view known rose stage (Ok x) = IfSome known (λ files. stage.answer files ≡ Ok (view x))
Shows view known rose stage (Err failure) = ShowsFailure known rose stage failure

-- where the files are known, the rest of a stage answers as the whole does, and reads nothing more
pub record Goes {A : Type 0} (files : Files) (whole rest : Stage A) : Type 0 where
  pub answer : whole.answer files ≡ rest.answer files
  pub reads : (role : FileRole) → Contains (rest.reads files) role → Contains (whole.reads files) role

abbrev pub GoesOn : {A : Type 0} → Option Files → Stage A → Stage A → Type 0
GoesOn known whole rest = IfSome known (λ files. Goes files whole rest)
