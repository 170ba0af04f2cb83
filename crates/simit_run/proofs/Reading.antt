-- What reading the program and the tables shows.
use Rattle.std.proofs.Common.{◌≡◌, ◌≤◌, ◌<◌, ◌+◌, ℕ, List, [], ◌∷◌, ◌++◌, length, drop, get_or, Option, None, Some, Result, Ok, Err, refl, sym, ap, subst, arith}
use Rattle.std.specs.Prelude.{IfSome, if◌then◌else◌}
use mathlib.Core.Logic.{inr}
use Rattle.std.proofs.lemmas.Bool.{eq-eqb, ne_eqb}
use Rattle.std.proofs.lemmas.List.{drop_all}
use Rattle.vocabulary.specs.Answers.{Answers}
use Rattle.simit_io.specs.Inputs.{Files, Rose}
use Rattle.hypergraph.specs.SetValue.{SetValue}
use Rattle.typed_tree.specs.declared.program.TypedProgram.{TypedProgram}
use Rattle.host_table.specs.declared.table.HostName.{HostName}
use Rattle.algebra_meaning.specs.Linked.{LinkedProgram, linked}
use Rattle.simit_run.specs.Hosts.{Hosts}
use Rattle.simit_run.specs.Answer.{files_stage, names_for, program_stage, set_in, set_stage, tables_stage, typed_stage, with_set}
use Rattle.simit_run.specs.Output.{chosen_in, output_of}
use Rattle.simit_run.specs.ProgramText.{typed_of}
use Rattle.simit_run.specs.Shown.{GoesOn, Shows, ShowsFailure}
use Rattle.simit_run.specs.Stage.{Stage, decided, file, fold_stages, refused, ◌>>=◌}
use Rattle.run_notes.specs.declared.role.FileRole.TheVariants as role
use Rattle.run_notes.specs.declared.failure.Failure.{Failure}
use Rattle.run_notes.specs.declared.failure.Failure.TheVariants.{Memory, Refused}
use Rattle.run_notes.specs.declared.failure.Refusal.TheVariants.{FileCount}
use Rattle.simit_run.proofs.StagesShown.{fails_first, fold_end, fold_fails, fold_next, file_then_fails, file_then_gives, gives_decided, goes_further, goes_next, shows_decided, shows_whole}

-- ---- the program's file

module _ (hosts : List HostName) (known : Option Files) (rose : Type 0) (name : List ℕ) where
  pub program_fails_first : (failure : Failure) → ShowsFailure known rose (file role.Program name) failure → ShowsFailure known rose (program_stage hosts name) failure
  unfolding program_stage
  program_fails_first failure shown = fails_first known rose rose (file role.Program name) (λ source. decided (typed_of hosts source)) failure (λ r. r) shown

  pub program_fails : (bytes : List ℕ) (failure : Failure) → IfSome known (λ files. (file role.Program name).answer files ≡ Ok bytes) → Answers Memory (refused (typed_of hosts bytes)) (Err failure)
      → ShowsFailure known rose (program_stage hosts name) failure
  unfolding program_stage
  program_fails bytes failure given answers = file_then_fails known rose role.Program name bytes (typed_of hosts) failure given answers

  pub program_given : (bytes : List ℕ) (program : TypedProgram) → IfSome known (λ files. (file role.Program name).answer files ≡ Ok bytes) → refused (typed_of hosts bytes) ≡ Ok program
      → IfSome known (λ files. (program_stage hosts name).answer files ≡ Ok program)
  unfolding program_stage
  program_given bytes program given is = file_then_gives known role.Program name bytes (typed_of hosts) program given is

-- ---- the file of the next table

module _ (known : Option Files) (rose : Type 0) (program : TypedProgram) (sets : List SetValue) (name : List ℕ) where
  pub set_fails_first : (failure : Failure) → ShowsFailure known rose (file (role.Table (length sets)) name) failure → ShowsFailure known rose (set_stage program sets name) failure
  unfolding set_stage
  set_fails_first failure shown = fails_first known rose rose (file (role.Table (length sets)) name) (λ bytes. decided (set_in program sets bytes)) failure (λ r. r) shown

  pub set_fails : (bytes : List ℕ) (failure : Failure) → IfSome known (λ files. (file (role.Table (length sets)) name).answer files ≡ Ok bytes) → Answers Memory (refused (set_in program sets bytes)) (Err failure)
      → ShowsFailure known rose (set_stage program sets name) failure
  unfolding set_stage
  set_fails bytes failure given answers = file_then_fails known rose (role.Table (length sets)) name bytes (set_in program sets) failure given answers

  pub set_given : (bytes : List ℕ) (set : SetValue) → IfSome known (λ files. (file (role.Table (length sets)) name).answer files ≡ Ok bytes) → refused (set_in program sets bytes) ≡ Ok set
      → IfSome known (λ files. (set_stage program sets name).answer files ≡ Ok set)
  unfolding set_stage
  set_given bytes set given is = file_then_gives known (role.Table (length sets)) name bytes (set_in program sets) set given is

-- ---- one table after another

-- the name of the file of a number
module _ (program : TypedProgram) where
  -- the next set was read
  pub next_read : (known : Option Files) (names : List (List ℕ)) (k : ℕ) (sets : List SetValue) (name : List ℕ) (set : SetValue) → k < length names → name ≡ get_or names k name
      → IfSome known (λ files. (set_stage program sets name).answer files ≡ Ok set)
      → GoesOn known (fold_stages (with_set program) sets (drop k names)) (fold_stages (with_set program) (sets ++ set ∷ []) (drop (k + 1) names))
  next_read known names k sets name set within here given = fold_next known (with_set program) sets (sets ++ set ∷ []) names k name within here (with known given)
    where
      with : (known : Option Files) → IfSome known (λ files. (set_stage program sets name).answer files ≡ Ok set) → IfSome known (λ files. (with_set program sets name).answer files ≡ Ok (sets ++ set ∷ []))
      with None given = tt
      with (Some files) given = rw given refl

  -- the next set fails
  pub next_fails : (known : Option Files) (rose rose' : Type 0) (names : List (List ℕ)) (k : ℕ) (sets : List SetValue) (name : List ℕ) (failure : Failure) → k < length names → name ≡ get_or names k name
      → (rose → rose') → ShowsFailure known rose (set_stage program sets name) failure → ShowsFailure known rose' (fold_stages (with_set program) sets (drop k names)) failure
  next_fails known rose rose' names k sets name failure within here later shown =
      fold_fails known rose rose' (with_set program) sets names k name failure within here later
      (fails_first known rose rose (set_stage program sets name) (λ set. decided (Ok (sets ++ set ∷ []))) failure (λ r. r) shown)

-- what a reading of all tables shows where one fails, and how it goes on where one was read
module _ (program : TypedProgram) (known known' : Option Files) (names : List (List ℕ)) (k : ℕ) (sets sets' : List SetValue) (name name' : List ℕ) where
  pub sets_fail : (before mid now : ℕ) (failure : Failure) → k < length names → name ≡ get_or names k name → known' ≡ known → sets' ≡ sets → name' ≡ name → before ≤ mid
      → GoesOn known (fold_stages (with_set program) [] names) (fold_stages (with_set program) sets (drop k names)) → ShowsFailure known' (Rose mid now) (set_stage program sets' name') failure
      → ShowsFailure known (Rose before now) (fold_stages (with_set program) [] names) failure
  sets_fail before mid now failure within here same_known same_sets same_name le left shown =
      let shown1 : ShowsFailure known (Rose mid now) (set_stage program sets' name') failure = subst (λ (f : Option Files). ShowsFailure f (Rose mid now) (set_stage program sets' name') failure) same_known shown in
      let shown2 : ShowsFailure known (Rose mid now) (set_stage program sets name') failure = subst (λ (s : List SetValue). ShowsFailure known (Rose mid now) (set_stage program s name') failure) same_sets shown1 in
      let shown3 : ShowsFailure known (Rose mid now) (set_stage program sets name) failure = subst (λ (n : List ℕ). ShowsFailure known (Rose mid now) (set_stage program sets n) failure) same_name shown2 in
      shows_whole {X = List SetValue} (λ all. all) known (Rose before now) (Rose before now) (fold_stages (with_set program) [] names) (fold_stages (with_set program) sets (drop k names)) (Err failure) (λ r. r) left
      (next_fails program known (Rose mid now) (Rose before now) names k sets name failure within here (λ r. omega arith) shown3)

  pub sets_go_on : (new : List SetValue) (set : SetValue) → k < length names → name ≡ get_or names k name → known' ≡ known → sets' ≡ sets → name' ≡ name → new ≡ sets ++ set ∷ []
      → GoesOn known (fold_stages (with_set program) [] names) (fold_stages (with_set program) sets (drop k names)) → IfSome known' (λ files. (set_stage program sets' name').answer files ≡ Ok set)
      → GoesOn known (fold_stages (with_set program) [] names) (fold_stages (with_set program) new (drop (k + 1) names))
  sets_go_on new set within here same_known same_sets same_name grown left given =
      let given1 : IfSome known (λ files. (set_stage program sets' name').answer files ≡ Ok set) = subst (λ (f : Option Files). IfSome f (λ files. (set_stage program sets' name').answer files ≡ Ok set)) same_known given in
      let given2 : IfSome known (λ files. (set_stage program sets name').answer files ≡ Ok set) = subst (λ (s : List SetValue). IfSome known (λ files. (set_stage program s name').answer files ≡ Ok set)) same_sets given1 in
      let given3 : IfSome known (λ files. (set_stage program sets name).answer files ≡ Ok set) = subst (λ (n : List ℕ). IfSome known (λ files. (set_stage program sets n).answer files ≡ Ok set)) same_name given2 in
      subst (λ (all : List SetValue). GoesOn known (fold_stages (with_set program) [] names) (fold_stages (with_set program) all (drop (k + 1) names))) (sym grown)
      (goes_further known (fold_stages (with_set program) [] names) (fold_stages (with_set program) sets (drop k names)) (fold_stages (with_set program) (sets ++ set ∷ []) (drop (k + 1) names)) left
      (next_read program known names k sets name set within here given3))

-- all were read
pub sets_all : (program : TypedProgram) (known : Option Files) (names : List (List ℕ)) (k : ℕ) (sets : List SetValue) → length names ≤ k
    → GoesOn known (fold_stages (with_set program) [] names) (fold_stages (with_set program) sets (drop k names)) → IfSome known (λ files. (fold_stages (with_set program) [] names).answer files ≡ Ok sets)
sets_all program known names k sets past left =
    shows_whole {X = List SetValue} (λ all. all) known (Unit {0}) (Unit {0}) (fold_stages (with_set program) [] names) (fold_stages (with_set program) sets (drop k names)) (Ok sets) (λ r. r) left
    (fold_end known (with_set program) sets (drop k names) (drop_all k names past))

-- ---- the program on its tables

-- as many names as sets, and another number
names-given : (program : TypedProgram) (tables : List (List ℕ)) → length tables ≡ length program.sets → names_for program tables ≡ Ok tables
unfolding names_for
names-given program tables same = ap (λ b. if b then Ok tables else Err (FileCount (length tables) (length program.sets))) (eq-eqb (length tables) (length program.sets) same)

names-differ : (program : TypedProgram) (tables : List (List ℕ)) → ((length tables ≡ length program.sets) → ⊥) → names_for program tables ≡ Err (FileCount (length tables) (length program.sets))
unfolding names_for
names-differ program tables differs =
    ap (λ b. if b then Ok tables else Err (FileCount (length tables) (length program.sets))) (ne_eqb (length tables) (length program.sets) differs)

module _ (known : Option Files) (rose : Type 0) (program : LinkedProgram) (turns : ℕ) (chosen : Option ℕ) (tables : List (List ℕ)) where
  -- the stages after the names
  abbrev on_names : List (List ℕ) → Stage (List ℕ)
  on_names names = fold_stages (with_set program.typed) [] names >>= λ sets. decided (output_of program turns chosen sets)

  -- another number of tables than of sets
  pub count_differs : ((length tables ≡ length program.typed.sets) → ⊥) → ShowsFailure known rose (tables_stage program turns chosen tables) (Refused (FileCount (length tables) (length program.typed.sets)))
  unfolding tables_stage
  count_differs differs =
      fails_first known rose rose (decided (names_for program.typed tables)) on_names (Refused (FileCount (length tables) (length program.typed.sets))) (λ r. r)
      (shows_decided known rose (names_for program.typed tables) (Refused (FileCount (length tables) (length program.typed.sets))) (inr (ap refused (names-differ program.typed tables differs))))

  given_names : length tables ≡ length program.typed.sets → IfSome known (λ files. (decided (names_for program.typed tables)).answer files ≡ Ok tables)
  given_names same = gives_decided known (names_for program.typed tables) tables (ap refused (names-given program.typed tables same))

  -- a table fails
  pub tables_fail : length tables ≡ length program.typed.sets → (failure : Failure) → ShowsFailure known rose (fold_stages (with_set program.typed) [] tables) failure → ShowsFailure known rose (tables_stage program turns chosen tables) failure
  unfolding tables_stage
  tables_fail same failure shown =
      shows_whole {X = List ℕ} (λ text. text) known rose rose (decided (names_for program.typed tables) >>= on_names) (on_names tables) (Err failure) (λ r. r)
      (goes_next known (decided (names_for program.typed tables)) on_names tables (given_names same))
      (fails_first known rose rose (fold_stages (with_set program.typed) [] tables) (λ sets. decided (output_of program turns chosen sets)) failure (λ r. r) shown)

  -- all are read, and what is put out of them is left
  all_read : length tables ≡ length program.typed.sets → (sets : List SetValue) → IfSome known (λ files. (fold_stages (with_set program.typed) [] tables).answer files ≡ Ok sets)
      → GoesOn known (tables_stage program turns chosen tables) (decided (output_of program turns chosen sets))
  unfolding tables_stage
  all_read same sets given =
      goes_further known (decided (names_for program.typed tables) >>= on_names) (on_names tables) (decided (output_of program turns chosen sets))
      (goes_next known (decided (names_for program.typed tables)) on_names tables (given_names same))
      (goes_next known (fold_stages (with_set program.typed) [] tables) (λ sets. decided (output_of program turns chosen sets)) sets given)

  -- there is no output
  pub output_fails : length tables ≡ length program.typed.sets → (sets : List SetValue) → IfSome known (λ files. (fold_stages (with_set program.typed) [] tables).answer files ≡ Ok sets)
      → (failure : Failure) → Answers Memory (refused (output_of program turns chosen sets)) (Err failure) → ShowsFailure known rose (tables_stage program turns chosen tables) failure
  output_fails same sets given failure answers =
      shows_whole {X = List ℕ} (λ text. text) known rose rose (tables_stage program turns chosen tables) (decided (output_of program turns chosen sets)) (Err failure) (λ r. r) (all_read same sets given)
      (shows_decided known rose (output_of program turns chosen sets) failure answers)

  -- there is one
  pub output_given : length tables ≡ length program.typed.sets → (sets : List SetValue) → IfSome known (λ files. (fold_stages (with_set program.typed) [] tables).answer files ≡ Ok sets)
      → (text : List ℕ) → refused (output_of program turns chosen sets) ≡ Ok text → IfSome known (λ files. (tables_stage program turns chosen tables).answer files ≡ Ok text)
  output_given same sets given text is =
      shows_whole {X = List ℕ} (λ text. text) known rose rose (tables_stage program turns chosen tables) (decided (output_of program turns chosen sets)) (Ok text) (λ r. r) (all_read same sets given)
      (gives_decided known (output_of program turns chosen sets) text is)

-- ---- the program on its tables, where the set is chosen by its name

module _ (known : Option Files) (program : LinkedProgram) (turns : ℕ) (only : Option (List ℕ)) (tables : List (List ℕ)) where
  abbrev on_chosen : Option ℕ → Stage (List ℕ)
  on_chosen chosen = tables_stage program turns chosen tables

  -- there is no such set
  pub none_chosen : (rose : Type 0) (failure : Failure) → Err failure ≡ refused (chosen_in program.typed only) → ShowsFailure known rose (typed_stage program turns only tables) failure
  unfolding typed_stage
  none_chosen rose failure is =
      fails_first known rose rose (decided (chosen_in program.typed only)) on_chosen failure (λ r. r) (shows_decided known rose (chosen_in program.typed only) failure (inr (sym is)))

  -- there is one, or all are put out
  pub typed_shows : {X : Type 0} (view : X → List ℕ) (rose : Type 0) (chosen : Option ℕ) (result : Result X Failure) → Ok chosen ≡ refused (chosen_in program.typed only)
      → Shows view known rose (tables_stage program turns chosen tables) result → Shows view known rose (typed_stage program turns only tables) result
  unfolding typed_stage
  typed_shows view rose chosen result is shown =
      shows_whole view known rose rose (decided (chosen_in program.typed only) >>= on_chosen) (on_chosen chosen) result (λ r. r)
      (goes_next known (decided (chosen_in program.typed only)) on_chosen chosen (gives_decided known (chosen_in program.typed only) chosen (sym is))) shown

-- ---- the program of a file

module _ (hosts : Hosts) (known : Option Files) (name : List ℕ) (turns : ℕ) (only : Option (List ℕ)) (tables : List (List ℕ)) where
  abbrev on_program : TypedProgram → Stage (List ℕ)
  on_program program = typed_stage (linked hosts.answer program) turns only tables

  pub files_fail_first : (before mid now : ℕ) (failure : Failure) → mid ≤ now → ShowsFailure known (Rose before mid) (program_stage hosts.names name) failure → ShowsFailure known (Rose before now) (files_stage hosts name turns only tables) failure
  unfolding files_stage
  files_fail_first before mid now failure le shown =
      fails_first known (Rose before mid) (Rose before now) (program_stage hosts.names name) on_program failure (λ r. omega arith) shown

  pub files_show : {X : Type 0} (view : X → List ℕ) (known' : Option Files) (before mid now : ℕ) (program : TypedProgram) (result : Result X Failure) → IfSome known (λ files. (program_stage hosts.names name).answer files ≡ Ok program)
      → known' ≡ known → before ≤ mid → Shows view known' (Rose mid now) (typed_stage (linked hosts.answer program) turns only tables) result → Shows view known (Rose before now) (files_stage hosts name turns only tables) result
  unfolding files_stage
  files_show view known' before mid now program result given same le shown =
      shows_whole view known (Rose mid now) (Rose before now) (program_stage hosts.names name >>= on_program) (on_program program) result (λ r. omega arith)
      (goes_next known (program_stage hosts.names name) on_program program given)
      (subst (λ (f : Option Files). Shows view f (Rose mid now) (typed_stage (linked hosts.answer program) turns only tables) result) same shown)
