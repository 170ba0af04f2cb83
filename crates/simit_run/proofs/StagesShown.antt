-- What stages show, one after another.
use Rattle.std.proofs.Common.{◌≡◌, ℕ, ◌<◌, ◌+◌, List, [], ◌∷◌, length, drop, drop-cons, get_or, add-one, suc, Option, None, Some, Result, Ok, Err, refl, sym, ap, ◌∙◌, arith, inl, inr}
use Rattle.std.specs.Prelude.{◌⊎◌, IfSome}
use Rattle.std.proofs.lemmas.List.Elements.{Contains-append_left, Contains-append_right}
use Rattle.simit_io.specs.Inputs.{Files, IsMissing}
use Rattle.simit_run.specs.Shown.{GoesOn, Shows, ShowsFailure}
use Rattle.vocabulary.specs.Answers.{Answers}
use Rattle.simit_run.specs.Stage.{Stage, decided, file, fold_stages, reads_after, refused, ◌>>=◌}
use Rattle.run_notes.specs.declared.role.FileRole.{FileRole}
use Rattle.run_notes.specs.declared.failure.Refusal.{Refusal}
use Rattle.run_notes.specs.declared.failure.Failure.{Failure}
use Rattle.run_notes.specs.declared.failure.Failure.TheVariants.{Memory, ReadFault, Refused}

-- ---- one stage

-- out of memory is free
pub shows_memory : {Y : Type 0} (known : Option Files) (rose : Type 0) (stage : Stage Y) → ShowsFailure known rose stage Memory
shows_memory None rose stage = tt
shows_memory (Some files) rose stage = inr tt

-- what needs no file
pub shows_decided : {Y : Type 0} (known : Option Files) (rose : Type 0) (result : Result Y Refusal) (failure : Failure) → Answers Memory (refused result) (Err failure) → ShowsFailure known rose (decided result) failure
shows_decided None rose result Memory answers = tt
shows_decided None rose result (ReadFault role) (inl same) = cc same
shows_decided None rose (Ok y) (ReadFault role) (inr same) = cc same
shows_decided None rose (Err refusal) (ReadFault role) (inr same) = cc same
shows_decided None rose result (Refused refusal) answers = tt
shows_decided (Some files) rose result failure (inl same) = rw same (inr tt)
shows_decided (Some files) rose result failure (inr same) = inl same

-- a file that can't be read
pub file_fails : (known : Option Files) (rose : Type 0) (role : FileRole) (name : List ℕ) → (rose ⊎ IsMissing known name) → ShowsFailure known rose (file role name) (ReadFault role)
file_fails None rose role name (inl counted) = counted
file_fails None rose role name (inr missing) = absurd missing
file_fails (Some files) rose role name (inl counted) = inr (counted, (0, omega arith, refl))
file_fails (Some files) rose role name (inr missing) = inl (rw missing refl)

-- ---- one stage after another

-- the first fails
pub fails_first : {Y W : Type 0} (known : Option Files) (rose rose' : Type 0) (first : Stage Y) (next : Y → Stage W) (failure : Failure) → (rose → rose')
    → ShowsFailure known rose first failure → ShowsFailure known rose' (first >>= next) failure
fails_first None rose rose' first next Memory later shown = tt
fails_first None rose rose' first next (ReadFault role) later shown = later shown
fails_first None rose rose' first next (Refused refusal) later shown = tt
fails_first (Some files) rose rose' first next failure later (inl gives) = inl (rw gives refl)
fails_first (Some files) rose rose' first next Memory later (inr free) = inr tt
fails_first (Some files) rose rose' first next (ReadFault role) later (inr free) =
    inr (later free.0, Contains-append_left (first.reads files) (reads_after (first.answer files) next files) role free.1)
fails_first (Some files) rose rose' first next (Refused refusal) later (inr free) = absurd free

-- the first gives a value, and the second is what is left
pub goes_next : {Y W : Type 0} (known : Option Files) (first : Stage Y) (next : Y → Stage W) (y : Y) → IfSome known (λ files. first.answer files ≡ Ok y) → GoesOn known (first >>= next) (next y)
goes_next None first next y gives = tt
goes_next (Some files) first next y gives = record {
  answer = rw gives refl;
  reads = λ role among. Contains-append_right (first.reads files) (reads_after (first.answer files) next files) role (rw gives among);
}

pub goes_same : {Y : Type 0} (known : Option Files) (stage : Stage Y) → GoesOn known stage stage
goes_same None stage = tt
goes_same (Some files) stage = record { answer = refl; reads = λ role among. among }

pub goes_further : {Y : Type 0} (known : Option Files) (a b c : Stage Y) → GoesOn known a b → GoesOn known b c → GoesOn known a c
goes_further None a b c first second = tt
goes_further (Some files) a b c first second = record {
  answer = first.answer ∙ second.answer;
  reads = λ role among. first.reads role (second.reads role among);
}

-- what is left shows itself, so does the whole
pub shows_whole : {X Y : Type 0} (view : X → Y) (known : Option Files) (rose rose' : Type 0) (whole rest : Stage Y) (result : Result X Failure) → (rose → rose')
    → GoesOn known whole rest → Shows view known rose rest result → Shows view known rose' whole result
shows_whole view None rose rose' whole rest (Ok x) later goes shown = tt
shows_whole view (Some files) rose rose' whole rest (Ok x) later goes shown = goes.answer ∙ shown
shows_whole view None rose rose' whole rest (Err Memory) later goes shown = tt
shows_whole view None rose rose' whole rest (Err (ReadFault role)) later goes shown = later shown
shows_whole view None rose rose' whole rest (Err (Refused refusal)) later goes shown = tt
shows_whole view (Some files) rose rose' whole rest (Err failure) later goes (inl gives) = inl (goes.answer ∙ gives)
shows_whole view (Some files) rose rose' whole rest (Err Memory) later goes (inr free) = inr tt
shows_whole view (Some files) rose rose' whole rest (Err (ReadFault role)) later goes (inr free) = inr (later free.0, goes.reads role free.1)
shows_whole view (Some files) rose rose' whole rest (Err (Refused refusal)) later goes (inr free) = absurd free

-- a value that needs no file
pub gives_decided : {Y : Type 0} (known : Option Files) (result : Result Y Refusal) (y : Y) → refused result ≡ Ok y → IfSome known (λ files. (decided result).answer files ≡ Ok y)
gives_decided None result y is = tt
gives_decided (Some files) result y is = is

-- ---- stages for the elements of a list

-- the next element
pub fold_next : {A B : Type 0} (known : Option Files) (step : A → B → Stage A) (start next : A) (xs : List B) (k : ℕ) (x : B) → k < length xs → x ≡ get_or xs k x
    → IfSome known (λ files. (step start x).answer files ≡ Ok next) → GoesOn known (fold_stages step start (drop k xs)) (fold_stages step next (drop (k + 1) xs))
unfolding fold_stages
fold_next known step start next xs k x below here gives =
    let front : drop k xs ≡ x ∷ drop (k + 1) xs = drop-cons xs k x below ∙ ap (λ y. y ∷ drop (suc k) xs) (sym here) ∙ ap (λ n. x ∷ drop n xs) (sym (add-one k)) in
    rw front (goes_next known (step start x) (λ y. fold_stages step y (drop (k + 1) xs)) next gives)

pub fold_fails : {A B : Type 0} (known : Option Files) (rose rose' : Type 0) (step : A → B → Stage A) (start : A) (xs : List B) (k : ℕ) (x : B) (failure : Failure) → k < length xs → x ≡ get_or xs k x → (rose → rose')
    → ShowsFailure known rose (step start x) failure → ShowsFailure known rose' (fold_stages step start (drop k xs)) failure
unfolding fold_stages
fold_fails known rose rose' step start xs k x failure below here later shown =
    let front : drop k xs ≡ x ∷ drop (k + 1) xs = drop-cons xs k x below ∙ ap (λ y. y ∷ drop (suc k) xs) (sym here) ∙ ap (λ n. x ∷ drop n xs) (sym (add-one k)) in
    rw front (fails_first known rose rose' (step start x) (λ y. fold_stages step y (drop (k + 1) xs)) failure later shown)

-- no element is left
pub fold_end : {A B : Type 0} (known : Option Files) (step : A → B → Stage A) (start : A) (xs : List B) → xs ≡ [] → IfSome known (λ files. (fold_stages step start xs).answer files ≡ Ok start)
unfolding fold_stages
fold_end None step start xs none = tt
fold_end (Some files) step start xs none = rw none refl

-- a file, and then what its bytes decide
pub file_then_fails : {Y : Type 0} (known : Option Files) (rose : Type 0) (role : FileRole) (name bytes : List ℕ) (result : List ℕ → Result Y Refusal) (failure : Failure)
    → IfSome known (λ files. (file role name).answer files ≡ Ok bytes) → Answers Memory (refused (result bytes)) (Err failure)
    → ShowsFailure known rose (file role name >>= λ source. decided (result source)) failure
file_then_fails {Y} known rose role name bytes result failure given answers =
    shows_whole {X = Y} (λ y. y) known rose rose (file role name >>= λ source. decided (result source)) (decided (result bytes)) (Err failure) (λ r. r)
    (goes_next known (file role name) (λ source. decided (result source)) bytes given) (shows_decided known rose (result bytes) failure answers)

pub file_then_gives : {Y : Type 0} (known : Option Files) (role : FileRole) (name bytes : List ℕ) (result : List ℕ → Result Y Refusal) (y : Y)
    → IfSome known (λ files. (file role name).answer files ≡ Ok bytes) → refused (result bytes) ≡ Ok y
    → IfSome known (λ files. (file role name >>= λ source. decided (result source)).answer files ≡ Ok y)
file_then_gives None role name bytes result y given is = tt
file_then_gives (Some files) role name bytes result y given is = rw given is
